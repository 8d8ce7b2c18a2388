-- The lines which show that a set is dead: none of its states is a goal state, and no action leads
-- out of it but into a dead set, or, by a step backwards, but from a dead set.
use Rattle.std.specs.Prelude.{◌+◌, ℕ, Bool, true, false, List, [], ◌∷◌}
use Rattle.hv_lines.specs.declared.line.Expr.{Expr}
use Rattle.hv_lines.specs.declared.line.Expr.TheVariants as E
use Rattle.hv_lines.specs.declared.line.Line.{Line}
use Rattle.hv_lines.specs.declared.line.Line.TheVariants as L
use Rattle.hv_lines.specs.declared.line.Statement.TheVariants as T
use Rattle.hv_lines.specs.declared.line.Word.{Word}
use Rattle.hv_lines.specs.declared.line.Word.TheVariants as W
use Rattle.hv_lines.specs.declared.note.Note.{Note}

-- the step from a set, or back from it, by all actions
abbrev pub step_by : Bool → ℕ → Expr
step_by true set = E.After set 0
step_by false set = E.Before set 0

-- the word of a statement about such a step
abbrev pub word_by : Bool → Word
word_by true = W.B2
word_by false = W.B3

-- the rule that concludes from such a step
abbrev pub rule_by : Bool → Word
rule_by true = W.Pg
rule_by false = W.Rg

-- the empty set, and the line of every draft which says that it is dead
abbrev pub empty_note : Note
empty_note = record { set = 0; line = 0 }

-- The seven lines which show that the newest set, `dead`, is dead, where that of the note `union`
-- is. Where the step goes forwards, `dead` is the formula `set` itself, and no action leads out of
-- it but into the union. Otherwise it is the negation of that formula, the step goes backwards from
-- the formula, and no action leads out of `dead` but from the union. None of the states of `dead`
-- is a goal state. The first statement is line k.
abbrev pub dead_lines : Bool → ℕ → ℕ → Note → ℕ → List Line
dead_lines forwards set dead union k =
    L.Expr (dead + 1) (step_by forwards set)
    ∷ L.Expr (dead + 2) (E.Or set union.set)
    ∷ L.Expr (dead + 3) (E.And dead 2)
    ∷ L.Known k (T.Sub (dead + 1) (dead + 2)) (word_by forwards) []
    ∷ L.Known (k + 1) (T.Sub (dead + 3) 0) W.B1 []
    ∷ L.Known (k + 2) (T.Dead (dead + 3)) W.Sd ((k + 1) ∷ 0 ∷ [])
    ∷ L.Known (k + 3) (T.Dead dead) (rule_by forwards) (k ∷ union.line ∷ (k + 2) ∷ [])
    ∷ []
