-- The lines with which a replay ends. The expanded states lead only to each other and to the union
-- of the pruned ones, none of them holds the goal, and the initial state is among all these.
use Rattle.std.specs.Prelude.{◌+◌, ℕ, true, List, [], ◌∷◌, ◌++◌}
use Rattle.hv_lines.specs.DeadLines.{dead_lines}
use Rattle.hv_lines.specs.Drafts.{conclusion}
use Rattle.hv_lines.specs.declared.line.Expr.TheVariants as E
use Rattle.hv_lines.specs.declared.line.Line.{Line}
use Rattle.hv_lines.specs.declared.line.Line.TheVariants as L
use Rattle.hv_lines.specs.declared.line.Statement.TheVariants as T
use Rattle.hv_lines.specs.declared.line.Word.TheVariants as W
use Rattle.hv_lines.specs.declared.note.Note.{Note}

-- The nine lines that show that the expanded states are dead, and their union with the pruned ones.
-- The explicit set of the expanded states becomes set s, and the first statement is line k; `union`
-- is the union of all pruned states.
abbrev pub closing_block : ℕ → ℕ → List (List ℕ) → Note → List Line
closing_block s k states union =
    L.Expr s (E.States states)
    ∷ dead_lines true s s union k
    ++ L.Known (k + 4) (T.Dead (s + 2)) W.Ud ((k + 3) ∷ union.line ∷ [])
    ∷ []

-- the twelve lines with which a replay ends: these nine, and the conclusion from the union
abbrev pub closing_lines : ℕ → ℕ → List (List ℕ) → Note → List Line
closing_lines s k states union = closing_block s k states union
    ++ conclusion (k + 5) (s + 2) (k + 4)
