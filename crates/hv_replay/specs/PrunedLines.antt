-- The lines that a replay writes for a pruned state. A set that is said to be dead holds the state,
-- so the state is dead, and so is the union of the pruned states up to this one.
use Rattle.std.specs.Prelude.{◌+◌, ℕ, List, [], ◌∷◌, Option, Some}
use Rattle.hv_lines.specs.Numbering.{expr_at}
use Rattle.hv_lines.specs.declared.line.Expr.{Expr}
use Rattle.hv_lines.specs.declared.line.Expr.TheVariants as E
use Rattle.hv_lines.specs.declared.line.Line.{Line}
use Rattle.hv_lines.specs.declared.line.Line.TheVariants as L
use Rattle.hv_lines.specs.declared.line.Statement.TheVariants as T
use Rattle.hv_lines.specs.declared.line.Word.{Word}
use Rattle.hv_lines.specs.declared.line.Word.TheVariants as W
use Rattle.hv_lines.specs.declared.note.Note.{Note}

-- the word by which an explicit set is within this formula or constant: that of one family where
-- this is explicit too, or a constant, and otherwise that of two families
abbrev pub word_of_formula : Option Expr → Word
word_of_formula (Some (E.Constant constant)) = W.B1
word_of_formula (Some (E.States states)) = W.B1
word_of_formula _ = W.B4

-- the word by which an explicit set is within this literal
abbrev pub word_of_literal : List Line → Option Expr → Word
word_of_literal lines (Some (E.Not set)) = word_of_formula (expr_at lines set)
word_of_literal lines expr = word_of_formula expr

-- the word by which an explicit set is within the literal of this identifier
abbrev pub pruned_word : List Line → ℕ → Word
pruned_word lines set = word_of_literal lines (expr_at lines set)

-- The five lines of a pruned state, which the set `holder` holds. It becomes set p, and the first
-- statement is line k; `union` is the union of the pruned states before it.
abbrev pub pruned_lines : ℕ → ℕ → List ℕ → Word → Note → Note → List Line
pruned_lines p k held word holder union =
    L.Expr p (E.States (held ∷ []))
    ∷ L.Known k (T.Sub p holder.set) word []
    ∷ L.Known (k + 1) (T.Dead p) W.Sd (k ∷ holder.line ∷ [])
    ∷ L.Expr (p + 1) (E.Or union.set p)
    ∷ L.Known (k + 2) (T.Dead (p + 1)) W.Ud (union.line ∷ (k + 1) ∷ [])
    ∷ []
