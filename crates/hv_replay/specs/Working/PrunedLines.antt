-- Working definitions beside those of `PrunedLines`: for private contracts and proofs.
use Rattle.std.specs.Prelude.{◌<◌, ◌+◌, ◌≤◌, ◌⊎◌, ◌++◌, ◌∷◌, [], ℕ, List, length}
use Rattle.std.specs.List.{All}
use Rattle.hv_lines.specs.Rules.{IsExpr, Says}
use Rattle.hv_lines.specs.declared.line.Constant.TheVariants as C
use Rattle.hv_lines.specs.declared.line.Expr.TheVariants as E
use Rattle.hv_lines.specs.declared.line.Line.{Line}
use Rattle.hv_lines.specs.declared.line.Statement.TheVariants as T
use Rattle.hv_lines.specs.declared.note.Note.{Note}

-- The set is a union of the empty set and of explicit sets, each of a greater identifier than those
-- before it: these are its leaves, in that order.
pub data IsUnionOfStates (lines : List Line) : ℕ → List ℕ → Type 0 where
  empty_alone : (set : ℕ) → IsExpr lines set (E.Constant C.Empty)
      → IsUnionOfStates lines set (set ∷ [])
  one_beside : (set union last : ℕ) (leaves : List ℕ) (states : List (List ℕ))
      → IsUnionOfStates lines union leaves → All (λ leaf. leaf < last) leaves
      → IsExpr lines last (E.States states)
      → IsExpr lines set (E.Or union last) ⊎ IsExpr lines set (E.Or last union)
      → IsUnionOfStates lines set (leaves ++ last ∷ [])

-- how many states are pruned at most
abbrev pub most_pruned : ℕ
most_pruned = 65000

-- the set is said to be dead, and it is a union of explicit sets: at most the empty set, and one
-- for each of so many pruned states
pub record IsPrunedUnion (lines : List Line) (pruned : ℕ) (union : Note) : Type 0 where
  pub says : Says lines union.line (T.Dead union.set)
  pub leaves : List ℕ
  pub are : IsUnionOfStates lines union.set leaves
  pub few : length leaves ≤ pruned + 1
