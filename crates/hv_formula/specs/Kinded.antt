-- Kinds of clauses: what is owed of one.
use Rattle.std.specs.Prelude.{◌≡◌, ℕ, Bool, true, List, length}
use Rattle.std.specs.List.{Contains}
use Rattle.hv_sets.specs.declared.literal.Literal.{Literal}
use Rattle.hv_sets.specs.Cubes.{SpeakBelow}
use Rattle.hv_sets.specs.Truth.{in_clause}
use Rattle.hv_propagation.specs.declared.completion.Completion.{Completion}
use Rattle.hv_propagation.specs.Marks.{filled, over}
use Rattle.hv_propagation.specs.Units.{IsSettled}
use Rattle.hv_propagation.specs.declared.completion.Completion.TheVariants as C

-- the clause has at most one literal
abbrev pub IsShort : List Literal → Type 0
IsShort clause = (l k : Literal) → Contains clause l → Contains clause k → l ≡ k

-- settled clauses of the kind are true once the open atoms have this value; or they stay true when
-- the marks are put over a state
abbrev pub CompletesClauses : Completion → (List Literal → Type 0) → Type 0
CompletesClauses (C.Fill value) IsOf =
    (effect marks : List ℕ) (clause : List Literal) → SpeakBelow (length marks) clause
    → IsOf clause → IsSettled effect marks clause
    → in_clause clause (over effect (filled value marks)) ≡ true
CompletesClauses C.Try IsOf =
    (effect marks : List ℕ) (clause : List Literal) → SpeakBelow (length marks) clause
    → (state : List Bool) → length marks ≡ length state → IsOf clause
    → IsSettled effect marks clause → in_clause clause (over effect state) ≡ true
    → in_clause clause (over effect (over marks state)) ≡ true
