-- Clauses of one or two literals by the places of these.
use Rattle.std.specs.Prelude.{◌≡◌, ◌<◌, ◌+◌, ◌||◌, ℕ, Bool, false, List, [], ◌∷◌, length, cond}
use Rattle.std.specs.Prelude.{slice_index_or}
use Rattle.hv_sets.specs.Truth.{in_clause, in_literal}
use Rattle.hv_sets.specs.declared.literal.Literal.{Literal}
use Rattle.hv_trap.specs.declared.quick.LiteralPair.{LiteralPair}

-- the place of a literal: those that deny an atom stand before those that hold one
abbrev pub truth_place : Literal → ℕ
truth_place literal = cond literal.positive (literal.atom + 64) literal.atom

-- at the place of each literal stands whether it is true in the state
abbrev pub AreTruths : List Bool → List Bool → Type 0
AreTruths state truths = (literal : Literal) → literal.atom < length state
    → slice_index_or truths (truth_place literal) false ≡ in_literal literal state

-- one of the two is true
abbrev pub is_true_by : List Bool → LiteralPair → Bool
is_true_by truths pair =
    slice_index_or truths pair.first false || slice_index_or truths pair.second false

-- the pair tells whether the clause is true in a state of so many atoms
abbrev pub IsPlacedPair : ℕ → List Literal → LiteralPair → Type 0
IsPlacedPair bound clause pair =
    (state truths : List Bool) → length state ≡ bound → AreTruths state truths
    → is_true_by truths pair ≡ in_clause clause state

-- the pairs are those of the clauses, in order
abbrev pub ArePairs : ℕ → List (List Literal) → List LiteralPair → Type 0
ArePairs bound [] [] = Unit {0}
ArePairs bound [] (pair ∷ pairs) = ⊥
ArePairs bound (clause ∷ clauses) [] = ⊥
ArePairs bound (clause ∷ clauses) (pair ∷ pairs) =
    IsPlacedPair bound clause pair × ArePairs bound clauses pairs
