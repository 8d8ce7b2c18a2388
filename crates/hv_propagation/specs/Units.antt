-- Unit propagation: what follows for the atoms of a state from clauses, step by step.
--
-- A clause can be asked about a state through an effect: marks that are put over the state before.
-- The effect of an action has the atoms that it adds marked as in and the others that it deletes
-- marked as out; without marks it leaves each state as it is.
use Rattle.std.specs.Prelude.{◌≡◌, ◌⊎◌, ℕ, Bool, true, not, cond, List, Option, None, Some}
use Rattle.std.specs.Prelude.{option_map, false, length}
use Rattle.std.specs.List.{Contains, All}
use Rattle.hv_sets.specs.declared.literal.Literal.{Literal}
use Rattle.hv_propagation.specs.Marks.{known, Agrees, KeepsKnown}

-- the first of the two that says something
abbrev pub first_of : Option Bool → Option Bool → Option Bool
first_of None second = second
first_of (Some value) second = Some value

-- what is known of an atom through an effect: what the effect says, or else what the marks say
abbrev pub known_through : List ℕ → List ℕ → ℕ → Option Bool
known_through effect marks atom = first_of (known effect atom) (known marks atom)

-- whether a literal is true, as far as that is known
abbrev pub value_of : List ℕ → List ℕ → Literal → Option Bool
value_of effect marks literal =
    option_map (λ value. cond literal.positive value (not value))
    (known_through effect marks literal.atom)

-- the clause has a literal that is known to be true, or two different ones of which nothing is
-- known: it tells nothing more
abbrev pub IsSettled : List ℕ → List ℕ → List Literal → Type 0
IsSettled effect marks clause =
    ((l : Literal) × Contains clause l × (value_of effect marks l ≡ Some true))
    ⊎ ((l k : Literal) × Contains clause l × Contains clause k × (l ≡ k → ⊥)
    × (value_of effect marks l ≡ None) × (value_of effect marks k ≡ None))

-- each clause is settled
abbrev pub AreSettled : List ℕ → List (List Literal) → List ℕ → Type 0
AreSettled effect clauses marks = All (λ clause. IsSettled effect marks clause) clauses

-- each literal is known to be false
abbrev pub AreFalse : List ℕ → List Literal → List ℕ → Type 0
AreFalse effect literals marks = All (λ l. value_of effect marks l ≡ Some false) literals

-- each literal is known to be true
abbrev pub AreKnownTrue : List ℕ → List Literal → List ℕ → Type 0
AreKnownTrue effect literals marks = All (λ l. value_of effect marks l ≡ Some true) literals

-- all that follows from a condition was marked, so that this is done; or no state that agrees with
-- the marks meets the condition
pub record IsConcluded (Holds : List Bool → Type 0) (Done : List ℕ → Type 0) (old new : List ℕ)
    (result : Bool) : Type 0 where
  pub size : length new ≡ length old
  pub grows : KeepsKnown old new
  pub follows : (state : List Bool) → length state ≡ length old → Holds state → Agrees old state
      → Agrees new state
  pub broken : result ≡ false → (state : List Bool) → length state ≡ length old → Holds state
      → Agrees old state → ⊥
  pub done : result ≡ true → Done new
