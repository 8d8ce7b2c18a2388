-- What it means to try values for open atoms, and to complete marks to a state.
use Rattle.std.specs.Prelude.{◌≡◌, ℕ, Bool, true, List, length, false}
use Rattle.hv_propagation.specs.declared.completion.Completion.{Completion}
use Rattle.hv_propagation.specs.Marks.{filled, over, AllKnown, low, Agrees, KeepsKnown}
use Rattle.hv_propagation.specs.declared.completion.Completion.TheVariants as C

-- settled marks can be completed to a state that meets the condition: the atoms of which nothing is
-- known can be given this value; or each state that meets it can be made to agree with the marks by
-- putting these over it, and where all is known the marks are such a state
abbrev pub Completes : Completion → (List Bool → Type 0) → (List ℕ → Type 0) → ℕ → Type 0
Completes (C.Fill value) Holds Settled atoms =
    (marks : List ℕ) → length marks ≡ atoms → Settled marks → Holds (filled value marks)
Completes C.Try Holds Settled atoms =
    ((marks : List ℕ) (state : List Bool) → length marks ≡ atoms → length state ≡ atoms
    → Settled marks → Holds state → Holds (over marks state))
    × ((marks : List ℕ) → length marks ≡ atoms → AllKnown atoms marks → Settled marks
    → Holds (low marks))

-- the marks grew to settled marks of which this is true; or no state meets the condition
pub record IsTried (Holds : List Bool → Type 0) (Settled Done : List ℕ → Type 0) (old new : List ℕ)
    (result : Bool) : Type 0 where
  pub size : length new ≡ length old
  pub grows : KeepsKnown old new
  pub settled : Settled new
  pub done : result ≡ true → Done new
  pub refuted : result ≡ false → (state : List Bool) → length state ≡ length old → Holds state → ⊥

-- the state meets the condition and agrees with the marks; or no state meets the condition
pub record IsCompleted (Holds : List Bool → Type 0) (marks : List ℕ) (built : List Bool)
    (result : Bool) : Type 0 where
  pub found : result ≡ true → Holds built × Agrees marks built
  pub refuted : result ≡ false → (state : List Bool) → length state ≡ length marks → Holds state → ⊥
