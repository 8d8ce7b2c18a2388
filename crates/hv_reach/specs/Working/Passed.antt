-- The places of actions in a search, and which of them may be other than 0.
use Rattle.std.specs.Prelude.{◌≡◌, ◌⊎◌, ℕ, List, slice_index}
use Rattle.std.specs.List.{Contains}

-- each place is 0
abbrev pub AreZeros : List ℕ → Type 0
AreZeros places = (k : ℕ) → slice_index places k ≡ 0

-- each place is 0 or that of an action which is noted
abbrev pub AreTouched : List ℕ → List ℕ → Type 0
AreTouched places touched = (k : ℕ) → (slice_index places k ≡ 0) ⊎ Contains touched k
