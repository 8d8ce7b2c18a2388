-- How the states of all sets are coded.
use Rattle.std.specs.Prelude.{ℕ, Bool}
use Rattle.hv_explicit.specs.Working.Codes.{IsCode, IsSip}
use Rattle.hv_explicit.specs.declared.coding.Coding.{Coding}
use Rattle.hv_explicit.specs.declared.coding.Coding.TheVariants as K

-- the code of a set of atoms by a coding
abbrev pub IsCodeBy : Coding → (ℕ → Bool) → ℕ → Type 0
IsCodeBy (K.Sums key) set code = IsCode key set code
IsCodeBy K.Sips set code = IsSip set code
