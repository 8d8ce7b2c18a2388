-- Working definitions beside those of `Made`: for private contracts and proofs.
use Rattle.std.specs.Prelude.{◌≡◌, ◌≤◌, ◌<◌, ℕ, List, ◌++◌, length, slice_index, take}
use Rattle.hv_sas.specs.declared.sas_task.Fact.{Fact}
use Rattle.hv_sas.specs.declared.sas_task.SasVariable.{SasVariable}
use Rattle.hv_sas.specs.Variables.{values_in}
use Rattle.hv_sas.specs.Made.{fact_atoms}

-- these are the first atoms of the variables, of which there are few
pub record AreFirstAtoms (variables : List SasVariable) (firsts : List ℕ) : Type 0 where
  pub few : values_in variables ≤ 65535
  pub count : length firsts ≡ length variables
  pub first : (var : ℕ) → var < length variables
      → slice_index firsts var ≡ values_in (take var variables)

-- the atoms of these facts are put to the set
abbrev pub AddsFacts : List SasVariable → List Fact → List ℕ → List ℕ → Type 0
AddsFacts variables facts old new =
    (earlier : List Fact) → old ≡ fact_atoms variables earlier
    → new ≡ fact_atoms variables (earlier ++ facts)
