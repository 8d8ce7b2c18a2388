-- Flags for the actions of an action set.
use Rattle.std.specs.Prelude.{◌≡◌, ◌<◌, ◌⊎◌, ◌||◌, ℕ, Some, Bool, true, false, List, length, replicate}
use Rattle.std.specs.Prelude.{slice_index_or, slice_set, nat_eq}
use Rattle.std.specs.List.{list_any}
use Rattle.hv_lines.specs.Meaning.{acts_of}
use Rattle.hv_lines.specs.Numbering.{acts_at, acts_count}
use Rattle.hv_lines.specs.declared.line.Acts.{Acts}
use Rattle.hv_lines.specs.declared.line.Acts.TheVariants as A
use Rattle.hv_lines.specs.declared.line.Line.{Line}
use Rattle.hv_basic.specs.Sharing.{AreItsFlags}
use Rattle.hv_basic.specs.declared.shared.FlaggedActs.{FlaggedActs}

-- the flag at this place; there is none past the end
abbrev pub flag_or_false : List Bool → ℕ → Bool
flag_or_false flags place = slice_index_or flags place false

-- one flag for each of so many actions, true for those of the action set
pub record AreFlagsOf (lines : List Line) (acts actions : ℕ) (flags : List Bool) : Type 0 where
  pub each : length flags ≡ actions
  pub true_for : (number : ℕ) → number < actions
      → flag_or_false flags number ≡ acts_of lines acts number

-- flags and wanted action sets after an action set was looked at: where it is all actions every
-- flag is set, where it lists some those are set, and where it is made of two others these are
-- wanted besides
abbrev pub Marks : Acts → List Bool → List Bool → List Bool → List Bool → Type 0
Marks A.All flags wanted new_flags new_wanted =
    (new_flags ≡ replicate (length flags) true) × (new_wanted ≡ wanted)
Marks (A.List listed) flags wanted new_flags new_wanted =
    (length new_flags ≡ length flags)
    × ((number : ℕ) → number < length flags
    → flag_or_false new_flags number ≡ flag_or_false flags number || list_any
    (λ n. nat_eq n number) listed)
    × (new_wanted ≡ wanted)
Marks (A.Both left right) flags wanted new_flags new_wanted =
    (new_flags ≡ flags) × (new_wanted ≡ slice_set (slice_set wanted left true) right true)

-- what is kept are the flags of this action set, one for each of so many actions
pub record AreTakenFlags (lines : List Line) (acts actions : ℕ) (kept : FlaggedActs) : Type 0 where
  pub is : kept.acts ≡ acts
  pub each : length kept.flags.items ≡ actions
  pub flagged : AreItsFlags lines kept

-- the action set is the union of the first one and this part
abbrev pub IsActsBeside : List Line → ℕ → ℕ → ℕ → Type 0
IsActsBeside lines first acts part = (part < acts_count lines)
    × ((acts_at lines acts ≡ Some (A.Both first part))
    ⊎ (acts_at lines acts ≡ Some (A.Both part first)))
