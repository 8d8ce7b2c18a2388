-- Entries that stand among those of a trail, or are put there.
use Rattle.std.specs.Prelude.{◌≡◌, ◌<◌, ◌≤◌, ◌/◌, ◌%◌, ◌==◌, ℕ, Bool, true, List, Some, length}
use Rattle.std.specs.List.{Contains}
use Rattle.hv_indexes.specs.Occurrences.{entry_or_none, literal_of, no_literal}
use Rattle.hv_sets.specs.Truth.{in_literal}
use Rattle.hv_propagation.specs.declared.found_run.Forced.{Forced}
use Rattle.hv_propagation.specs.declared.found_run.RunEnd.{RunEnd}
use Rattle.hv_propagation.specs.Chase.{IsFollowed}
use Rattle.hv_propagation.specs.Marks.{known}
use Rattle.hv_propagation.specs.Trail.{Knowledge, marks_of}
use Rattle.hv_propagation.specs.Working.Trail.{AreJoined, trail_of}

-- the entries from one place on and before another one are in the queue
abbrev pub AreQueued : List ℕ → List ℕ → ℕ → ℕ → Type 0
AreQueued entries queue from upto =
    (k : ℕ) → from ≤ k → k < upto → Contains queue (entry_or_none entries k)

-- the entry denotes a literal, and that is known to be true
pub record IsKnownEntry (marks : List ℕ) (entry : ℕ) : Type 0 where
  pub some : entry ≡ no_literal → ⊥
  pub known : known marks (entry / 2) ≡ Some (entry % 2 == 1)

-- so do those from one place on and before another one
abbrev pub AreKnownEntries : List ℕ → List ℕ → ℕ → ℕ → Type 0
AreKnownEntries marks entries from upto =
    (k : ℕ) → from ≤ k → k < upto → IsKnownEntry marks (entry_or_none entries k)

-- what the entries from a place on denote is true in the state
abbrev pub AreTrueBehind : List ℕ → ℕ → List Bool → Type 0
AreTrueBehind entries from state =
    (k : ℕ) → from ≤ k → k < length entries → (entry_or_none entries k ≡ no_literal → ⊥)
    → in_literal (literal_of (entry_or_none entries k)) state ≡ true

-- what is known by a trail on top of what was known before
abbrev pub on_trail : List ℕ → List ℕ → ℕ → Knowledge
on_trail roots queue len = record { roots = roots; trail = trail_of queue len }

-- what an entry denotes was made true, or was; or its opposite is true
pub record IsForcedEntry (entry : ℕ) (roots : List ℕ) (old : Knowledge) (places queue : List ℕ)
    (forced : Forced) : Type 0 where
  pub joined : AreJoined roots places queue forced.len
  pub followed : IsFollowed (λ state. in_literal (literal_of entry) state ≡ true) old
      (on_trail roots queue forced.len) forced.holds
  pub known : forced.holds ≡ true
      → known (marks_of (on_trail roots queue forced.len)) (entry / 2) ≡ Some (entry % 2 == 1)

-- so was what the entries from a place on denote, up to where the run ended
pub record IsRun (entries : List ℕ) (from : ℕ) (roots : List ℕ) (old : Knowledge)
    (places queue : List ℕ) (end : RunEnd) : Type 0 where
  pub after : from ≤ end.index
  pub joined : AreJoined roots places queue end.len
  pub followed : IsFollowed (AreTrueBehind entries from) old (on_trail roots queue end.len)
      end.holds
  pub known : end.holds ≡ true
      → AreKnownEntries (marks_of (on_trail roots queue end.len)) entries from end.index
