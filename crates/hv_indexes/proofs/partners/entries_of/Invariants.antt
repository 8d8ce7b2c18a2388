use Rattle.std.proofs.Common.{ℕ, ◌<◌, ◌≤◌, length, get_or}
use Rattle.hv_indexes.specs.Places.{clause_at}
use Rattle.hv_indexes.specs.Occurrences.{IsPartner, entry_or_none}
use Rattle.hv_indexes.specs.Rows.{key_of, place_of_code}
use Rattle.hv_indexes.proofs.partners.entries_of.Given as goal

abbrev pub invariant-loop-place : goal.invariant-loop-place
invariant-loop-place l = record {
  few : length l.entries.items ≤ l.place;
  each : (k : ℕ) → k < l.place
      → IsPartner (clause_at l.clauses (place_of_code (get_or l.codes k 0)))
      (record { atom = key_of (get_or l.codes k 0); positive = l.sign })
      (entry_or_none l.entries.items k);
}
