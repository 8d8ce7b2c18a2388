use Rattle.std.proofs.Common.{◌<◌, ℕ, slice_index_or}
use Rattle.hv_indexes.specs.Places.{clause_at}
use Rattle.hv_indexes.specs.Mates.{IsExact, IsScreened}
use Rattle.hv_indexes.proofs.screens.Screen.put_all.Given as goal

abbrev pub invariant-loop-at : goal.invariant-loop-at
invariant-loop-at l = record {
  screened : (k : ℕ) → k < l.at
      → IsScreened l.self (clause_at l.clauses (slice_index_or l.places k 0));
  exact : IsExact l.clauses l.self;
}
