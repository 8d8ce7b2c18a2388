use Rattle.std.proofs.Common.{◌≡◌, ℕ, ◌<◌, false}
use Rattle.hv_task.specs.Strips.{IsState}
use Rattle.hv_explicit.specs.Working.Listing.{first_at}
use Rattle.hv_explicit.specs.Working.Search.{clashes_at}
use Rattle.hv_explicit.proofs.sets_query.SetsQuery.find_among.Given as goal

abbrev pub invariant-loop-place : goal.invariant-loop-place
invariant-loop-place l = record {
  state : IsState l.self.task l.state;
  none : (e : ℕ) → e < l.place-index
      → clashes_at l.self (first_at l.set.states l.places e) ≡ false;
}
