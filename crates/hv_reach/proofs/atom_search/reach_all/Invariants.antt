use Rattle.std.proofs.Common.{◌≡◌, ◌<◌, ℕ, true, get_or}
use Rattle.hv_task.specs.State.{has_atom}
use Rattle.hv_reach.specs.Reached.{AreIn}
use Rattle.hv_reach.specs.Working.Waiting.{GrowsQueued, GrowsWithin}
use Rattle.hv_reach.proofs.atom_search.reach_all.Given as goal

abbrev pub invariant-loop-atom : goal.invariant-loop-atom
invariant-loop-atom l = record {
  step : GrowsQueued l.fn.held l.fn.queue.items l.held l.queue.items;
  has : (k : ℕ) → k < l.atom-index → has_atom l.held (get_or l.atoms k 0) ≡ true;
  least : GrowsWithin (λ set. AreIn set l.atoms) l.fn.held l.held;
}
