use Rattle.std.proofs.Common.{◌≡◌, ◌<◌, ◌≤◌, ℕ, Bool, List, get_or, length}
use Rattle.hv_bdd.specs.Nodes.{in_node}
use Rattle.hv_bdd.specs.Reduced.{top}
use Rattle.hv_bdd.specs.Working.Jumping.{HoldsAt}
use Rattle.hv_bdd.proofs.jumps.leads.Given as goal

abbrev pub invariant-loop-place : goal.invariant-loop-place
invariant-loop-place l = record {
  within : l.at ≤ l.fn.node;
  past : (k : ℕ) → k < l.place-index → k < length l.places
      → get_or l.places k 0 < top l.nodes l.at;
  same : (s : List Bool) → HoldsAt l.nodes s l.places
      → in_node l.nodes l.at s ≡ in_node l.nodes l.fn.node s;
}
