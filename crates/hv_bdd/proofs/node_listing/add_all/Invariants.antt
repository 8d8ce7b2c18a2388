use Rattle.std.proofs.Common.{◌≡◌, ◌+◌, Ok, drop, length, map}
use Rattle.hv_bdd.specs.Working.Building.{as_node}
use Rattle.hv_bdd.specs.Working.Chains.{IsChained}
use Rattle.hv_bdd.specs.Working.Listing.{tried}
use Rattle.hv_bdd.proofs.node_listing.add_all.Given as goal

abbrev pub invariant-loop-triple : goal.invariant-loop-triple
invariant-loop-triple l = record {
  lists : tried (Ok l.fn.list) (map as_node l.triples)
      ≡ tried (Ok l.list) (map as_node (drop l.triple-index l.triples));
  seen : IsChained l.list.nodes l.seen;
  size : length l.list.nodes ≡ length l.fn.list.nodes + l.triple-index;
}
