use Rattle.std.proofs.Common.{◌≡◌, ◌+◌, ◌-◌}
use Rattle.hv_grammar.specs.Parsers.{iterate}
use Rattle.hv_grammar.specs.Positions.{CanRead}
use Rattle.hv_grammar.proofs.Going.{Goes}
use Rattle.hv_bdd.specs.NodeFile.{next_node_line, so_many}
use Rattle.hv_bdd.specs.Working.Listing.{IsListing, behind_tried, read_count, tried_by}
use Rattle.hv_bdd.specs.Working.NodeText.{node_start}
use Rattle.hv_bdd.proofs.read.nodes.Given as goal

abbrev pub invariant-loop-done : goal.invariant-loop-done
invariant-loop-done g l = record {
  goes : Goes (so_many l.fn.list l.fn.count)
      (g.R.Source.position l.fn.reader)
      (behind_tried (tried_by l.listing) (iterate (l.fn.count - l.done) next_node_line))
      (g.R.Source.position l.reader);
  can : CanRead (g.R.Source.position l.reader);
  ready : IsListing l.listing;
  total : read_count l.listing ≡ l.done;
  number : (g.R.Source.position l.reader).lines.number + 1
      ≡ l.done + node_start l.fn.list.order;
  atoms : l.listing.list.atoms ≡ l.fn.list.atoms;
  order : l.listing.list.order ≡ l.fn.list.order;
}
