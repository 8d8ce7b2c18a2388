use Rattle.std.proofs.Common.{◌+◌, ◌-◌, ◌∙◌, ap, arith, subst, sym}
use Rattle.hv_grammar.specs.Parsers.{iterate}
use Rattle.hv_grammar.proofs.Going.{Goes}
use Rattle.hv_bdd.specs.NodeFile.{next_node_line, so_many}
use Rattle.hv_bdd.specs.Working.Building.{as_node}
use Rattle.hv_bdd.specs.Working.Listing.{Tried, behind_tried, tried_by}
use Rattle.hv_bdd.specs.Working.NodeText.{node_start}
use Rattle.hv_bdd.proofs.Deferred.{finished_atoms, goes_on, listed_order, listed_total, node_stops}
use Rattle.hv_bdd.proofs.Deferred.{one_left}
use Rattle.hv_bdd.proofs.read.nodes.Goals as goal

pub loop-done-preserved : goal.loop-done-preserved
loop-done-preserved g c =
    let i = c.loop-done.invariant in
    let node = c.in-Ok.ensures in
    let put = c.in_ok-put-in-Ok.ensures in
    let whole = so_many c.args.list c.args.count in
    let old = g.R.Source.position c.args.reader.now in
    let new = g.R.Source.position c.node.new.reader in
    let left = c.args.count - (c.loop-done.done + 1) in
    let number = i.number in
    let total = i.total in
    let next = node.next in
    record {
      goes = subst (λ (t : Tried). Goes whole old (behind_tried t
          (iterate left next_node_line)) new)
          (sym put.more)
          (goes_on whole old (g.R.Source.position c.loop-done.reader) new
          (tried_by c.loop-done.listing) (as_node c.in-Ok.triple) left
          (one_left whole old (g.R.Source.position c.loop-done.reader)
          (tried_by c.loop-done.listing) (c.args.count - c.loop-done.done) left i.goes
          (omega arith))
          node.reads (λ list is.
          let size = listed_total c.loop-done.listing list is in
          let from = ap node_start (listed_order c.loop-done.listing list is ∙ i.order) in
          omega arith));
      can = node.reads.can;
      ready = put.ready;
      total = let size = put.size in omega arith;
      number = omega arith;
      atoms = put.atoms ∙ i.atoms;
      order = put.order ∙ i.order;
    }

pub returns-in-Err-clause-reads : goal.returns-in-Err-clause-reads
returns-in-Err-clause-reads g c =
    let whole = so_many c.args.list c.args.count in
    let old = g.R.Source.position c.args.reader.now in
    let mid = g.R.Source.position c.loop-done.reader in
    let left = c.args.count - (c.loop-done.done + 1) in
    node_stops whole old mid (g.R.Source.position c.node.new.reader)
    (tried_by c.loop-done.listing) left c.in-Err.fault c.earliest.result
    (one_left whole old mid (tried_by c.loop-done.listing) (c.args.count - c.loop-done.done) left
    c.loop-done.invariant.goes (omega arith))
    c.in-Err.ensures.reads c.earliest.ensures

pub returns-clause-atoms : goal.returns-clause-atoms
returns-clause-atoms g c =
    finished_atoms c.loop-done.listing c.finish.result c.args.list.atoms
    c.loop-done.invariant.atoms
    c.finish.ensures
