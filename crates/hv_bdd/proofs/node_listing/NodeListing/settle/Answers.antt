use Rattle.std.proofs.Common.{◌≡◌, ◌∙◌, Ok, List, ap, arith, length, map, sym}
use Rattle.hv_bdd.specs.declared.numbers.Triple.{Triple}
use Rattle.hv_bdd.specs.Working.Building.{as_node}
use Rattle.hv_bdd.specs.Working.Listing.{tried}
use Rattle.hv_bdd.proofs.Deferred.{none_waits, tried_grew}
use Rattle.hv_bdd.proofs.node_listing.NodeListing.settle.Goals as goal

pub returns : goal.returns
returns c =
    let a = c.in_ok-add_all.ensures in
    let none = c.clear.ensures.items in
    let waiting = c.as_slice-waiting.ensures.value in
    let lists : tried (Ok c.args.self.now.list) (map as_node c.args.self.now.waiting.items)
    ≡ Ok c.add_all.new.list =
    ap (λ (ts : List Triple). tried (Ok c.args.self.now.list) (map as_node ts)) (sym waiting)
    ∙ a.lists in
    let few = c.requires.few in
    let size = a.size in
    let count = ap length waiting in
    let gone = ap length none in
    let grew = tried_grew c.args.self.now.list (map as_node c.args.self.now.waiting.items)
    c.add_all.new.list lists in (
      record {
        ready = record { seen = a.seen; few = omega arith };
        same = none_waits c.add_all.new.list c.clear.new.self.items none ∙ sym lists;
        size = omega arith;
        atoms = grew.atoms;
        order = grew.order;
      },
      none,
    )
