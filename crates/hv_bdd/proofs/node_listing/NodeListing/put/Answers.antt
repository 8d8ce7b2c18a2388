use Rattle.std.proofs.Common.{◌∙◌, ◌∷◌, [], ap, arith, length, length-append}
use Rattle.hv_bdd.specs.Working.Building.{as_node}
use Rattle.hv_bdd.specs.Working.Listing.{Tried, then_listed}
use Rattle.hv_bdd.proofs.Deferred.{one_waits}
use Rattle.hv_bdd.proofs.node_listing.NodeListing.put.Goals as goal

pub returns-in-Ok : goal.returns-in-Ok
returns-in-Ok c =
    let s = c.in_ok-make_room.ensures in
    let r = c.make_room.new.self in
    let pushed = c.in-Ok.ensures.items in
    let size = s.size in
    let few = c.requires.few in
    let count = ap length pushed in
    let one = length-append r.waiting.items (c.args.triple ∷ []) in
    record {
      ready = record { seen = s.ready.seen; few = omega arith };
      more = one_waits r.list r.waiting.items c.push.new.self.items c.args.triple pushed
          ∙ ap (λ (t : Tried). then_listed t (as_node c.args.triple)) s.same;
      size = omega arith;
      atoms = s.atoms;
      order = s.order;
    }
