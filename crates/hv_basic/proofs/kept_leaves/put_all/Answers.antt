use Rattle.std.proofs.Common.{arith}
use Rattle.std.proofs.lemmas.List.{length-map}
use Rattle.hv_basic.specs.Leaves.{places}
use Rattle.hv_basic.proofs.Gathering.{place_at}
use Rattle.hv_basic.proofs.KeptLeaves.{leaves_put, leaves_whole}
use Rattle.hv_basic.proofs.kept_leaves.put_all.Goals as goal

pub loop-leaf-preserved : goal.loop-leaf-preserved
loop-leaf-preserved c =
    let i = c.loop-leaf.leaf-index in
    let size = length-map c.args.more.now (λ leaf. leaf.place) in
    let within = c.loop-leaf-test.true in
    record {
      places =
          leaves_put (places c.args.into.now.items) (places c.loop-leaf.into.items)
          (places c.put_leaf.new.into.items) (places c.args.more.now) i _
          (omega (arith, size, within)) (place_at c.args.more.now i _ within)
          c.loop-leaf.invariant.places c.in_ok-put_leaf.ensures.places;
      read = λ lines old all.
          c.in_ok-put_leaf.ensures.read lines (c.loop-leaf.invariant.read lines old all)
          (all i _ within);
    }

pub returns-clause-places : goal.returns-clause-places
returns-clause-places c =
    let size = length-map c.args.more.now (λ leaf. leaf.place) in
    leaves_whole (places c.args.into.now.items) (places c.args.more.now)
    (places c.loop-leaf.into.items) c.loop-leaf.leaf-index (omega (arith, size))
    c.loop-leaf.invariant.places
