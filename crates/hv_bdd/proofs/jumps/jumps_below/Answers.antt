use Rattle.std.proofs.Common.{ap, arith, length, subst, sym}
use Rattle.std.proofs.lemmas.List.{length_push}
use Rattle.hv_bdd.specs.Jumps.{IsJump}
use Rattle.hv_bdd.proofs.Jumped.{jumps_more}
use Rattle.hv_bdd.proofs.jumps.jumps_below.Goals as goal

pub loop-node-preserved : goal.loop-node-preserved
loop-node-preserved c =
    let list = c.args.nodes.now in
    let to = c.loop-node.to.items in
    let jump = c.jump_of-jump.result.0 in
    let old = c.loop-node.invariant in
    let size = old.size in
    let depths = old.depths in
    let less = c.loop-node-test.true in
    let upto = c.requires in
    let first = c.in_ok-push.ensures.items in
    let second = c.in_ok-push-2.ensures.items in
    let more = ap length first in
    let deeper = ap length second in
    let one = length_push to jump in
    let other = length_push c.loop-node.depths.items c.jump_of-jump.result.1 in
    record {
      jumps = jumps_more list to c.push.new.self.items jump (omega arith) old.jumps
          (subst (λ n. IsJump list n jump) (sym size) c.jump_of-jump.ensures) first;
      size = omega arith;
      depths = omega arith;
    }
