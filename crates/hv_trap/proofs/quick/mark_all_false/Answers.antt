use Rattle.std.proofs.Common.{◌≡◌, ◌<◌, ◌&&◌, ◌∙◌, false, length, get_or, set, refl, ap, arith}
use Rattle.std.proofs.Common.{below_more}
use Rattle.std.proofs.lemmas.Grind.{get_or-set_at}
use Rattle.std.proofs.lemmas.List.{get_or-set_other, get_or_default, get_or_read, length-set}
use Rattle.hv_trap.specs.Working.Quick.{is_true_by}
use Rattle.hv_trap.specs.declared.quick.LiteralPair.{LiteralPair}
use Rattle.hv_trap.proofs.quick.mark_all_false.Goals as goal

pub loop-place-preserved : goal.loop-place-preserved
loop-place-preserved c =
    let i = c.loop-place.invariant in
    let size = i.size in
    let same = c.requires in
    let less = c.loop-place-test.true in
    let marks = c.loop-place.left.items in
    let place = c.loop-place.place in
    let pairs = c.args.pairs.now in
    let stays = c.stays_by-stays.result in
    let none : LiteralPair = record { first = 0; second = 0 } in
    let within : place < length marks = omega arith in
    record {
      size = length-set marks place stays ∙ size;
      done = below_more
          (λ k. (other : LiteralPair) → get_or (set marks place stays) k false
          ≡ (get_or c.args.left.now.items k false
          && is_true_by c.args.truths.now (get_or pairs k other)))
          place
          (λ k before. λ other. get_or-set_other marks place k stays false (λ e. omega arith)
          ∙ i.done k before other)
          (λ other. get_or-set_at marks place place stays false refl within
          ∙ c.stays_by-stays.ensures
          ∙ ap (λ b. b && is_true_by c.args.truths.now (get_or pairs place none))
          (get_or_read marks place c.index.result.now within c.index.ensures false
          ∙ i.rest place (omega arith))
          ∙ ap (λ q. get_or c.args.left.now.items place false && is_true_by c.args.truths.now q)
          (get_or_default pairs place none other less));
      rest = λ k upto. get_or-set_other marks place k stays false (λ e. omega arith)
          ∙ i.rest k (omega arith);
    }

pub returns-clause-left : goal.returns-clause-left
returns-clause-left c = λ k other less.
    let i = c.loop-place.invariant in
    let size = i.size in
    let past = c.loop-place-test.false in
    let same = c.requires in
    i.done k (omega arith) other
