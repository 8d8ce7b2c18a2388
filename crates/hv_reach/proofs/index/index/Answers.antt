use Rattle.std.proofs.Common.{◌∙◌, length, arith, subst, ap}
use Rattle.std.specs.List.{All}
use Rattle.std.proofs.lemmas.Option.{slice_get_within}
use Rattle.hv_task.specs.Strips.{atoms}
use Rattle.hv_rows.specs.Rows.{IsInRow}
use Rattle.hv_reach.proofs.Rows.{indexed_more, past_more}
use Rattle.hv_reach.proofs.index.index.Goals as goal

pub loop-number-init : goal.loop-number-init
loop-number-init c = record {
  size = let e = c.in_ok-rows.ensures.size in let f = c.atoms.ensures.atoms in omega arith;
  below = c.in_ok-rows.ensures.below (length c.args.task.now.actions);
  has = λ k a less is. absurd (omega arith);
  past = λ k a less is. absurd (omega arith);
}

pub loop-number-preserved : goal.loop-number-preserved
loop-number-preserved c =
    let i = c.loop-number.invariant in
    let e = c.in_ok-enter_action.ensures in
    let a = c.action.result.now in
    record {
      size = c.enter_action.ensures.size ∙ i.size;
      below = e.below (length c.args.task.now.actions)
          (slice_get_within c.args.task.now.actions c.loop-number.number a c.action.ensures.named)
          i.below;
      has = indexed_more c.loop-number.rows.items c.enter_action.new.rows.items
          c.args.task.now.actions c.loop-number.number a c.action.ensures.named e.keeps
          (subst (λ xs. All (λ p. IsInRow c.enter_action.new.rows.items p c.loop-number.number) xs)
          c.as_slice.ensures.items e.has) i.has;
      past = past_more (atoms c.args.task.now) c.loop-number.rows.items
          c.enter_action.new.rows.items c.args.task.now.actions c.loop-number.number a
          c.action.ensures.named e.keeps
          (λ none. subst (λ p. IsInRow c.enter_action.new.rows.items p c.loop-number.number)
          c.atoms-in-loop-number.ensures.atoms
          (e.past (let s = ap length c.as_slice.ensures.items in omega arith))) i.past;
    }

pub returns : goal.returns
returns c =
    let i = c.loop-number.invariant in
    record {
      size = i.size;
      below = i.below;
      has = λ k a is. let less = slice_get_within c.args.task.now.actions k a is in
          i.has k a (omega arith) is;
      past = λ k a is. let less = slice_get_within c.args.task.now.actions k a is in
          i.past k a (omega arith) is;
    }
