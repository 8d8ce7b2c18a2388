use Rattle.std.proofs.Common.{◌≡◌, ◌-◌, ◌+◌, arith, drop, false, length, refl, subst, sym, true}
use Rattle.hv_lines.specs.Shapes.{AskingsRise}
use Rattle.hv_basic.specs.Working.Asked.{AreChosen}
use Rattle.hv_basic.proofs.Ordering.{behind_in, chosen_kept, chosen_more, chosen_whole, rises_push}
use Rattle.hv_basic.proofs.rising.from_last.Goals as goal
use Rattle.hv_basic.proofs.rising.from_last.Goals.{then-has_sign+else-not-comes_last+in_ok-push, else-has_sign}

pub loop-count-preserved : goal.loop-count-preserved
loop-count-preserved c =
    let askings = c.args.askings.now in
    let count = c.loop-count.count in
    elim c.if-has_sign.branch [
      | then-has_sign+else-not-comes_last+in_ok-push w ↦ record {
        rises = subst (λ v. AskingsRise v.items) (sym w.chosen-is)
            (subst AskingsRise (sym w.in_ok-push.ensures.items)
            (rises_push c.loop-count.chosen.items _ c.loop-count.invariant.rises
            (behind_in _ _ _ w.deref.ensures.value
            (w.comes_last.ensures w.if-not-comes_last.false))));
        chosen = subst (λ v. AreChosen (drop (length askings - (count + 1)) askings)
            c.args.positive v.items) (sym w.chosen-is)
            (chosen_more askings c.args.positive count _ c.loop-count-test.true
            c.loop-count.chosen.items c.loop-count.invariant.chosen _
            (w.if-has_sign.ensures.0 refl) w.in_ok-push.ensures.items);
      }
      | else-has_sign w ↦ record {
        rises = subst (λ v. AskingsRise v.items) (sym w.chosen-is) c.loop-count.invariant.rises;
        chosen = subst (λ v. AreChosen (drop (length askings - (count + 1)) askings)
            c.args.positive v.items) (sym w.chosen-is)
            (chosen_kept askings c.args.positive count _ c.loop-count-test.true
            c.loop-count.chosen.items c.loop-count.invariant.chosen
            (λ same. let both : false ≡ true = w.if-has_sign.ensures.1 same in cc (both)));
      }
    ]

pub returns-clause-chosen : goal.returns-clause-chosen
returns-clause-chosen c =
    chosen_whole c.args.askings.now c.args.positive c.loop-count.count c.loop-count.chosen.items
    (omega arith) c.loop-count.invariant.chosen
