use Rattle.std.proofs.Common.{◌≤◌, ◌-◌, ◌∙◌, ap, sym, subst, arith, take, get_or}
use Rattle.std.proofs.lemmas.List.{take_more}
use Rattle.hv_sets.specs.Working.KeptStates.{AreShort}
use Rattle.hv_sets.specs.Working.Pieces.{last_end}
use Rattle.hv_sets.proofs.Pieces.{last_end-push}
use Rattle.hv_sets.proofs.Short.{short-push}
use Rattle.hv_sets.proofs.narrow.are_short.Goals as goal

pub loop-end-preserved : goal.loop-end-preserved
loop-end-preserved c =
    let ends = take c.loop-end.end-index c.args.ends.now in
    let end = get_or c.args.ends.now c.loop-end.end-index 0 in
    let more = take_more c.args.ends.now c.loop-end.end-index 0 c.loop-end-test.true in
    let few = c.if-saturating_sub-gt-MOST_ATOMS.false in
    let size = c.saturating_sub.ensures in
    let begins = c.loop-end.invariant.1 in
    let near : end - last_end 0 ends ≤ 64 = omega (arith, few, size, begins) in (
      subst (λ es. AreShort 0 es) (sym more)
          (short-push 0 ends end c.loop-end.invariant.0 near),
      sym (ap (λ es. last_end 0 es) more ∙ last_end-push 0 ends end),
    )
