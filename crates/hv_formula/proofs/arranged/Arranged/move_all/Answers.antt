use Rattle.std.proofs.Common.{◌∙◌, arith, get_or}
use Rattle.std.proofs.lemmas.List.Elements.{Contains-get_or}
use Rattle.hv_formula.proofs.Rest.{more_told}
use Rattle.hv_formula.proofs.arranged.Arranged.move_all.Goals as goal

pub loop-at-preserved : goal.loop-at-preserved
loop-at-preserved c =
    let i = c.loop-at.invariant in
    let at = c.loop-at.at in
    let old = c.loop-at.self in
    let new = c.move_up.new.self in
    let clauses = c.args.clauses.now in (
      λ count is inside.
          c.move_up.ensures.arranged count (inside at c.loop-at-test.true) (i.0 count is inside),
      λ k few. c.move_up.ensures.keeps k (omega (arith, few, i.2)) ∙ i.1 k few,
      omega (arith, i.2, c.move_up.ensures.grows),
      more_told clauses old.order.items new.order.items c.args.self.now.done old.done new.done
          (get_or clauses at 0) i.2 (Contains-get_or clauses at 0 c.loop-at-test.true) i.3
          c.move_up.ensures.keeps c.move_up.ensures.more,
    )
