use Rattle.std.proofs.Common.{◌∙◌, get_or, arith, refl}
use Rattle.hv_rows.specs.Rows.{IsInRow}
use Rattle.hv_rows.proofs.Entered.{entered_below, entered_has, entered_keeps}
use Rattle.hv_reach.proofs.Rows.{entered_more}
use Rattle.hv_reach.proofs.Sets.{All-from_zero}
use Rattle.hv_reach.proofs.index.enter_all.Goals as goal

pub loop-place-preserved : goal.loop-place-preserved
loop-place-preserved c =
    let i = c.loop-place.invariant in
    let e = c.in_ok-enter.ensures.entered in
    let x = get_or c.args.places.now c.loop-place.place-index 0 in
    let n = c.args.number in
    let old = c.loop-place.rows.items in
    let new = c.enter.new.rows.items in
    let keeps = entered_keeps x n old new e in
    record {
      size = c.enter.ensures.size ∙ i.size;
      keeps = λ p k h. keeps p k (i.keeps p k h);
      has = entered_more old new c.args.places.now c.loop-place.place-index x n (omega arith) refl
          keeps (entered_has x n old new e) i.has;
      below = λ bound less h. entered_below x n old new e bound less (i.below bound less h);
    }

pub returns-clause-has : goal.returns-clause-has
returns-clause-has c =
    All-from_zero (λ p. IsInRow c.loop-place.rows.items p c.args.number) c.args.places.now
    (λ k less. c.loop-place.invariant.has k (omega arith))
