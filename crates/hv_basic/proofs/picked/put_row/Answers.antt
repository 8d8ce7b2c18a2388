use Rattle.std.proofs.Common.{◌≡◌, ◌∙◌, arith, get_or, inr, inl, subst}
use Rattle.std.proofs.lemmas.List.{get_or_default}
use Rattle.std.specs.List.{Contains}
use Rattle.hv_basic.proofs.Applicable.{put_more}
use Rattle.hv_basic.proofs.picked.put_row.Goals as goal

pub loop-number-preserved : goal.loop-number-preserved
loop-number-preserved c =
    let i = c.loop-number.invariant in
    let e = c.in_ok-put.ensures in
    record {
      kept = λ k h. e.kept k (i.kept k h);
      has = put_more c.args.row.now c.args.actions c.loop-number.number-index c.loop-number.found
          c.put.new.found e.kept e.has i.has;
      below = λ k h. elim (e.below k h) [ inl old ↦ i.below k old | inr less ↦ inr less ];
    }

pub returns-clause-has : goal.returns-clause-has
returns-clause-has c = λ k h below.
    let at : get_or c.args.row.now h.0 0 ≡ k = get_or_default c.args.row.now h.0 0 k h.1 ∙ h.2 in
    let less = h.1 in
    subst (Contains c.loop-number.found) at
    (c.loop-number.invariant.has h.0 (omega (arith, less, c.loop-number-test.false))
    (omega (arith, at, below)))
