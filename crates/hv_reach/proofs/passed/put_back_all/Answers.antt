use Rattle.std.proofs.Common.{◌≡◌, ◌∙◌, arith, get_or, inl, inr, subst}
use Rattle.std.proofs.lemmas.Bool.{cases_lt}
use Rattle.std.proofs.lemmas.List.{get_or_default}
use Rattle.hv_reach.proofs.passed.put_back_all.Goals as goal

pub loop-number-preserved : goal.loop-number-preserved
loop-number-preserved c =
    let i = c.loop-number.invariant in
    let e = c.put_zero.ensures in
    record {
      size = e.size ∙ i.size;
      stays = λ k h. e.others k (i.stays k h);
      gone = λ j less. elim (cases_lt j c.loop-number.number-index) [
        | inl lt ↦ e.others (get_or c.args.touched.now j 0) (i.gone j lt)
        | inr ge ↦
            let same : c.loop-number.number-index ≡ j = omega arith in
            subst (λ x. get_or c.put_zero.new.places.items (get_or c.args.touched.now x 0) 0 ≡ 0)
            same e.here
      ];
    }

pub returns-clause-zeros : goal.returns-clause-zeros
returns-clause-zeros c = λ k.
    let i = c.loop-number.invariant in
    elim (c.requires k) [
      | inl zero ↦ i.stays k zero
      | inr named ↦
          subst (λ x. get_or c.loop-number.places.items x 0 ≡ 0)
          (get_or_default c.args.touched.now named.0 0 k named.1 ∙ named.2)
          (i.gone named.0 (let less = named.1 in let done = c.loop-number-test.false in
          omega arith))
    ]
