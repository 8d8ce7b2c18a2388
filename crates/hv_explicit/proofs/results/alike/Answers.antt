use Rattle.std.proofs.Common.{◌≡◌, ◌∙◌, ◌+◌, ◌-◌, ap, arith, get_or, inl, inr, sym}
use Rattle.std.proofs.lemmas.Bool.{cases_lt}
use Rattle.hv_explicit.proofs.results.alike.Goals as goal

pub loop-many-preserved : goal.loop-many-preserved
loop-many-preserved c =
    let many = c.loop-many.many in
    let list = c.args.list.now in
    let held = c.args.held.now in
    let four = c.are_four_alike.ensures in record {
      within = let room = c.loop-many-test.true in omega arith;
      same = λ k less. elim (cases_lt k many) [
        | inl old ↦ c.loop-many.invariant.same k old
        | inr new ↦
            let e : c.args.place + k ≡ c.args.place + many + (k - many) = omega arith in
            let f : c.args.at + k ≡ c.args.at + many + (k - many) = omega arith in
            ap (λ j. get_or list j 0) e
            ∙ four.same c.if-are_four_alike.true (k - many) (omega arith)
            ∙ sym (ap (λ j. get_or held j 0) f)
      ];
      less = λ k less. elim (cases_lt k many) [
        | inl old ↦ c.loop-many.invariant.less k old
        | inr new ↦
            let e : c.args.place + k ≡ c.args.place + many + (k - many) = omega arith in
            let f = ap (λ j. get_or list j 0) e in
            let below = four.less c.if-are_four_alike.true (k - many) (omega arith) in omega arith
      ];
    }
