use Rattle.std.proofs.Common.{◌≡◌, ◌<◌, ◌∙◌, arith, get_or, inl, inr, subst, sym}
use Rattle.std.proofs.lemmas.Bool.{cases_lt}
use Rattle.std.proofs.lemmas.List.{get_or_default}
use Rattle.std.specs.List.{Contains}
use Rattle.hv_basic.specs.Working.Candidates.{AreListedAmong}
use Rattle.hv_basic.proofs.long_lists.listed_among.Goals as goal

pub loop-number-init : goal.loop-number-init
loop-number-init c =
    let e = c.in_ok-put_first.ensures in
    record {
      some = e.some;
      has = λ j less. absurd (omega (arith, less));
      only = λ k h. elim (e.only k h) [
        | inl none ↦
            let within = (subst (λ xs. Contains xs k) c.new-found.ensures none).1 in
            absurd (omega (arith, within))
        | inr is ↦ is
      ];
    }

pub loop-number-preserved : goal.loop-number-preserved
loop-number-preserved c =
    let i = c.loop-number.invariant in
    let e = c.in_ok-put_listed.ensures in
    let number = get_or c.args.numbers.now c.loop-number.number-index 0 in
    record {
      some = λ k h less. let w = i.some k h less in (w.0, e.kept w.0 w.1);
      has = λ j upto h less. elim (cases_lt j c.loop-number.number-index) [
        | inl before ↦ e.kept (get_or c.args.numbers.now j 0) (i.has j before h less)
        | inr past ↦
            let here : j ≡ c.loop-number.number-index = omega (arith, upto, past) in
            subst (λ n. Contains c.args.listed.now (get_or c.args.numbers.now n 0)
            → get_or c.args.numbers.now n 0 < c.args.actions
            → Contains c.put_listed.new.found (get_or c.args.numbers.now n 0)) (sym here) e.has h
            less
      ];
      only = λ k h. elim (e.only k h) [ inl old ↦ i.only k old | inr is ↦ is ];
    }

pub returns : goal.returns
returns c =
    let i = c.loop-number.invariant in
    subst (AreListedAmong c.args.listed.now c.args.numbers.now c.args.actions)
    (sym c.in_ok-few.ensures.list)
    (record {
      only = i.only;
      some = λ k h less. let w = i.some k h less in let within = w.1.1 in omega (arith, within);
      each = λ k h among less.
          let at : get_or c.args.numbers.now h.0 0 ≡ k =
          get_or_default c.args.numbers.now h.0 0 k h.1 ∙ h.2 in
          let within = h.1 in
          subst (Contains c.loop-number.found) at
          (i.has h.0 (omega (arith, within, c.loop-number-test.false))
          (subst (Contains c.args.listed.now) (sym at) among) (omega (arith, at, less)));
    })
