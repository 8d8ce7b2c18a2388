use Rattle.std.proofs.lemmas.List.{get_or_default}
use Rattle.std.proofs.Common.{◌≡◌, ◌∙◌, ◌-◌, [], true, false, arith, inl, inr, refl, sym, get_or}
use Rattle.std.proofs.lemmas.Bool.{both_ways, cases_order}
use Rattle.std.proofs.Common.{subst}
use Rattle.hv_explicit.specs.Working.Codes.{IsSame}
use Rattle.hv_explicit.specs.Working.Listing.{first_at}
use Rattle.hv_explicit.proofs.LookUp.{coded_at}
use Rattle.hv_explicit.proofs.firsts.look_up.Goals as goal

pub returns-then-is_at : goal.returns-then-is_at
returns-then-is_at g c = (
  λ _. (
    c.loop-end.end - 1,
    let upto = c.loop-end.invariant.upto in
        let some = c.loop-end-test.true in let many = c.requires.index.many in omega arith,
    subst (λ place. IsSame (g.A.Sought.has c.args.held.now)
        (get_or c.args.states.now place [])) (c.index.ensures
        ∙ get_or_default c.args.firsts.now.places.items (c.loop-end.end - 1) c.index.result.now 0
        (let upto = c.loop-end.invariant.upto in
        let some = c.loop-end-test.true in let many = c.requires.index.many in omega arith))
        (c.is_at.ensures.0 c.if-is_at.true),
  ),
  λ _. refl,
)

pub returns : goal.returns
returns g c = (
  λ e. let f : false ≡ true = e in absurd cc,
  λ found. absurd (c.loop-end.invariant.none found.0 found.1
      (let over = c.loop-end-test.false in omega arith)
      (coded_at c.args.firsts.now.key c.args.states.now c.args.firsts.now.places.items
      c.args.firsts.now.codes (g.A.Sought.has c.args.held.now) c.args.code found.0 c.requires.index
      c.requires.code found.1 found.2) found.2),
)

pub loop-end-init : goal.loop-end-init
loop-end-init g c = record {
  upto = c.last-end.ensures.upto;
  none = λ e less after same has.
      let many = c.requires.index.many in
      let low = c.last-end.ensures.after e (omega (arith, less)) same in omega (arith, after);
  there = c.last-end.ensures.there;
}

pub loop-end-preserved : goal.loop-end-preserved
loop-end-preserved g c =
    let entry = c.loop-end.end - 1 in
    let some = c.loop-end-test.true in
    let upto = c.loop-end.invariant.upto in
    let many = c.requires.index.many in
    let here = c.loop-end.invariant.there some in
    record {
      upto = omega (arith, c.earlier-end.ensures.upto);
      none = λ e less after same has. elim (cases_order e entry) [
        | inl is ↦ both_ways c.is_at.result c.if-is_at.false (c.is_at.ensures.1
            (subst (λ place. IsSame (g.A.Sought.has c.args.held.now)
            (get_or c.args.states.now place [])) (sym (c.index.ensures
            ∙ get_or_default c.args.firsts.now.places.items entry c.index.result.now 0
            (omega arith)))
            (subst (λ k. IsSame (g.A.Sought.has c.args.held.now)
            (first_at c.args.states.now c.args.firsts.now.places.items k)) is has)))
        | inr (inl before) ↦
            let low = c.earlier-end.ensures.after e before (same ∙ sym here) in omega (arith, after)
        | inr (inr behind) ↦ c.loop-end.invariant.none e less (omega arith) same has
      ];
      there = λ more. c.earlier-end.ensures.there more ∙ here;
    }
