use Rattle.std.proofs.Common.{◌≡◌, get_or, arith, sym, subst}
use Rattle.hv_reach.proofs.Waiting.{whole_in}
use Rattle.hv_reach.specs.Reached.{AreIn}
use Rattle.hv_reach.specs.Working.Waiting.{IsPassed}
use Rattle.hv_reach.proofs.atom_search.visit.Goals as goal

pub returns-clause-least : goal.returns-clause-least
returns-clause-least c = λ r keeps within.
    let a = c.action-action.result.now in
    let named = c.action-action.ensures.named in
    let from : get_or c.args.passed.now c.args.number 0 ≡ c.get-from.result =
    sym c.get-from.ensures in
    let passed = subst (λ n. IsPassed c.args.held.now a n) from
    (c.requires.kept.each c.args.number a named) in
    let whole = whole_in c.args.held.now r a c.as_slice.result.now c.get-from.result
    c.first_missing-place.result passed c.as_slice.ensures.items
    (omega arith) c.first_missing-place.ensures.front within in
    c.in_ok-reach_all.ensures.least r (subst (AreIn r) (sym c.as_slice-2.ensures.items)
    (keeps c.args.number a named whole)) within
