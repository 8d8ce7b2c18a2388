use Rattle.std.proofs.Common.{◌≡◌, Bool, true, false, not, [], IfSome, refl, arith, subst}
use Rattle.hv_clauses.specs.Working.Found.{IsAskedTwice}
use Rattle.hv_clauses.proofs.AffectedChoices.{met_from_touched}
use Rattle.hv_clauses.proofs.Searching.{found_from_met}
use Rattle.hv_clauses.proofs.inquiry.is_idle.Goals as goal

flipped : (b : Bool) → not b ≡ true → b ≡ false
flipped true e = absurd cc
flipped false e = refl

pub returns-then-cost-eq0 : goal.returns-then-cost-eq0
returns-then-cost-eq0 g c = λ _.
    found_from_met c.args.problem.now c.requires.posed false []
    (λ number less state size fits. absurd (omega (arith, c.requires.cost, c.if-cost-eq0.true)))

pub returns-in-Some : goal.returns-in-Some
returns-in-Some g c = λ is.
    let p = c.args.problem.now in
    let o = c.in-Some.operand in
    let twice : IsAskedTwice p o =
    subst (λ t. IfSome t (IsAskedTwice p)) c.in-Some.is c.requires.means in
    let untouched = c.is_touched.ensures (flipped c.is_touched.result is) in
    found_from_met p c.requires.posed false []
    (met_from_touched p o twice.set.0 twice twice.set.1 [] []
    (λ number turned state size fits. untouched twice.set.0 twice.set.1 false number turned) false
    (λ number turned state size fits. untouched twice.set.0 twice.set.1 true number turned))
