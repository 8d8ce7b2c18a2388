use Rattle.std.proofs.Common.{◌∙◌, subst}
use Rattle.std.specs.Option.{IfSome}
use Rattle.hv_task.specs.Strips.{atoms}
use Rattle.hv_sets.specs.Truth.{in_clauses}
use Rattle.hv_basic.specs.Working.Excluded.{AreLeading}
use Rattle.hv_basic.specs.Working.Framed.{AreCrossing}
use Rattle.hv_basic.proofs.Crossing.{stored_clauses, turning_crossing}
use Rattle.hv_basic.proofs.Excluding.{crossing_leading}
use Rattle.hv_basic.proofs.framed.crossing_in.Goals as goal

pub returns-then-is_none : goal.returns-then-is_none
returns-then-is_none g c =
    turning_crossing c.args.case.now.task.now c.args.sets.now c.args.frame.number c.get.result.now
    c.clauses-clauses.result.now c.args.frame.into c.in_ok-turned.turned c.get.ensures
    c.clauses-clauses.ensures.clauses c.in_ok-turned.ensures

pub returns-in-Some : goal.returns-in-Some
returns-in-Some g c = λ lists is.
    let task = c.args.case.now.task.now in
    let into = c.args.frame.into in
    subst (λ clauses. AreCrossing task (in_clauses clauses) into c.in-Some.numbers)
    (c.clauses-clauses.ensures.clauses
    ∙ stored_clauses (atoms task) c.args.sets.now lists is c.args.frame.number c.get.result.now
    c.get.ensures)
    (crossing_leading task c.clauses-clauses.result.now into c.in-Some.numbers
    (subst (λ o. IfSome o (AreLeading task c.clauses-clauses.result.now into)) c.in-Some.is
    c.in_ok-numbers.ensures))

pub returns : goal.returns
returns g c =
    turning_crossing c.args.case.now.task.now c.args.sets.now c.args.frame.number c.get.result.now
    c.clauses-clauses.result.now c.args.frame.into c.in_ok-turned.turned c.get.ensures
    c.clauses-clauses.ensures.clauses c.in_ok-turned.ensures
