use Rattle.std.proofs.Common.{subst}
use Rattle.std.specs.Option.{IfSome}
use Rattle.hv_lines.specs.Queries.{has_of}
use Rattle.hv_basic.specs.Cases.{lines_in, setting_in}
use Rattle.hv_basic.specs.Working.Framed.{AreCrossing, IsFramed}
use Rattle.hv_basic.proofs.Crossing.{clashes_crossing}
use Rattle.hv_basic.proofs.framed.crossing.Goals as goal

pub returns : goal.returns
returns c =
    let setting = setting_in c.args.case.now in
    let sets = has_of setting (lines_in c.args.case.now) c.args.family in
    let number = c.in-Some.frame.number in
    let into = c.in-Some.frame.into in
    clashes_crossing setting.task sets c.args.query.now number into c.in-Some-2.numbers
    (subst (λ xs. IsFramed xs c.args.query.now.negative number into) c.as_slice-positive.ensures
    (subst (λ xs. IsFramed c.as_slice-positive.result.now xs number into) c.as_slice.ensures
    c.in-Some.ensures))
    (subst (λ o. IfSome o (AreCrossing setting.task (sets number) into)) c.in-Some-2.is
    c.in_ok-numbers.ensures)
