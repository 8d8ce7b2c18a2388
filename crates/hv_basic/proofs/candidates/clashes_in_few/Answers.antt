use Rattle.std.proofs.Common.{subst}
use Rattle.std.specs.Option.{IfSome}
use Rattle.hv_lines.specs.Queries.{has_of}
use Rattle.hv_basic.specs.Cases.{lines_in, setting_in}
use Rattle.hv_basic.specs.Working.Candidates.{AreCandidates, IsAskedBefore}
use Rattle.hv_basic.proofs.Enough.{clashes_in_set}
use Rattle.hv_basic.proofs.candidates.clashes_in_few.Goals as goal

pub returns : goal.returns
returns c =
    let setting = setting_in c.args.case.now in
    let sets = has_of setting (lines_in c.args.case.now) c.args.family in
    clashes_in_set setting.task sets c.args.query.now c.in-Some.which c.in-Some-2.numbers
    (subst (λ xs. IsAskedBefore xs c.in-Some.which) c.as_slice.ensures c.in-Some.ensures)
    (subst (λ o. IfSome o (AreCandidates setting.task sets c.in-Some.which)) c.in-Some-2.is
    c.in_ok-numbers.ensures)
