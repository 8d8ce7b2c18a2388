use Rattle.std.proofs.Common.{subst}
use Rattle.std.specs.Option.{IfSome}
use Rattle.hv_lines.specs.Queries.{has_of}
use Rattle.hv_basic.specs.Cases.{lines_in, setting_in}
use Rattle.hv_basic.specs.Working.Denied.{AreAbsent, AreOpen}
use Rattle.hv_basic.proofs.Denying.{clashes_open}
use Rattle.hv_basic.proofs.denied.clashes_in_open.Goals as goal

pub returns : goal.returns
returns c =
    let setting = setting_in c.args.case.now in
    let sets = has_of setting (lines_in c.args.case.now) c.args.family in
    clashes_open setting.task sets c.args.query.now c.in_ok-flags.flags.items c.in-Some.numbers
    (subst (λ xs. AreAbsent setting.task sets xs c.in_ok-flags.flags.items)
    c.as_slice-positive.ensures c.in_ok-flags.ensures.absent)
    (subst (λ fs. AreOpen setting.task fs c.in-Some.numbers) c.deref.ensures.value
    (subst (λ o. IfSome o (AreOpen setting.task c.deref.result.now)) c.in-Some.is
    c.in_ok-numbers.ensures))
