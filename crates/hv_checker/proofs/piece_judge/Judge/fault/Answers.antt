use Rattle.std.proofs.Common.{MatchOption, subst}
use Rattle.hv_lines.specs.Setting.{setting_of}
use Rattle.hv_lines.specs.Working.Good.{IsFormed, IsReasonOf}
use Rattle.hv_checker.specs.Working.Judge.{JudgeState}
use Rattle.hv_checker.proofs.Judges.{none_told}
use Rattle.hv_checker.proofs.piece_judge.Judge.fault.Goals as goal

pub returns-in-Some-clause-fault : goal.returns-in-Some-clause-fault
returns-in-Some-clause-fault c =
    let setting = setting_of c.self.inside.task.now c.self.inside.diagrams.now
    c.self.inside.budget in
    let lines = c.self.inside.table.lines in
    let line = c.args.line.now in
    subst (λ (b : JudgeState). IsReasonOf b.setting b.lines line c.in-Some.reason) c.self.view_is
    (subst (λ o. MatchOption o (IsFormed setting lines line)
    (λ reason. IsReasonOf setting lines line reason)) c.in-Some.is
    (c.fault_in_form.ensures c.self.inside.budget))

pub fault_in_meaning-requires-clause-formed : goal.fault_in_meaning-requires-clause-formed
fault_in_meaning-requires-clause-formed c =
    let setting = setting_of c.self.inside.task.now c.self.inside.diagrams.now
    c.self.inside.budget in
    let lines = c.self.inside.table.lines in
    let line = c.args.line.now in
    subst (λ (b : JudgeState). IsFormed b.setting b.lines line) c.self.view_is
    (none_told c.fault_in_form.result (IsFormed setting lines line)
    (λ reason. IsReasonOf setting lines line reason)
    (c.fault_in_form.ensures c.self.inside.budget) c.in_default.not-Some)

pub fault_in_meaning-requires-clause-back : goal.fault_in_meaning-requires-clause-back
fault_in_meaning-requires-clause-back c = (fault_in_meaning-requires-clause-formed c).known.0
