use Rattle.std.proofs.Common.{subst, sym}
use Rattle.hv_lines.specs.Numbering.{SpeaksBelow, acts_count, expr_count}
use Rattle.hv_lines.specs.Setting.{setting_of}
use Rattle.hv_lines.specs.Shapes.{HasShape}
use Rattle.hv_checker.specs.Working.Judge.{JudgeState}
use Rattle.hv_checker.specs.Working.PieceVerdicts.{IsBasicFault}
use Rattle.hv_checker.proofs.Faults.{by_verdict}
use Rattle.hv_checker.proofs.GoodLines.{good_nodes}
use Rattle.hv_checker.proofs.piece_judge.Judge.fault_of_basic.Goals as goal

pub verdict_of-requires-clause-speaks : goal.verdict_of-requires-clause-speaks
verdict_of-requires-clause-speaks c =
    subst (λ (b : JudgeState). SpeaksBelow (acts_count b.lines) (expr_count b.lines)
    c.args.statement.now) (sym c.self.view_is) c.requires

pub invariant_of-case-clause-nodes : goal.invariant_of-case-clause-nodes
invariant_of-case-clause-nodes c =
    good_nodes (setting_of c.self.inside.task.now c.self.inside.diagrams.now c.self.inside.budget)
    c.self.inside.table.lines c.self.invariant.good

pub returns-in-Err-Shape-clause-fault : goal.returns-in-Err-Shape-clause-fault
returns-in-Err-Shape-clause-fault c =
    subst (λ (b : JudgeState). HasShape b.lines c.args.statement.now c.args.word → ⊥)
    c.self.view_is (rw c.in-Err-Shape.field-0-is at c.in-Err-Shape.ensures.err)

pub returns-clause-fault : goal.returns-clause-fault
returns-clause-fault c =
    let setting = setting_of c.self.inside.task.now c.self.inside.diagrams.now
    c.self.inside.budget in
    subst (λ (b : JudgeState). IsBasicFault b.setting b.lines c.args.statement.now c.args.word
    c.reason_by.result) c.self.view_is
    (subst (IsBasicFault setting c.self.inside.table.lines c.args.statement.now c.args.word)
    (sym c.reason_by.ensures)
    (by_verdict setting c.self.inside.table.lines c.args.statement.now
    c.args.word c.in-Ok.verdict c.in-Ok.ensures.answer))
