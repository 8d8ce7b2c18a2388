use Rattle.std.proofs.Common.{Some, ap, refl}
use Rattle.hv_lines.specs.declared.reason.Reason.TheVariants as R
use Rattle.hv_checker.specs.Working.Judge.{JudgeState}
use Rattle.hv_checker.proofs.Judges.{refused_answer, refused_stop, so_anyway}
use Rattle.hv_checker.proofs.PieceReasons.{grammar_reason, line_reason}
use Rattle.hv_checker.proofs.piece_judge.Judge.accept_line.Goals as goal

pub returns-in-Err-Grammar-clause-accepted : goal.returns-in-Err-Grammar-clause-accepted
returns-in-Err-Grammar-clause-accepted c =
    let none = rw c.in-Err-Grammar.field-0-is at c.in-Err-Grammar.ensures in
    refused_answer c.args.self.now.setting c.args.self.now.lines _ (Some c.args.bytes.now)
    R.Grammar c.refused.new.stop c.refused.result c.refused.ensures
    (grammar_reason c.args.self.now.setting c.args.self.now.lines c.args.bytes.now none.0
    none.1) refl

pub returns-in-Some-clause-accepted : goal.returns-in-Some-clause-accepted
returns-in-Some-clause-accepted c =
    let read = rw c.in-Ok-Some.field-0-is at c.in-Ok-Some.ensures in
    refused_answer c.args.self.now.setting c.args.self.now.lines _ (Some c.args.bytes.now)
    c.in-Some.reason c.refused-in-Some.new.stop c.refused-in-Some.result c.refused-in-Some.ensures
    (line_reason c.args.self.now.setting c.args.self.now.lines c.args.bytes.now
    c.in-Ok-Some.line read.1 c.in-Some.reason (rw c.in-Some.is at c.in_ok-reason.ensures.fault))
    (ap (λ (b : JudgeState). b.lines) c.in_ok-reason.ensures.same)

pub returns-in-Some-clause-stop : goal.returns-in-Some-clause-stop
returns-in-Some-clause-stop c =
    refused_stop c.in-Some.reason c.args.stop.now c.refused-in-Some.new.stop
    c.refused-in-Some.result c.refused-in-Some.ensures

pub returns-in-Some-clause-lines : goal.returns-in-Some-clause-lines
returns-in-Some-clause-lines c = so_anyway c.refused-in-Some.result _
    (ap (λ (b : JudgeState). b.lines) c.in_ok-reason.ensures.same)

pub returns-in-Err-Grammar-clause-stop : goal.returns-in-Err-Grammar-clause-stop
returns-in-Err-Grammar-clause-stop c =
    refused_stop R.Grammar c.args.stop.now c.refused.new.stop c.refused.result c.refused.ensures
