use Rattle.std.proofs.Common.{None, refl}
use Rattle.hv_lines.specs.declared.reason.Reason.TheVariants as R
use Rattle.hv_checker.proofs.Judges.{refused_answer, refused_stop}
use Rattle.hv_checker.proofs.PieceReasons.{long_reason}
use Rattle.hv_checker.proofs.piece_judge.Judge.accept.Goals as goal

pub returns-in-Long-clause-accepted : goal.returns-in-Long-clause-accepted
returns-in-Long-clause-accepted c = rw c.in-Long.is
    (refused_answer c.args.self.now.setting c.args.self.now.lines c.args.self.now.lines None R.Long
    c.refused.new.stop c.refused.result c.refused.ensures
    (long_reason c.args.self.now.setting c.args.self.now.lines) refl)

pub returns-in-Line-clause-accepted : goal.returns-in-Line-clause-accepted
returns-in-Line-clause-accepted c = rw c.in-Line.is c.accept_line.ensures.accepted

pub returns-in-Long-clause-stop : goal.returns-in-Long-clause-stop
returns-in-Long-clause-stop c =
    refused_stop R.Long c.args.stop.now c.refused.new.stop c.refused.result c.refused.ensures
