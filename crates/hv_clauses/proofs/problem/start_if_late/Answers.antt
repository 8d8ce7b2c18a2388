use Rattle.std.proofs.Common.{length}
use Rattle.hv_clauses.specs.Working.Posed.{formulas}
use Rattle.hv_propagation.specs.Effect.{late}
use Rattle.hv_propagation.proofs.Chasing.{longer}
use Rattle.hv_clauses.proofs.EarlyParts.{left_earlier}
use Rattle.hv_clauses.proofs.problem.start_if_late.Goals as goal

pub returns-clause-left : goal.returns-clause-left
returns-clause-left g c = λ is from h early.
    let p = c.args.problem.now in
    let o = c.args.operand in
    left_earlier p.task (formulas p) (late p.effect o.after) o.which c.start_whole.new.marks from
    (length c.args.marks.now.trail) h (longer _ _ _ _ c.start_whole.ensures.followed)
    (c.start_whole.ensures.left is)
