use Rattle.hv_clauses.proofs.Enabling.{enabled_by}
use Rattle.hv_propagation.specs.Trail.{marks_of}
use Rattle.hv_clauses.proofs.precondition.mark_pre.Goals as goal

pub returns-in-Some-clause-marked : goal.returns-in-Some-clause-marked
returns-in-Some-clause-marked g c =
    enabled_by _ c.in-Some.action.now c.as_slice.result.now (marks_of c.args.marks.now)
    (marks_of c.force_in.new.marks) c.force_in.result c.in-Some.ensures.0 c.as_slice.ensures.items
    c.force_in.ensures.marked
