use Rattle.std.proofs.Common.{◌∙◌, sym, subst}
use Rattle.hv_task.specs.Strips.{atoms}
use Rattle.hv_trap.specs.Working.Quick.{ArePairs}
use Rattle.hv_trap.proofs.sweep.mark_all.Goals as goal

pub loop-preserved : goal.loop-preserved
loop-preserved c =
    let i = c.loop.invariant in
    record {
      room = c.mark.ensures.room;
      pairs = c.mark.ensures.pairs ∙ i.pairs;
      marks = c.mark.ensures.marks;
      left = λ clauses has are left. c.mark.ensures.left clauses has
          (subst (ArePairs (atoms c.args.task.now) clauses) (sym i.pairs) are)
          (i.left clauses has are left);
    }

pub returns-then-not-mark-clause-left : goal.returns-then-not-mark-clause-left
returns-then-not-mark-clause-left c = λ clauses has are left.
    let i = c.loop.invariant in
    c.mark.ensures.left clauses has
    (subst (ArePairs (atoms c.args.task.now) clauses) (sym i.pairs) are)
    (i.left clauses has are left)
