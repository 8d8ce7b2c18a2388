use Rattle.std.proofs.Common.{◌∙◌, sym, subst}
use Rattle.hv_trap.specs.Working.Marks.{AreMarkedLeft}
use Rattle.hv_trap.specs.Working.Quick.{ArePairs}
use Rattle.hv_trap.specs.Working.Trap.{Escapes}
use Rattle.hv_trap.proofs.Enclosing.{few_over}
use Rattle.hv_trap.proofs.Marked.{left_more}
use Rattle.hv_trap.proofs.sweep.mark.Goals as goal

pub lacked-requires : goal.lacked-requires
lacked-requires c = few_over c.args.task.now c.action.result.now c.requires.few
    c.action.ensures.over

pub returns-then-not-escapes-clause-left : goal.returns-then-not-escapes-clause-left
returns-then-not-escapes-clause-left c = λ clauses has are left.
    subst (AreMarkedLeft c.args.task.now clauses) (sym c.escapes.ensures.left) left

pub returns-clause-left : goal.returns-clause-left
returns-clause-left c = λ clauses has are left.
    let task = c.args.task.now in
    let room = c.escapes.new.room in
    let still = subst (AreMarkedLeft task clauses) (sym c.escapes.ensures.left) left in
    let pairs = subst (λ n. ArePairs n clauses room.quick.pairs.items)
    (sym c.escapes.ensures.room.before)
    (subst (ArePairs _ clauses) (sym c.escapes.ensures.pairs) are) in
    left_more task clauses c.args.action room.before room.left.items c.mark_false.new.left.items
    c.requires.action has
    (subst (Escapes task clauses c.args.action) (sym c.escapes.ensures.before)
    (c.escapes.ensures.escapes c.if-not-escapes.false clauses are))
    still (c.mark_false.ensures.marks ∙ still.count) (c.mark_false.ensures.left clauses pairs)
