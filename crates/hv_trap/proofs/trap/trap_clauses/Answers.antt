use Rattle.std.proofs.Common.{subst, sym}
use Rattle.hv_trap.specs.Working.Trap.{EncloseTrap}
use Rattle.hv_trap.proofs.Enclosing.{all_enclose, set_is_trap}
use Rattle.hv_trap.proofs.trap.trap_clauses.Goals as goal

pub take_out-requires-clause-clauses : goal.take_out-requires-clause-clauses
take_out-requires-clause-clauses c = subst (EncloseTrap c.args.task.now)
    (sym c.in_ok-clauses.ensures) (all_enclose c.args.task.now)

pub returns : goal.returns
returns c =
    let e = c.in_ok-round.ensures in
    set_is_trap c.args.task.now e.enclose.0 c.round.new.clauses e.enclose.1
    (e.still c.if-branch.false)
