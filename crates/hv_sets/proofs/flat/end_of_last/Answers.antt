use Rattle.std.proofs.Common.{sym, arith, length, ◌-◌}
use Rattle.hv_sets.proofs.Pieces.{last_end_at}
use Rattle.hv_sets.proofs.flat.end_of_last.Goals as goal

pub returns-else-count-eq0 : goal.returns-else-count-eq0
returns-else-count-eq0 c =
    sym (last_end_at 0 c.args.ends.now (length c.args.ends.now - 1)
    (omega (arith, c.if-count-eq0.false)))
