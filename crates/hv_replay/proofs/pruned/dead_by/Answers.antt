use Rattle.hv_lines.specs.declared.line.Statement.TheVariants as T
use Rattle.hv_lines.proofs.Laws.{known_below}
use Rattle.hv_replay.proofs.pruned.dead_by.Goals as goal

pub statement-requires : goal.statement-requires
statement-requires c =
    known_below c.args.table.now.lines c.args.line (T.Dead c.requires.dead.0)
    c.requires.table c.requires.dead.1
