use Rattle.hv_reach.specs.Reached.{has_pair}
use Rattle.hv_reach.specs.Written.{row_clauses}
use Rattle.hv_lines.proofs.Lists.{pieces_next}
use Rattle.hv_reach.proofs.pair_formula.pairs_formula.Goals as goal

pub loop-first-preserved : goal.loop-first-preserved
loop-first-preserved c =
    pieces_next (row_clauses c.args.atoms (has_pair c.args.pairs.now)) c.loop-first.first
    c.loop-first.clauses c.deny_row.new.clauses
    c.loop-first.invariant c.in_ok-deny_row.ensures
