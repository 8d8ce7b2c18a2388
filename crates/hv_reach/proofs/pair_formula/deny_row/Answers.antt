use Rattle.hv_reach.specs.Reached.{has_pair}
use Rattle.hv_reach.specs.Written.{pair_clauses}
use Rattle.hv_lines.proofs.Lists.{pieces_more}
use Rattle.hv_reach.proofs.pair_formula.deny_row.Goals as goal

pub loop-second-preserved : goal.loop-second-preserved
loop-second-preserved c =
    pieces_more (pair_clauses (has_pair c.args.pairs.now) c.args.first) c.args.first
    c.loop-second.second c.args.clauses.now
    c.loop-second.clauses c.deny_pair.new.clauses c.loop-second.auto.second c.loop-second.invariant
    c.in_ok-deny_pair.ensures
