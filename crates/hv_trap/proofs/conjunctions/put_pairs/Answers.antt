use Rattle.hv_trap.specs.Conjunctions.{denies_one, over_greater}
use Rattle.hv_trap.proofs.Listed.{denials_first}
use Rattle.hv_trap.proofs.conjunctions.put_pairs.Goals as goal

pub loop-first-preserved : goal.loop-first-preserved
loop-first-preserved c =
    denials_first (denies_one c.args.goal.now) (over_greater c.args.atoms) c.loop-first.first
    c.args.clauses.now c.loop-first.clauses
    c.put_row.new.clauses c.loop-first.invariant c.in_ok-put_row.ensures
