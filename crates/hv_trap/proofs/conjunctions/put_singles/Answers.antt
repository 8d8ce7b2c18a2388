use Rattle.hv_trap.specs.Conjunctions.{denies_one, over_one}
use Rattle.hv_trap.proofs.Listed.{denials_first}
use Rattle.hv_trap.proofs.conjunctions.put_singles.Goals as goal

pub loop-atom-preserved : goal.loop-atom-preserved
loop-atom-preserved c =
    denials_first (denies_one c.args.goal.now) over_one c.loop-atom.atom c.args.clauses.now
    c.loop-atom.clauses c.put_one.new.clauses
    c.loop-atom.invariant c.in_ok-put_one.ensures
