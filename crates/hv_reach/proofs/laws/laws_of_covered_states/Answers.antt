use Rattle.hv_reach.proofs.Covered.{pairs_dead_from, relaxed_dead_from}
use Rattle.hv_reach.proofs.laws.laws_of_covered_states.Goals as goal

pub returns-clause-atoms : goal.returns-clause-atoms
returns-clause-atoms c = relaxed_dead_from

pub returns-clause-pairs : goal.returns-clause-pairs
returns-clause-pairs c = pairs_dead_from
