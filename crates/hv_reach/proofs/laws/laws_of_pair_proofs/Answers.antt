use Rattle.hv_reach.proofs.Modest.{pairs_modest}
use Rattle.hv_reach.proofs.Proofs.{pairs_end, pairs_good, pairs_once, pairs_size}
use Rattle.hv_reach.proofs.laws.laws_of_pair_proofs.Goals as goal

pub returns-clause-once : goal.returns-clause-once
returns-clause-once c = pairs_once

pub returns-clause-size : goal.returns-clause-size
returns-clause-size c = pairs_size

pub returns-clause-good : goal.returns-clause-good
returns-clause-good c = pairs_good

pub returns-clause-concludes : goal.returns-clause-concludes
returns-clause-concludes c = pairs_end

pub returns-clause-modest : goal.returns-clause-modest
returns-clause-modest c = pairs_modest
