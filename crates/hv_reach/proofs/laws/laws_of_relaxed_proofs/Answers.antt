use Rattle.hv_reach.proofs.Modest.{relaxed_modest}
use Rattle.hv_reach.proofs.Proofs.{relaxed_ends, relaxed_good, relaxed_once, relaxed_size}
use Rattle.hv_reach.proofs.laws.laws_of_relaxed_proofs.Goals as goal

pub returns-clause-once : goal.returns-clause-once
returns-clause-once c = relaxed_once

pub returns-clause-size : goal.returns-clause-size
returns-clause-size c = relaxed_size

pub returns-clause-good : goal.returns-clause-good
returns-clause-good c = relaxed_good

pub returns-clause-concludes : goal.returns-clause-concludes
returns-clause-concludes c = relaxed_ends

pub returns-clause-modest : goal.returns-clause-modest
returns-clause-modest c = relaxed_modest
