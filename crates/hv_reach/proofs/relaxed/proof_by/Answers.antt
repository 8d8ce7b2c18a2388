use Rattle.std.proofs.Common.{refl}
use Rattle.hv_task.specs.Strips.{start_state}
use Rattle.hv_reach.proofs.Found.{relaxed_found_proof, relaxed_found_separates}
use Rattle.hv_reach.proofs.relaxed.proof_by.Goals as goal

pub horn_proof-requires-clause-separates : goal.horn_proof-requires-clause-separates
horn_proof-requires-clause-separates c =
    let task = c.args.task.now in
    relaxed_found_separates task c.args.reached.now c.requires.size (start_state task)
    c.requires.reached c.in_ok-clauses.clauses c.in_ok-clauses.ensures refl
    c.atoms-atoms.ensures.task.few_atoms c.requires.excludes

pub returns-clause-lines : goal.returns-clause-lines
returns-clause-lines c =
    let task = c.args.task.now in
    relaxed_found_proof task c.args.reached.now c.requires.size (start_state task)
    c.requires.reached c.in_ok-clauses.clauses c.in_ok-clauses.ensures refl
    c.in_ok-draft.draft.lines c.in_ok-draft.ensures.lines

pub returns-clause-good : goal.returns-clause-good
returns-clause-good c = c.in_ok-draft.ensures.good

pub returns-clause-concludes : goal.returns-clause-concludes
returns-clause-concludes c = c.in_ok-draft.ensures.concludes
