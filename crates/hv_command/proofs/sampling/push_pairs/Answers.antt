use Rattle.std.proofs.Common.{◌≡◌, ◌++◌, codes, subst}
use Rattle.hv_lines.specs.Drafts.{IsGoodTable}
use Rattle.hv_lines.specs.Judged.{Concludes}
use Rattle.hv_reach.specs.Written.{IsPairsProof}
use Rattle.hv_command.specs.Sample.{proof_line}
use Rattle.hv_command.proofs.Sampled.{of_draft, few_atoms, pairs_clauses, pairs_found}
use Rattle.hv_command.proofs.sampling.push_pairs.Goals as goal

pub unreachable-requires : goal.unreachable-requires
unreachable-requires c =
    pairs_found c.args.rooms c.requires.rooms c.args.task.now c.requires.task c.in-Ok-None.field-0
    c.in-Ok-None.ensures.some c.in-Ok-None.field-0-is

pub unreachable-requires-in-Err-TooManyAtoms : goal.unreachable-requires-in-Err-TooManyAtoms
unreachable-requires-in-Err-TooManyAtoms c =
    few_atoms c.args.rooms c.requires.rooms c.args.task.now c.requires.task
    (c.in-Err-TooManyAtoms.ensures.many.0 c.in-Err-TooManyAtoms.field-0-is)

pub push_proof-requires-clause-horn : goal.push_proof-requires-clause-horn
push_proof-requires-clause-horn c =
    let counted = pairs_clauses c.args.rooms c.requires.rooms c.args.task.now c.requires.task
    c.in-Ok-Some.draft.lines
    (of_draft (λ d. IsPairsProof c.args.task.now d.lines) c.in-Ok-Some.field-0 c.in-Ok-Some.draft
    c.in-Ok-Some.field-0-is c.in-Ok-Some.ensures.lines) in
    (counted.0, counted.1)

pub push_proof-requires-clause-good : goal.push_proof-requires-clause-good
push_proof-requires-clause-good c =
    of_draft (λ d. IsGoodTable c.args.task.now d.lines) c.in-Ok-Some.field-0 c.in-Ok-Some.draft
    c.in-Ok-Some.field-0-is c.in-Ok-Some.ensures.good

pub push_proof-requires-clause-concludes : goal.push_proof-requires-clause-concludes
push_proof-requires-clause-concludes c =
    of_draft (λ d. Concludes d.lines) c.in-Ok-Some.field-0 c.in-Ok-Some.draft
    c.in-Ok-Some.field-0-is c.in-Ok-Some.ensures.concludes

pub returns-in_ok-push_proof-in-Ok-Some : goal.returns-in_ok-push_proof-in-Ok-Some
returns-in_ok-push_proof-in-Ok-Some c =
    let counted = pairs_clauses c.args.rooms c.requires.rooms c.args.task.now c.requires.task
    c.in-Ok-Some.draft.lines
    (of_draft (λ d. IsPairsProof c.args.task.now d.lines) c.in-Ok-Some.field-0 c.in-Ok-Some.draft
    c.in-Ok-Some.field-0-is c.in-Ok-Some.ensures.lines) in
    subst (λ n. c.push_proof.new.text ≡ c.args.text.now ++ proof_line (codes "pairs") n 16)
    counted.2
    (c.in_ok-push_proof-in-Ok-Some.ensures counted.0 counted.1)
