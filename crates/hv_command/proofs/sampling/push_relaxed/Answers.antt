use Rattle.std.proofs.Common.{◌≡◌, ◌++◌, codes, subst}
use Rattle.hv_lines.specs.Drafts.{IsGoodTable}
use Rattle.hv_lines.specs.Judged.{Concludes}
use Rattle.hv_reach.specs.Written.{IsRelaxedProof}
use Rattle.hv_command.specs.Sample.{proof_line}
use Rattle.hv_command.proofs.Sampled.{of_draft, relaxed_clauses, relaxed_found}
use Rattle.hv_command.proofs.sampling.push_relaxed.Goals as goal

pub unreachable-requires : goal.unreachable-requires
unreachable-requires c =
    relaxed_found c.args.rooms c.requires.rooms c.args.task.now c.requires.task
    c.in_ok-draft.field-0 c.in_ok-draft.ensures.some c.in-None.is

pub push_proof-requires-clause-horn : goal.push_proof-requires-clause-horn
push_proof-requires-clause-horn c =
    let counted = relaxed_clauses c.args.rooms c.requires.rooms c.args.task.now c.requires.task
    c.in-Some.draft.lines
    (of_draft (λ d. IsRelaxedProof c.args.task.now d.lines) c.in_ok-draft.field-0 c.in-Some.draft
    c.in-Some.is c.in_ok-draft.ensures.lines) in
    (counted.0, counted.1)

pub push_proof-requires-clause-good : goal.push_proof-requires-clause-good
push_proof-requires-clause-good c =
    of_draft (λ d. IsGoodTable c.args.task.now d.lines) c.in_ok-draft.field-0 c.in-Some.draft
    c.in-Some.is c.in_ok-draft.ensures.good

pub push_proof-requires-clause-concludes : goal.push_proof-requires-clause-concludes
push_proof-requires-clause-concludes c =
    of_draft (λ d. Concludes d.lines) c.in_ok-draft.field-0 c.in-Some.draft c.in-Some.is
    c.in_ok-draft.ensures.concludes

pub returns : goal.returns
returns c =
    let counted = relaxed_clauses c.args.rooms c.requires.rooms c.args.task.now c.requires.task
    c.in-Some.draft.lines
    (of_draft (λ d. IsRelaxedProof c.args.task.now d.lines) c.in_ok-draft.field-0 c.in-Some.draft
    c.in-Some.is c.in_ok-draft.ensures.lines) in
    subst (λ n. c.push_proof.new.text ≡ c.args.text.now ++ proof_line (codes "relaxed") n 16)
    counted.2
    (c.in_ok-push_proof-in-Some.ensures counted.0 counted.1)
