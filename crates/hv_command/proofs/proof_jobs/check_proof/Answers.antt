use Rattle.std.proofs.Common.{IfOk, IfSome, subst}
use Rattle.hv_bytes.specs.Files.{bytes_of}
use Rattle.hv_command.specs.Answer.{AnswersProof}
use Rattle.hv_command.proofs.proof_jobs.check_proof.Goals as goal

pub returns-clause-answer : goal.returns-clause-answer
returns-clause-answer g c =
    subst
    (λ s. IfSome (g.S.Shelf.held c.args.shelf.now)
    (λ held. IfOk c.judge_file.result (λ r. AnswersProof c.args.proof.now.report s
    (bytes_of held c.args.proof.now.name.now) r.status r.text)))
    c.in_ok-checker.ensures.setting c.judge_file.ensures.answer
