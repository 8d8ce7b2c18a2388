use Rattle.std.proofs.Common.{Err, IfSome, subst}
use Rattle.hv_bdd.specs.NodeText.{AreNodeTextOf, IsNodesReadFrom}
use Rattle.hv_bytes.specs.Files.{Names, bytes_of}
use Rattle.hv_bytes.specs.Pieces.{pieces_of}
use Rattle.hv_bytes.specs.Standard.{standard}
use Rattle.hv_lines.specs.Setting.{setting_of}
use Rattle.hv_command.specs.Answer.{AnswersProof}
use Rattle.hv_command.specs.Replies.{nodes_fault_text}
use Rattle.hv_command.specs.Working.Replies.{IsNodesFault}
use Rattle.hv_command.specs.Working.Reply.{IsReply}
use Rattle.hv_command.specs.declared.status.Status.TheVariants as S
use Rattle.hv_command.proofs.Checked.{nodes_answer, nodes_fault}
use Rattle.hv_command.proofs.proof_jobs.check_with_nodes.Goals as goal

pub returns-in_ok-answer-in-Ok-clause-answer : goal.returns-in_ok-answer-in-Ok-clause-answer
returns-in_ok-answer-in-Ok-clause-answer g c =
    let answer = c.in_ok-answer-in-Ok.answer in
    nodes_answer c.args.proof.now.report c.args.task.now c.args.proof.now.name.now c.args.nodes.now
    c.args.proof.now.budget (g.S.Shelf.held c.args.shelf.now) c.in-Ok.diagrams answer.status
    answer.text
    (subst (λ n. IfSome (g.S.Shelf.held c.args.shelf.now)
    (λ (h : Names). AreNodeTextOf n (pieces_of standard (bytes_of h c.args.nodes.now))
    c.in-Ok.diagrams))
    c.atoms.ensures.atoms
    (subst (λ name. IfSome (g.S.Shelf.held c.args.shelf.now)
    (λ (h : Names). AreNodeTextOf c.atoms.result (pieces_of standard (bytes_of h name))
    c.in-Ok.diagrams)) c.as_str.ensures c.in-Ok.ensures.read))
    (subst
    (λ held. IfSome held (λ (h : Names). AnswersProof c.args.proof.now.report
    (setting_of c.args.task.now c.in-Ok.diagrams c.args.proof.now.budget)
    (bytes_of h c.args.proof.now.name.now) answer.status answer.text))
    c.in-Ok.ensures.held c.in_ok-answer-in-Ok.ensures.answer)

pub returns-in_ok-answer-in-Err-clause-answer : goal.returns-in_ok-answer-in-Err-clause-answer
returns-in_ok-answer-in-Err-clause-answer g c =
    let answer = c.in_ok-answer-in-Err.answer in
    let said : IsReply answer S.BadInput (nodes_fault_text c.in-Err.fault)
    × IsNodesFault c.in-Err.fault = c.in_ok-answer-in-Err.ensures in
    nodes_fault c.args.proof.now.report c.args.task.now c.args.proof.now.name.now c.args.nodes.now
    c.args.proof.now.budget (g.S.Shelf.held c.args.shelf.now) c.in-Err.fault answer.status
    answer.text
    (subst (λ n. IfSome (g.S.Shelf.held c.args.shelf.now)
    (λ (h : Names). IsNodesReadFrom standard n (bytes_of h c.args.nodes.now) (Err c.in-Err.fault)))
    c.atoms.ensures.atoms
    (subst (λ name. IfSome (g.S.Shelf.held c.args.shelf.now)
    (λ (h : Names). IsNodesReadFrom standard c.atoms.result (bytes_of h name) (Err c.in-Err.fault)))
    c.as_str.ensures c.in-Err.ensures.read))
    said.1 said.0.status_is said.0.text_is
