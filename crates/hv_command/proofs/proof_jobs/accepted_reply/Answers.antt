use Rattle.std.proofs.Common.{◌∙◌, List, ap, reverse, sym, subst}
use Rattle.hv_explain.specs.Explained.{IsExplanation}
use Rattle.hv_lines.specs.Judged.{Unsolvable}
use Rattle.hv_lines.specs.declared.line.Line.{Line}
use Rattle.hv_proof_text.specs.Closed.{closed_text}
use Rattle.hv_command.specs.Answer.{IsTold}
use Rattle.hv_command.specs.declared.job.Report.{Report}
use Rattle.hv_command.proofs.Checked.{all_accepted}
use Rattle.hv_command.proofs.proof_jobs.accepted_reply.Goals as goal

pub returns-in_ok-text-in-Explanation-clause-text :
    goal.returns-in_ok-text-in-Explanation-clause-text
returns-in_ok-text-in-Explanation-clause-text c = λ pieces stands.
    let checker = c.args.checker.now in
    let text = c.in_ok-text-in-Explanation.text in
    subst (λ (r : Report). IsTold checker.setting pieces Unsolvable r text)
    (sym c.in-Explanation.is) (
      checker.lines,
      all_accepted checker checker.stop pieces c.requires.accepted c.requires.found stands,
      subst (λ (ls : List Line). IsExplanation ls text) c.table.ensures.lines
          c.in_ok-text-in-Explanation.ensures,
    )

pub returns-in_ok-answer-in-Renewal-clause-text : goal.returns-in_ok-answer-in-Renewal-clause-text
returns-in_ok-answer-in-Renewal-clause-text c = λ pieces stands.
    let checker = c.args.checker.now in
    let answer = c.in_ok-answer-in-Renewal.answer in
    subst (λ (r : Report). IsTold checker.setting pieces Unsolvable r answer.text)
    (sym c.in-Renewal.is) (
      checker.lines,
      all_accepted checker checker.stop pieces c.requires.accepted c.requires.found stands,
      c.in_ok-answer-in-Renewal.ensures.text_is
          ∙ ap (λ ls. closed_text (reverse ls)) c.table-in-Renewal.ensures.lines,
    )
