use Rattle.std.proofs.Common.{◌∙◌, ap, inr}
use Rattle.hv_task.specs.Strips.{Strips}
use Rattle.hv_task_text.specs.Canonical.{canonical_of}
use Rattle.hv_command.proofs.bounding.bound_reply.Goals as goal

pub returns-in_ok-answer-in-Ok-clause-answer : goal.returns-in_ok-answer-in-Ok-clause-answer
returns-in_ok-answer-in-Ok-clause-answer c =
    let reply = c.in_ok-answer-in-Ok.ensures in
    let said = c.in-Ok.ensures in
    inr (
      λ large. let both = said.large.1 large in absurd (cc),
      reply.status_is,
      reply.text_is ∙ ap (λ (task : Strips). canonical_of task) said.made,
    )
