use Rattle.std.proofs.Common.{◌∙◌, subst, sym}
use Rattle.hv_bytes.specs.Standard.{standard}
use Rattle.hv_lines.specs.Drafts.{draft_setting}
use Rattle.hv_lines.specs.Judged.{JudgedBytes, Unsolvable}
use Rattle.hv_command.proofs.Checked.{horn_judged}
use Rattle.hv_command.proofs.sampling.judged.Goals as goal

pub judged_bytes-requires : goal.judged_bytes-requires
judged_bytes-requires c =
    subst (λ t. JudgedBytes (draft_setting c.args.task.now) standard t Unsolvable)
    (sym (c.as_bytes.ensures ∙ c.in_ok-proof.ensures.text_is))
    (horn_judged c.args.task.now c.args.draft.now.lines c.requires.horn c.requires.good
    c.requires.concludes)
