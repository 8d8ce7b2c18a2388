use Rattle.std.proofs.Common.{Err, ap, arith, codes, subst, sym}
use Rattle.hv_bytes.specs.Files.{held_of}
use Rattle.hv_bytes.specs.Standard.{standard}
use Rattle.hv_lines.specs.Drafts.{draft_setting}
use Rattle.hv_lines.specs.Judged.{JudgedBytes, Unsolvable}
use Rattle.hv_command.proofs.Checked.{held_bytes}
use Rattle.hv_command.proofs.sampling.judged_bytes.Goals as goal

pub judged_file-requires : goal.judged_file-requires
judged_file-requires c =
    subst (λ t. JudgedBytes (draft_setting c.args.task.now) standard t Unsolvable)
    (sym (held_bytes (held_of c.add.new.self.files) (codes "proof") c.args.proof.now
    c.in_ok-add.ensures.named))
    c.requires

pub unreachable-requires : goal.unreachable-requires
unreachable-requires c = let bad = c.in-Err-ReadFault.ensures.cause
    (ap (λ f. Err f) c.in-Err-ReadFault.field-0-is) in absurd (omega (arith, bad))
