use Rattle.std.proofs.Common.{◌≡◌, ◌∙◌, length, refl, subst}
use Rattle.hv_bytes.specs.FirstLine.{FitsLimits}
use Rattle.hv_bytes.specs.declared.cutting.Limits.{Limits}
use Rattle.hv_bytes.proofs.WholeText.{gave_more}
use Rattle.hv_text_tests.proofs.bytes.all_lines.Goals as goal

pub reading-preserved : goal.reading-preserved
reading-preserved g c =
    let fits = subst (λ (limits : Limits). FitsLimits limits.line limits.file
    c.reading.lines.earlier (length c.next.new.self.line)) c.reading.invariant.3
    (c.in_ok-next.ensures.fits (cc)) in (
      rw (c.in_ok-push_line-in-Line.ensures, c.line.ensures)
          (gave_more c.args.limits _ _ _ _ _ _ _ c.reading.invariant.0
          (c.in_ok-next.ensures.line (cc)) c.in_ok-next.ensures.earlier fits),
      c.in_ok-next.ensures.live.1 refl,
      c.in_ok-next.ensures.within,
      c.in_ok-next.ensures.limits ∙ c.reading.invariant.3,
    )
