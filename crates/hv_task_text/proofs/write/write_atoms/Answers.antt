use Rattle.std.proofs.Common.{◌++◌, ap, ◌∙◌}
use Rattle.std.specs.Fmt.{decimal}
use Rattle.hv_task_text.specs.Canonical.{with_lf}
use Rattle.hv_task_text.proofs.Appended.{written_more}
use Rattle.hv_task_text.proofs.write.write_atoms.Goals as goal

pub loop-place-preserved : goal.loop-place-preserved
loop-place-preserved c =
    written_more (λ n. with_lf (c.args.word.now ++ decimal n)) c.args.text.now c.loop-place.text
    c.write_number.new.text c.args.atoms.now c.loop-place.place c.get.result c.get.ensures
    c.loop-place.invariant
    (c.in_ok-write_number.ensures ∙ ap (λ n. c.loop-place.text
    ++ with_lf (c.args.word.now ++ decimal n)) c.from.ensures)
