use Rattle.std.proofs.Common.{◌++◌, ap, ◌∙◌}
use Rattle.std.specs.Fmt.{decimal}
use Rattle.std.specs.List.{flat_map}
use Rattle.hv_task_text.specs.Canonical.{with_lf}
use Rattle.hv_task_text.proofs.write.write_set.Goals as goal

pub returns-clause-text : goal.returns-clause-text
returns-clause-text c =
    c.in_ok-write_line-2.ensures ∙ ap (λ text. text ++ with_lf c.args.last.now)
    (c.in_ok-write_atoms.ensures.text
    ∙ ap (λ text. text ++ flat_map (λ n. with_lf (decimal n)) c.args.set.now)
    c.in_ok-write_line.ensures)
