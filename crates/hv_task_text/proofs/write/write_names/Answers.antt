use Rattle.std.proofs.Common.{◌++◌, ap, ◌∙◌, arith}
use Rattle.std.specs.Fmt.{decimal}
use Rattle.std.specs.Prelude.{codes}
use Rattle.hv_task_text.specs.Canonical.{with_lf}
use Rattle.hv_task_text.proofs.Appended.{names_written, written_more}
use Rattle.hv_task_text.proofs.write.write_names.Goals as goal

pub loop-atom-preserved : goal.loop-atom-preserved
loop-atom-preserved c =
    written_more with_lf c.write_number.new.text c.loop-atom.text c.write_line.new.text
    c.args.task.now.names c.loop-atom.atom c.atom_name.result.now c.atom_name.ensures
    c.loop-atom.invariant
    (c.in_ok-write_line.ensures ∙ ap (λ n. c.loop-atom.text ++ with_lf n) c.as_bytes.ensures)

pub returns : goal.returns
returns c =
    names_written c.args.text.now c.write_number.new.text c.loop-atom.text c.args.task.now.names
    c.loop-atom.atom
    (c.in_ok-write_number.ensures ∙ ap (λ n. c.args.text.now
    ++ with_lf (codes "begin_atoms:" ++ decimal n)) (c.from.ensures ∙ c.atoms.ensures.atoms))
    (omega (arith, c.atoms-atom-end.ensures.atoms))
    c.loop-atom.invariant
