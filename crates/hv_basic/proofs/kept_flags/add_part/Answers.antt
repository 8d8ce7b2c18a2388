use Rattle.std.proofs.Common.{◌∙◌, Some, ap, refl, sym}
use Rattle.hv_lines.specs.declared.line.Acts.TheVariants as A
use Rattle.hv_basic.proofs.Flagging.{flagged_with}
use Rattle.hv_basic.proofs.kept_flags.add_part.Goals as goal

pub returns-in-List : goal.returns-in-List
returns-in-List c = λ _.
    flagged_with c.args.table.now.lines c.args.flagged.now
    (record { acts = c.args.acts; flags = c.set_listed.new.flags }) c.args.acts c.args.part
    c.as_slice.result.now c.requires.acts c.requires.flagged c.requires.part
    (c.acts.ensures.says
    ∙ (ap Some c.in-List.is ∙ ap (λ xs. Some (A.List xs)) (sym c.as_slice.ensures))) refl
    c.set_listed.ensures.length c.set_listed.ensures.set
