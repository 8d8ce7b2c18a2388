use Rattle.std.proofs.Common.{◌∙◌, arith}
use Rattle.hv_sas.proofs.Atoms.{range_within}
use Rattle.hv_sas.proofs.forms.is_marked.Goals as goal

pub has-requires : goal.has-requires
has-requires c =
    let within = range_within c.args.variables.now c.args.effect.var c.args.effect.after
    c.requires.effect.after in
    let size = c.requires.marked.count in omega arith

pub returns : goal.returns
returns c =
    let within = range_within c.args.variables.now c.args.effect.var c.args.effect.after
    c.requires.effect.after in
    let size = c.requires.marked.count in
    c.has.ensures ∙ c.requires.marked.each c.args.effect.var (omega arith)
