use Rattle.std.proofs.Common.{◌∙◌, [], ap, arith, sym}
use Rattle.std.proofs.lemmas.List.{get_or_default}
use Rattle.hv_task.specs.State.{has_atom}
use Rattle.hv_explicit.proofs.atom_columns.is_flagged.Goals as goal

pub returns : goal.returns
returns c = λ yes. (
  c.args.number,
  omega arith,
  sym (c.index.ensures ∙ get_or_default c.args.columns.now.keys.items c.args.number
      c.index.result.now 0 (omega arith))
      ∙ c.if-index-atom.false,
  ap (λ s. has_atom s c.args.place) (sym (c.index-2.ensures
      ∙ get_or_default c.args.columns.now.flags.items c.args.number c.index-2.result.now []
      (omega arith)))
      ∙ (sym c.holds.ensures ∙ yes),
)
