use Rattle.std.proofs.Common.{◌∙◌, ◌∷◌, [], ap, arith, inl, inr, sym}
use Rattle.hv_sets.specs.Cubes.{opposite}
use Rattle.hv_sets.specs.declared.literal.Literal.{Literal}
use Rattle.hv_formula.specs.Working.Laws.{opposite_twice}
use Rattle.hv_basic.proofs.Literals.{only_first}
use Rattle.hv_basic.proofs.rights.put_opposite.Goals as goal

pub returns : goal.returns
returns c = λ literal has.
    elim (c.in_ok-put_literal.ensures literal has) [
      | inl was ↦ inl was
      | inr same ↦
          inr (only_first c.args.clause.now _ (omega (arith, c.if-clause-ne1.false))
          ∙ ap (λ (l : Literal). l ∷ []) (sym (opposite_twice _)
          ∙ ap opposite (sym c.opposite.ensures ∙ same)))
    ]
