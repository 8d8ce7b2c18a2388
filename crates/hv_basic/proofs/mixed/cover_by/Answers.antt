use Rattle.std.proofs.Common.{Some, ap, length, subst, sym}
use Rattle.std.proofs.lemmas.List.{length-map}
use Rattle.hv_formula.specs.Denial.{denial_step, steps_of}
use Rattle.hv_explicit.specs.ListedStates.{full_cube, full_cubes}
use Rattle.hv_mixed.specs.Inclusion.{difference}
use Rattle.hv_basic.specs.Working.Formulas.{IsFoundInclusion, cubes_to_cover, formula_atoms}
use Rattle.hv_basic.specs.Working.Formulas.{is_to_cover}
use Rattle.hv_basic.proofs.mixed.cover_by.Goals as goal

pub returns-in_ok-together-in-Horn-clause-answer :
    goal.returns-in_ok-together-in-Horn-clause-answer
returns-in_ok-together-in-Horn-clause-answer g c =
    subst (λ f. IsFoundInclusion c.args.budget (cubes_to_cover f) (formula_atoms f)
    (difference (is_to_cover f) (g.R.StateSet.has c.args.right.now))
    (Some c.in_ok-together-in-Horn.field-0) c.together.new.scratch.state) (sym c.in-Horn.is) (
      length (steps_of c.in-Horn.set.now),
      ap Some (sym (length-map c.in-Horn.set.now.clauses denial_step)),
      c.in_ok-together-in-Horn.ensures.answer,
    )

pub returns-in_ok-together-in-Dual-clause-answer :
    goal.returns-in_ok-together-in-Dual-clause-answer
returns-in_ok-together-in-Dual-clause-answer g c =
    subst (λ f. IsFoundInclusion c.args.budget (cubes_to_cover f) (formula_atoms f)
    (difference (is_to_cover f) (g.R.StateSet.has c.args.right.now))
    (Some c.in_ok-together-in-Dual.field-0) c.together-in-Dual.new.scratch.state)
    (sym c.in-Dual.is) (
      length (steps_of c.in-Dual.set.now),
      ap Some (sym (length-map c.in-Dual.set.now.clauses denial_step)),
      c.in_ok-together-in-Dual.ensures.answer,
    )

pub returns-in_ok-together-in-Two-clause-answer :
    goal.returns-in_ok-together-in-Two-clause-answer
returns-in_ok-together-in-Two-clause-answer g c =
    subst (λ f. IsFoundInclusion c.args.budget (cubes_to_cover f) (formula_atoms f)
    (difference (is_to_cover f) (g.R.StateSet.has c.args.right.now))
    (Some c.in_ok-together-in-Two.field-0) c.together-in-Two.new.scratch.state) (sym c.in-Two.is) (
      length (steps_of c.in-Two.set.now),
      ap Some (sym (length-map c.in-Two.set.now.clauses denial_step)),
      c.in_ok-together-in-Two.ensures.answer,
    )

pub returns-in_ok-within_states-in-States-clause-answer :
    goal.returns-in_ok-within_states-in-States-clause-answer
returns-in_ok-within_states-in-States-clause-answer g c =
    subst (λ f. IsFoundInclusion c.args.budget (cubes_to_cover f) (formula_atoms f)
    (difference (is_to_cover f) (g.R.StateSet.has c.args.right.now))
    (Some c.in_ok-within_states-in-States.field-0) c.within_states.new.scratch.state)
    (sym c.in-States.is) (
      length (full_cubes c.in-States.set.now),
      ap Some (sym (length-map c.in-States.set.now.states
          (λ held. full_cube c.in-States.set.now.atoms held))),
      c.in_ok-within_states-in-States.ensures.answer,
    )
