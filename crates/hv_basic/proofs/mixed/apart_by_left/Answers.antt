use Rattle.std.proofs.Common.{Some, length, refl, subst, sym}
use Rattle.hv_bdd.specs.Paths.{path_cubes}
use Rattle.hv_explicit.specs.ListedStates.{full_cubes}
use Rattle.hv_mixed.specs.Inclusion.{complement, difference}
use Rattle.hv_basic.specs.Working.Formulas.{IsFoundInclusion, formula_atoms, formula_has}
use Rattle.hv_basic.specs.Working.Formulas.{inside_count}
use Rattle.hv_basic.proofs.mixed.apart_by_left.Goals as goal

pub returns-in_ok-apart_walk-in-States-clause-answer :
    goal.returns-in_ok-apart_walk-in-States-clause-answer
returns-in_ok-apart_walk-in-States-clause-answer c =
    subst (λ f. IsFoundInclusion c.args.budget (inside_count f) (formula_atoms f)
    (difference (formula_has f) (complement (formula_has c.args.right.now)))
    (Some c.in_ok-apart_walk-in-States.field-0) c.apart_walk.new.scratch.state) (sym c.in-States.is)
    (length (full_cubes c.in-States.set.now), refl, c.in_ok-apart_walk-in-States.ensures.answer)

pub returns-in_ok-apart_walk-in-Node-clause-answer :
    goal.returns-in_ok-apart_walk-in-Node-clause-answer
returns-in_ok-apart_walk-in-Node-clause-answer c =
    subst (λ f. IsFoundInclusion c.args.budget (inside_count f) (formula_atoms f)
    (difference (formula_has f) (complement (formula_has c.args.right.now)))
    (Some c.in_ok-apart_walk-in-Node.field-0) c.apart_walk-in-Node.new.scratch.state)
    (sym c.in-Node.is) (
      length (path_cubes c.in-Node.set.nodes.now 1 c.in-Node.set.node),
      refl,
      c.in_ok-apart_walk-in-Node.ensures.answer,
    )
