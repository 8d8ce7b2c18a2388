use Rattle.std.proofs.Common.{◌<◌, Some, length, refl, subst, sym}
use Rattle.std.proofs.lemmas.List.{length-map}
use Rattle.hv_bdd.specs.Nodes.{in_node}
use Rattle.hv_bdd.specs.Paths.{path_cubes}
use Rattle.hv_formula.specs.Denial.{steps_of}
use Rattle.hv_sets.specs.Cost.{IsAnswer}
use Rattle.hv_mixed.specs.Inclusion.{difference}
use Rattle.hv_basic.specs.Working.Formulas.{IsFoundInclusion, formula_atoms, formula_has}
use Rattle.hv_basic.specs.Working.Formulas.{outside_count}
use Rattle.hv_basic.proofs.mixed.within_by_rest.Goals as goal

pub returns-in_ok-within_rest-in-Horn-clause-answer :
    goal.returns-in_ok-within_rest-in-Horn-clause-answer
returns-in_ok-within_rest-in-Horn-clause-answer c =
    subst (λ f. IsFoundInclusion c.args.budget (outside_count f) (formula_atoms c.args.left.now)
    (difference (formula_has c.args.left.now) (formula_has f))
    (Some c.in_ok-within_rest-in-Horn.field-0) c.within_rest.new.scratch.state) (sym c.in-Horn.is)
    (length (steps_of c.in-Horn.set.now), refl, c.in_ok-within_rest-in-Horn.ensures.answer)

pub returns-in_ok-within_rest-in-Dual-clause-answer :
    goal.returns-in_ok-within_rest-in-Dual-clause-answer
returns-in_ok-within_rest-in-Dual-clause-answer c =
    subst (λ f. IsFoundInclusion c.args.budget (outside_count f) (formula_atoms c.args.left.now)
    (difference (formula_has c.args.left.now) (formula_has f))
    (Some c.in_ok-within_rest-in-Dual.field-0) c.within_rest-in-Dual.new.scratch.state)
    (sym c.in-Dual.is)
    (length (steps_of c.in-Dual.set.now), refl, c.in_ok-within_rest-in-Dual.ensures.answer)

pub returns-in_ok-within_rest-in-Two-clause-answer :
    goal.returns-in_ok-within_rest-in-Two-clause-answer
returns-in_ok-within_rest-in-Two-clause-answer c =
    subst (λ f. IsFoundInclusion c.args.budget (outside_count f) (formula_atoms c.args.left.now)
    (difference (formula_has c.args.left.now) (formula_has f))
    (Some c.in_ok-within_rest-in-Two.field-0) c.within_rest-in-Two.new.scratch.state)
    (sym c.in-Two.is)
    (length (steps_of c.in-Two.set.now), refl, c.in_ok-within_rest-in-Two.ensures.answer)

pub returns-in_ok-within_rest-in-Node-clause-answer :
    goal.returns-in_ok-within_rest-in-Node-clause-answer
returns-in_ok-within_rest-in-Node-clause-answer c =
    subst (λ f. IsFoundInclusion c.args.budget (outside_count f) (formula_atoms c.args.left.now)
    (difference (formula_has c.args.left.now) (formula_has f))
    (Some c.in_ok-within_rest-in-Node.field-0) c.within_rest-in-Node.new.scratch.state)
    (sym c.in-Node.is) (
      length (path_cubes c.in-Node.set.nodes.now 0 c.in-Node.set.node),
      refl,
      subst (λ n. IsAnswer c.in_ok-within_rest-in-Node.field-0 (c.args.budget < n)
          (formula_atoms c.args.left.now)
          (difference (formula_has c.args.left.now)
          (in_node c.in-Node.set.nodes.now c.in-Node.set.node))
          c.within_rest-in-Node.new.scratch.state)
          (length-map (path_cubes c.in-Node.set.nodes.now 0 c.in-Node.set.node) (λ cube. Some cube))
          c.in_ok-within_rest-in-Node.ensures.answer,
    )
