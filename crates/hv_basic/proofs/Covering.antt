-- What is found where it is asked whether a formula has the states that another one lists.
use Rattle.std.proofs.Common.{◌≡◌, ℕ, Bool, List, Option, None, Some, ap, refl, subst}
use Rattle.hv_sets.specs.declared.finding.Finding.{Finding}
use Rattle.hv_mixed.specs.Inclusion.{difference}
use Rattle.hv_lines.specs.Mixed.{count_unless, listed_count}
use Rattle.hv_basic.specs.Working.Formulas.{AreApart, IsFoundInclusion, cubes_to_cover, expr_of}
use Rattle.hv_basic.specs.Working.Formulas.{formula_atoms, formula_has, is_to_cover}
use Rattle.hv_basic.specs.Working.Formulas.{within_cost}
use Rattle.hv_basic.specs.declared.any_formula.AnyFormula.{AnyFormula}
use Rattle.hv_basic.specs.declared.any_formula.AnyFormula.TheVariants as M

-- beside a set of listed states, what is of another family lists none
not_listed : (left right : AnyFormula) (n : ℕ) → listed_count (expr_of left) ≡ Some n
    → AreApart left right → listed_count (expr_of right) ≡ None
not_listed (M.Horn set) right n is apart = absurd (cc (is))
not_listed (M.Dual set) right n is apart = absurd (cc (is))
not_listed (M.Two set) right n is apart = absurd (cc (is))
not_listed (M.Node set) right n is apart = absurd (cc (is))
not_listed (M.States set) (M.Horn other) n is apart = refl
not_listed (M.States set) (M.Dual other) n is apart = refl
not_listed (M.States set) (M.Two other) n is apart = refl
not_listed (M.States set) (M.States other) n is apart = absurd (apart refl)
not_listed (M.States set) (M.Node other) n is apart = refl

module _ (budget : ℕ) (left right : AnyFormula) (found : Option Finding) (state : List Bool) where
  -- what is found of the cubes of the left formula
  abbrev pub IsCovering : AnyFormula → AnyFormula → Type 0
  IsCovering x y = IsFoundInclusion budget
      (count_unless (listed_count (expr_of y)) (cubes_to_cover x)) (formula_atoms x)
      (difference (is_to_cover x) (formula_has y)) found state

  -- the states of a listed set
  listed_as : (x : AnyFormula) (n : ℕ) → listed_count (expr_of x) ≡ Some n
      → listed_count (expr_of right) ≡ None → IsCovering x right
      → IsFoundInclusion budget (within_cost x right) (formula_atoms x)
      (difference (formula_has x) (formula_has right)) found state
  listed_as (M.Horn set) n is none given = absurd (cc (is))
  listed_as (M.Dual set) n is none given = absurd (cc (is))
  listed_as (M.Two set) n is none given = absurd (cc (is))
  listed_as (M.Node set) n is none given = absurd (cc (is))
  listed_as (M.States set) n is none given =
      subst (λ cost. IsFoundInclusion budget cost (formula_atoms (M.States set))
      (difference (formula_has (M.States set)) (formula_has right)) found state)
      (ap (λ listed. count_unless listed (cubes_to_cover (M.States set))) none) given

  pub listed_within : (n : ℕ) → listed_count (expr_of left) ≡ Some n → AreApart left right
      → IsCovering left right
      → IsFoundInclusion budget (within_cost left right) (formula_atoms left)
      (difference (formula_has left) (formula_has right)) found state
  listed_within n is apart given =
      listed_as left n is (not_listed left right n is apart) given
