-- The formulas of a store, by number.
use Rattle.std.proofs.Common.{◌≡◌, ◌<◌, ℕ, List, length, get_or, Some, slice_get, [], subst, sym}
use Rattle.std.specs.List.{All}
use Rattle.std.proofs.lemmas.Option.{slice_get-get_or}
use Rattle.hv_sets.specs.declared.literal.Literal.{Literal}
use Rattle.hv_propagation.specs.Clauses.{AreClauses}
use Rattle.hv_formula.specs.Clausal.{FormulaState}
use Rattle.hv_formula.specs.Working.Kinded.{IsKinded}
use Rattle.hv_clauses.specs.Store.{AreOver, clauses_found, formula_at}

module _ (IsOf : List Literal → Type 0) (formulas : List FormulaState)
    (kept : All (IsKinded IsOf) formulas) (number : ℕ) (within : number < length formulas) where
  found : (default : FormulaState) → slice_get formulas number ≡ Some (get_or formulas number
      default)
  found default = slice_get-get_or formulas number default within

  none : FormulaState
  none = record { atoms = 0; clauses = [] }

  pub stored_kind : All IsOf (formula_at formulas number)
  stored_kind =
      subst (λ o. All IsOf (clauses_found o)) (sym (found none)) (kept number none within).of_kind

  pub stored_below : (atoms : ℕ) → AreOver formulas atoms
      → AreClauses atoms (formula_at formulas number)
  stored_below atoms over =
      subst (λ o. AreClauses atoms (clauses_found o)) (sym (found none))
      (subst (λ n. AreClauses n (get_or formulas number none).clauses) (over number none within)
      (kept number none within).below)
