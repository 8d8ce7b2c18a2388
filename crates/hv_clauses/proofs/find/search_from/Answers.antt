use Rattle.std.proofs.Common.{◌≡◌, ℕ, Option, None, subst}
use Rattle.std.specs.Option.{MatchOption}
use Rattle.hv_propagation.specs.Trail.{Grows, Knowledge}
use Rattle.hv_propagation.proofs.Chasing.{grows_then}
use Rattle.hv_clauses.proofs.find.search_from.Goals as goal

none_of : (r : Option ℕ) (N : Type 0) (P : ℕ → Type 0) → MatchOption r N P → r ≡ None → N
none_of r N P found is = subst (λ o. MatchOption o N P) is found

pub returns-in_default-clause-met : goal.returns-in_default-clause-met
returns-in_default-clause-met g c = λ number less state size fits.
    none_of c.mark_base.result _ _ c.mark_base.ensures.begun c.in_default.is state size fits.applies
    fits.inside

pub returns-clause-grown : goal.returns-clause-grown
returns-clause-grown g c =
    grows_then _ _ _ c.mark_base.ensures.grown
    (subst (λ (k : Knowledge). Grows k c.search_on-met.new.marks) c.pays_to_list-pays.ensures
    c.search_on-met.ensures.grown)
