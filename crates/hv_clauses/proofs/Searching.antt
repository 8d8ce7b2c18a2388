-- Why a choice of clauses that can be broken gives a counterexample to a query, and each
-- counterexample such a choice.
use Rattle.std.proofs.Common.{◌≡◌, ℕ, ◌<◌, ◌∙◌, ◌&&◌, Bool, true, false, not, List, [], ◌∷◌, Option}
use Rattle.std.proofs.Common.{Some, None, length, get_or, refl, sym, ap, ap₂, arith}
use Rattle.std.proofs.lemmas.List.Sums.{AllPass-from_list_all}
use Rattle.std.specs.List.{list_all}
use Rattle.hv_task.specs.declared.action.Action.{Action}
use Rattle.hv_sets.specs.declared.operand.Operand.{Operand}
use Rattle.hv_sets.specs.Query.{action_of, asked, in_operand, in_which, is_clash}
use Rattle.hv_clauses.specs.Store.{tests_of}
use Rattle.hv_propagation.specs.Effect.{late}
use Rattle.hv_clauses.specs.Working.Found.{IsFound, IsMetBelow}
use Rattle.hv_propagation.specs.Marks.{over}
use Rattle.hv_clauses.specs.Working.Posed.{IsPosed, ProblemState, choices, formulas, sizes, width}
use Rattle.hv_clauses.specs.Working.Problem.{FitsChoice}
use Rattle.std.proofs.lemmas.Bool.{and_from, and_parts}
use Rattle.hv_clauses.proofs.Choosing.{choose, chosen, some_from_choices}
use Rattle.hv_propagation.proofs.Effects.{list_all_from}
use Rattle.hv_propagation.proofs.Marked.{over-nil}

-- a test that is one with another at each element
all_same : {X : Type 0} (p q : X → Bool) (xs : List X) → ((x : X) → p x ≡ q x)
    → list_all p xs ≡ list_all q xs
all_same p q [] same = refl
all_same p q (x ∷ xs) same = ap₂ (λ a b. a && b) (same x) (all_same p q xs same)

module _ (p : ProblemState) (posed : IsPosed p) where
  -- a state seen through the effect is the one that the operand is asked about
  seen_is : (state : List Bool) → length state ≡ width p → (after : Bool)
      → over (late p.effect after) state ≡ asked (action_of p.task p.query.action) after state
  seen_is state size true = posed.does state (size ∙ sym posed.wide)
  seen_is state size false = over-nil state ∙ sym (before (action_of p.task p.query.action))
    where
      before : (action : Option Action) → asked action false state ≡ state
      before None = refl
      before (Some action) = refl

  in_same : (state : List Bool) → length state ≡ width p → (o : Operand)
      → in_operand p.task (tests_of (formulas p)) (action_of p.task p.query.action) state o
      ≡ in_which p.task (tests_of (formulas p)) o.which (over (late p.effect o.after) state)
  in_same state size o = ap (λ s. in_which p.task (tests_of (formulas p)) o.which s)
      (sym (seen_is state size o.after))

  out_same : (state : List Bool) → length state ≡ width p
      → list_all (λ o. not (in_operand p.task (tests_of (formulas p))
      (action_of p.task p.query.action) state o)) p.query.negative
      ≡ list_all (λ o. not (in_which p.task (tests_of (formulas p)) o.which
      (over (late p.effect o.after) state))) p.query.negative
  out_same state size =
      all_same (λ o. not (in_operand p.task (tests_of (formulas p))
      (action_of p.task p.query.action) state o))
      (λ o. not (in_which p.task (tests_of (formulas p)) o.which
      (over (late p.effect o.after) state))) p.query.negative (λ o. ap not (in_same state size o))

  pub clash_from_fits : (number : ℕ) (state : List Bool) → length state ≡ width p
      → number < choices p → FitsChoice p number state
      → is_clash p.task (tests_of (formulas p)) p.query state ≡ true
  clash_from_fits number state size less fits =
      and_from _ _ fits.applies
      (and_from _ _
      (list_all_from (λ o. in_operand p.task (tests_of (formulas p))
      (action_of p.task p.query.action) state o) p.query.positive
      (λ k d within. in_same state size (get_or p.query.positive k d) ∙ fits.inside k d within))
      (out_same state size ∙ chosen p.task (formulas p) p.effect p.query.negative number state size
      (some_from_choices p.task (sizes p) p.query.negative (omega arith)) fits.outside))

  pub fits_from_clash : (state : List Bool) → length state ≡ width p
      → is_clash p.task (tests_of (formulas p)) p.query state ≡ true
      → (number : ℕ) × (number < choices p) × FitsChoice p number state
  fits_from_clash state size clash =
      let first = and_parts _ _ clash in
      let second = and_parts _ _ first.1 in
      let found = choose p.task (formulas p) p.effect p.query.negative state size
      (sym (out_same state size) ∙ second.1) in (
        found.0,
        found.1,
        record {
          applies = first.0;
          inside = λ k d within. sym (in_same state size (get_or p.query.positive k d))
              ∙ AllPass-from_list_all (λ o. in_operand p.task (tests_of (formulas p))
              (action_of p.task p.query.action) state o) p.query.positive second.0 k d within;
          outside = found.2;
        },
      )

  -- what a search through all choices finds is what the query asks for
  pub found_from_met : (result : Bool) (found : List Bool)
      → IsMetBelow result (choices p) (width p) (FitsChoice p) found
      → IsFound result (width p) (is_clash p.task (tests_of (formulas p)) p.query) found
  found_from_met true found met = (met.2, clash_from_fits met.0 found met.2 met.1 met.3)
  found_from_met false found none = λ state size. no_clash state size
      (is_clash p.task (tests_of (formulas p)) p.query state) refl
    where
      no_clash : (state : List Bool) → length state ≡ width p → (b : Bool)
          → is_clash p.task (tests_of (formulas p)) p.query state ≡ b
          → is_clash p.task (tests_of (formulas p)) p.query state ≡ false
      no_clash state size false e = e
      no_clash state size true e =
          let fits = fits_from_clash state size e in
          absurd (none fits.0 fits.1 state size fits.2)
