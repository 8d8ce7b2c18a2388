-- Why the search may start at what follows from one positive operand.
use Rattle.std.proofs.Common.{◌≡◌, ◌∙◌, ℕ, Bool, true, List, Some, sym, ap, subst}
use Rattle.std.proofs.lemmas.List.Elements.{All-contains}
use Rattle.std.specs.List.{Contains}
use Rattle.hv_sets.specs.declared.literal.Literal.{Literal}
use Rattle.hv_sets.specs.declared.operand.Operand.{Operand}
use Rattle.hv_sets.specs.declared.operand.Which.TheVariants as W
use Rattle.hv_sets.specs.Query.{in_which}
use Rattle.hv_sets.specs.Truth.{in_clauses}
use Rattle.hv_clauses.specs.Working.Posed.{InEach, ProblemState, formulas, width}
use Rattle.hv_propagation.specs.Roots.{AreSettledBut, untouched}
use Rattle.hv_clauses.specs.Store.{tests_of}
use Rattle.hv_propagation.specs.Effect.{late}
use Rattle.hv_propagation.specs.Forced.{AreForced}
use Rattle.hv_propagation.specs.Marks.{over}
use Rattle.hv_clauses.specs.Working.Start.{IsStart}
use Rattle.hv_propagation.specs.Trail.{marked}
use Rattle.hv_propagation.proofs.Marked.{length-over}
use Rattle.hv_propagation.proofs.Untouched.{agrees_beside, settled_but}

module _ (p : ProblemState) (operand : Operand) (number : ℕ)
    (among : Contains p.query.positive operand) (is : operand.which ≡ W.Set number) where
  -- a state that is in each positive operand is in this one
  pub inside_after : (state : List Bool) → InEach p state
      → in_clauses (formulas p number) (over (late p.effect operand.after) state) ≡ true
  inside_after state inside =
      sym (ap (λ w. in_which p.task (tests_of (formulas p)) w
      (over (late p.effect operand.after) state)) is)
      ∙ All-contains (λ (o : Operand). in_which p.task (tests_of (formulas p)) o.which
      (over (late p.effect o.after) state) ≡ true) p.query.positive operand inside among

  pub start_of_forced : (literals roots : List Literal) (seen : List ℕ)
      → roots ≡ untouched seen literals → seen ≡ late p.effect operand.after
      → AreForced (width p) (formulas p number) literals
      → IsStart p (record { operand = Some operand; roots = roots })
  start_of_forced literals roots seen base_is seen_is forced =
      let e = late p.effect operand.after in
      let at : roots ≡ untouched e literals = base_is ∙ ap (λ x. untouched x literals) seen_is in
      subst (λ b. IsStart p (record { operand = Some operand; roots = b })) (sym at)
      (record {
        rooted = λ n same.
            let equal : W.Set number ≡ W.Set n = sym is ∙ same in
            let here : number ≡ n = cc in
            subst (λ k. AreSettledBut e (formulas p k) (marked (width p) (untouched e literals)))
            here (settled_but e (width p) literals (formulas p number) forced.settled);
        follows = λ state size inside. agrees_beside e (width p) literals state
            (forced.follows (over e state) (length-over e state ∙ size)
            (inside_after state inside));
      })
