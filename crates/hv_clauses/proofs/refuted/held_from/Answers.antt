use Rattle.std.proofs.Common.{◌≡◌, ℕ, ◌<◌, ◌≤◌, ◌+◌, ◌-◌, ◌∙◌, Bool, true, false, not}
use Rattle.std.proofs.Common.{length, sym, ap, arith, refl, subst}
use Rattle.hv_sets.specs.Names.{AsksAbout}
use Rattle.hv_sets.specs.Truth.{in_clause}
use Rattle.hv_sets.specs.declared.operand.Which.{Which}
use Rattle.hv_sets.specs.declared.operand.Which.TheVariants as W
use Rattle.hv_indexes.specs.Places.{clause_at}
use Rattle.hv_propagation.specs.Marks.{over}
use Rattle.hv_clauses.specs.Working.Affected.{IsTurnedBy, turning_sign}
use Rattle.hv_clauses.specs.Working.Operands.{clauses_in}
use Rattle.hv_propagation.specs.Effect.{late}
use Rattle.hv_indexes.specs.Occurrences.{IsIndexOf}
use Rattle.hv_clauses.specs.Working.Posed.{ProblemState, formulas, size_in}
use Rattle.hv_clauses.proofs.AffectedChoices.{all_held}
use Rattle.hv_clauses.proofs.Deciding.{set_within}
use Rattle.hv_clauses.proofs.RefutedChoices.{framed_true}
use Rattle.hv_clauses.proofs.refuted.held_from.Goals as goal

pub set-set-requires : goal.set-set-requires
set-set-requires g c =
    set_within c.args.problem.now c.args.operand.which _ c.args.place c.in-Set.is c.requires

-- the clause is one of the set
module _ (p : ProblemState) (which : Which) (number place : ℕ) (is : which ≡ W.Set number)
    (less : place < size_in p which) where
  place_in : place < length (formulas p number)
  place_in = subst (λ w. place < size_in p w) is less

  within_from : (end : ℕ) → place ≤ end → end ≤ length (formulas p number)
      → place + (end - place) ≤ size_in p which
  within_from end ahead upto = subst (λ w. place + (end - place) ≤ size_in p w) (sym is)
      (omega arith)

pub next_turned-low-requires-clause-index : goal.next_turned-low-requires-clause-index
next_turned-low-requires-clause-index g c =
    (c.set-set.result.now.clauses, c.occurs-occurs.ensures)

pub next_turned-low-requires-clause-from : goal.next_turned-low-requires-clause-from
next_turned-low-requires-clause-from g c =
    let less = place_in c.args.problem.now c.args.operand.which c.in-Set.number c.args.place
    c.in-Set.is c.requires in
    let size = ap length (c.clauses.ensures.clauses ∙ c.set-set.ensures.clauses) in
    let count = c.len-count.ensures in
    omega arith

pub next_turned-next-requires-clause-index : goal.next_turned-next-requires-clause-index
next_turned-next-requires-clause-index g c =
    (c.set-set.result.now.clauses, c.occurs-occurs.ensures)

pub returns-clause-within : goal.returns-clause-within
returns-clause-within g c =
    let size = ap length (c.clauses.ensures.clauses ∙ c.set-set.ensures.clauses) in
    let count = c.len-count.ensures in
    let first = c.next_turned-low.ensures.end in
    let second = c.next_turned-next.ensures.end in
    within_from c.args.problem.now c.args.operand.which c.in-Set.number c.args.place
    c.in-Set.is c.requires c.next_turned-next.result c.next_turned-next.ensures.from (omega arith)

pub returns-clause-held : goal.returns-clause-held
returns-clause-held g c = λ digit ahead early state inside misses.
    let p = c.args.problem.now in
    let after = c.args.operand.after in
    let clauses = formulas p c.in-Set.number in
    let index : IsIndexOf clauses c.occurs-occurs.result.now =
    subst (λ cs. IsIndexOf cs c.occurs-occurs.result.now) c.set-set.ensures.clauses
    c.occurs-occurs.ensures in
    let size : length c.clauses.result.now ≡ length clauses =
    ap length (c.clauses.ensures.clauses ∙ c.set-set.ensures.clauses) in
    let first = c.next_turned-low.ensures in
    let second = c.next_turned-next.ensures in
    let count = c.len-count.ensures in
    let less : digit < length clauses = omega (arith, early, size, count, first.end, second.end) in
    let apart : (v : Bool) → IsTurnedBy p.effect v (turning_sign after v) clauses digit → ⊥ =
    λ v. elim v as (λ k. IsTurnedBy p.effect k (turning_sign after k) clauses digit → ⊥) [
      | true ↦ λ turned. second.apart clauses index digit ahead (omega (arith, early))
          (subst (λ e. IsTurnedBy e true (turning_sign after true) clauses digit)
          (sym c.effect-effect.ensures) turned)
      | false ↦ λ turned. first.apart clauses index digit ahead (omega (arith, early, second.end))
          (subst (λ e. IsTurnedBy e false (turning_sign after false) clauses digit)
          (sym c.effect-effect.ensures) turned)
    ] in
    framed_true p.task (formulas p) p.effect p.query.positive c.in-Set.number after digit state less
    (subst (λ w. AsksAbout p.query.positive w (not after)) c.in-Set.is
    (c.if-not-names.ensures.0 refl))
    (all_held p.effect after clauses digit less apart) inside
    (subst (λ w. in_clause (clause_at (clauses_in p.task (formulas p) w) digit)
    (over (late p.effect after) state) ≡ false) c.in-Set.is misses)
