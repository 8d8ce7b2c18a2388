-- Why the marks of a choice tell whether a state fits it.
use Rattle.std.proofs.Common.{◌≡◌, ℕ, ◌<◌, ◌%◌, ◌∙◌, Bool, true, false, List, ◌++◌, length, get_or}
use Rattle.std.proofs.Common.{inl, inr, refl, sym, ap, arith, subst}
use Rattle.std.proofs.lemmas.Bool.{cases_lt}
use Rattle.std.proofs.lemmas.List.Elements.{All-contains, Contains-append_left}
use Rattle.std.proofs.lemmas.List.Elements.{Contains-append_right, Contains-get_or}
use Rattle.std.proofs.lemmas.Nat.{mod_below}
use Rattle.std.proofs.lemmas.Option.{slice_get_past}
use Rattle.std.specs.List.{All}
use Rattle.hv_sets.specs.declared.literal.Literal.{Literal}
use Rattle.hv_sets.specs.declared.operand.Operand.{Operand}
use Rattle.hv_sets.specs.declared.operand.Which.{Which}
use Rattle.hv_sets.specs.declared.operand.Which.TheVariants as W
use Rattle.hv_sets.specs.Query.{IsNamed}
use Rattle.hv_clauses.specs.Store.{clauses_found}
use Rattle.hv_propagation.specs.declared.completion.Completion.{Completion}
use Rattle.hv_formula.specs.Kinded.{CompletesClauses, IsShort}
use Rattle.hv_propagation.specs.Completion.{Completes, IsCompleted}
use Rattle.hv_clauses.specs.Working.Found.{AreRoots, IsMet}
use Rattle.hv_propagation.specs.Marks.{Agrees}
use Rattle.hv_formula.specs.Working.Kinded.{IsKinded}
use Rattle.hv_clauses.specs.Working.Posed.{InEach, IsPosed, ProblemState, choices, formulas}
use Rattle.hv_clauses.specs.Working.Posed.{size_in, sizes, width}
use Rattle.hv_clauses.specs.Working.Problem.{AreEachSettled, AreMissed, FitsChoice, MissesAll}
use Rattle.hv_propagation.specs.Units.{IsConcluded}
use Rattle.hv_clauses.proofs.Choosing.{breaks_known, chosen_false_extends, some_from_choices}
use Rattle.hv_clauses.proofs.KindedOperands.{operands_complete}
use Rattle.hv_propagation.proofs.Marked.{agrees_extends, extends_then}
use Rattle.hv_clauses.proofs.OperandClauses.{clauses_in_is}
use Rattle.hv_clauses.proofs.Stored.{stored_below, stored_kind}

-- the sets that one of two lists names are those that both name
pub named_first : (count : ℕ) (xs ys zs : List Operand) → zs ≡ xs
    → All (λ o. IsNamed count o.which) (xs ++ ys) → All (λ o. IsNamed count o.which) zs
named_first count xs ys zs e all =
    subst (λ os. All (λ o. IsNamed count o.which) os) (sym e)
    (λ k d within. All-contains (λ o. IsNamed count o.which) (xs ++ ys) (get_or xs k d) all
    (Contains-append_left xs ys (get_or xs k d) (Contains-get_or xs k d within)))

pub named_second : (count : ℕ) (xs ys zs : List Operand) → zs ≡ ys
    → All (λ o. IsNamed count o.which) (xs ++ ys) → All (λ o. IsNamed count o.which) zs
named_second count xs ys zs e all =
    subst (λ os. All (λ o. IsNamed count o.which) os) (sym e)
    (λ k d within. All-contains (λ o. IsNamed count o.which) (xs ++ ys) (get_or ys k d) all
    (Contains-append_right xs ys (get_or ys k d) (Contains-get_or ys k d within)))

-- what has clauses is named by the store
pub named_some : (p : ProblemState) (which : Which) → 0 < size_in p which
    → IsNamed (length p.store) which
named_some p W.Empty some = tt
named_some p W.Start some = tt
named_some p W.Goal some = tt
named_some p (W.Set number) some =
    elim (cases_lt number (length p.store)) [
      | inl within ↦ within
      | inr past ↦
          let none : length (formulas p number) ≡ 0 =
          ap (λ o. length (clauses_found o)) (slice_get_past p.store number past) in
          absurd (omega arith)
    ]

-- so is a set of which a clause is named
pub set_within : (p : ProblemState) (which : Which) (number place : ℕ) → which ≡ W.Set number
    → place < size_in p which → number < length p.store
set_within p which number place is less =
    subst (λ w. IsNamed (length p.store) w) is (named_some p which (omega arith))

-- a digit is below its base
pub digit_below : (rest count size : ℕ) → count ≡ size → 0 < size → rest % count < size
digit_below rest count size is some =
    subst (λ n. rest % n < size) (sym is) (mod_below rest size some)

-- where there are choices, each negative operand has clauses
pub some_here : (p : ProblemState) (number : ℕ) → number < choices p → (os : List Operand)
    → os ≡ p.query.negative → (place : ℕ) (d : Operand) → place < length os
    → 0 < size_in p (get_or os place d).which
some_here p number less os is place d within =
    subst (λ xs. All (λ o. 0 < size_in p o.which) xs) (sym is)
    (some_from_choices p.task (sizes p) p.query.negative (omega arith)) place d within

module _ (p : ProblemState) where
  module _ (number : ℕ) (roots m1 : List ℕ) (is : AreRoots p roots) (wide : length roots ≡ width p)
    where
      agrees_base : (state : List Bool) → length state ≡ width p → FitsChoice p number state
          → Agrees roots state
      agrees_base state size fits = is.follows state (size ∙ sym wide) fits.applies fits.inside

      pub not_denied : (found : List Bool)
          → IsConcluded (MissesAll p number) (AreMissed p number) roots m1 false
          → IsMet false (width p) (FitsChoice p number) found
      not_denied found denied = λ state size fits.
          denied.broken refl state (size ∙ sym wide) fits.outside (agrees_base state size fits)

      module _ (denied : IsConcluded (MissesAll p number) (AreMissed p number) roots m1 true)
          (m2 : List ℕ) where
        m1_wide : length m1 ≡ width p
        m1_wide = denied.size ∙ wide

        pub not_closed : (D : List ℕ → Type 0) (found : List Bool)
            → IsConcluded (InEach p) D m1 m2 false
            → IsMet false (width p) (FitsChoice p number) found
        not_closed D found closed = λ state size fits.
            closed.broken refl state (size ∙ sym m1_wide) fits.inside
            (denied.follows state (size ∙ sym wide) fits.outside (agrees_base state size fits))

        pub completed : (D : List ℕ → Type 0) (result : Bool) (built : List Bool)
            → IsConcluded (InEach p) D m1 m2 true → length built ≡ width p
            → length p.effect ≡ width p → IsCompleted (InEach p) m2 built result
            → IsMet result (width p) (FitsChoice p number) built
        completed D true built closed size e_wide one =
            let agrees = (one.found refl).1 in
            let m2_wide : length m2 ≡ width p = closed.size ∙ m1_wide in (
              size,
              record {
                applies = is.enabled built (agrees_extends roots m2 built
                    (extends_then roots m1 m2 denied.grows closed.grows) agrees);
                inside = (one.found refl).0;
                outside = breaks_known p.task (formulas p) p.effect p.query.negative number m2 built
                    (omega (arith, e_wide, size)) (m2_wide ∙ sym size) agrees
                    (chosen_false_extends p.task (formulas p) p.effect p.query.negative number m1 m2
                    closed.grows (denied.done refl));
              },
            )
        completed D false built closed size e_wide one = λ state long fits.
            one.refuted refl state (long ∙ sym (closed.size ∙ m1_wide)) fits.inside

  -- the positive operands can be completed
  pub positive_completes : (how : Completion) (IsOf : List Literal → Type 0)
      → CompletesClauses how IsOf → ((clause : List Literal) → IsShort clause → IsOf clause)
      → All (IsKinded IsOf) p.store → IsPosed p
      → Completes how (InEach p) (AreEachSettled p) (width p)
  positive_completes how IsOf law short kinded posed =
      operands_complete how IsOf law short p.task (formulas p) (length p.store) p.effect
      (clauses_in_is p.task (formulas p)) posed.task.goal
      (λ n less. stored_kind IsOf p.store kinded n less)
      (λ n less. stored_below IsOf p.store kinded n less _ posed.over) p.query.positive
      (named_first (length p.store) p.query.positive p.query.negative p.query.positive refl
      posed.named)
