-- Sets of conjunctions that have the greatest trap: conjunctions from which an action leads out are
-- not in it, and what no action
-- leads out of is a trap.
use Rattle.std.proofs.Common.{◌≡◌, ℕ, ◌+◌, ◌<◌, ◌≤◌, ◌∙◌, ◌&&◌, Bool, true, false, not}
use Rattle.std.proofs.Common.{List, [], ◌∷◌, ◌++◌, Some, length, get_or, slice_get, sym, ap, subst}
use Rattle.std.proofs.Common.{inl, inr, arith}
use Rattle.std.proofs.lemmas.Option.{slice_get_cases, slice_get_within}
use Rattle.std.proofs.lemmas.List.Elements.{filter-append}
use Rattle.std.proofs.lemmas.Bool.{and_from, and_parts, both_ways, cases_Bool}
use Rattle.std.specs.List.{All, filter, list_all}
use Rattle.std.specs.Prelude.{take}
use Rattle.hv_task.specs.declared.action.Action.{Action}
use Rattle.hv_task.specs.State.{successor}
use Rattle.hv_task.specs.Strips.{IsOver, Strips, atoms}
use Rattle.hv_task.proofs.Lists.{take_next}
use Rattle.hv_sets.specs.Truth.{in_clause, in_clauses, in_cube}
use Rattle.hv_sets.specs.declared.literal.Literal.{Literal}
use Rattle.hv_propagation.specs.Clauses.{AreClauses}
use Rattle.hv_trap.specs.Conjunctions.{conjunctions, denials, denies_one, is_short}
use Rattle.hv_trap.specs.Trap.{AreTrapClauses, InGreatestTrap, IsTrap, Stays, is_candidate}
use Rattle.hv_trap.specs.Working.Trap.{Enclose, EncloseTrap, Escapes}
use Rattle.hv_trap.proofs.Listed.{all_short, denials_below, denials_same, false_denials}
use Rattle.hv_trap.proofs.Listed.{filter_denials, listed, true_denials}

-- all candidates have the greatest trap
pub all_enclose : (task : Strips) → EncloseTrap task (denials (denies_one task.goal) (atoms task))
all_enclose task = (
  is_candidate task,
  record {
    candidates = λ c is. is;
    greatest = λ c (trap, is, there). is.candidates c there;
    listed = denials_same (denies_one task.goal) (is_candidate task) (conjunctions (atoms task))
        (same (conjunctions (atoms task)) (all_short (atoms task)));
  },
)
  where
    same : (cs : List (List Literal)) → All (λ c. is_short (atoms task) c ≡ true) cs
        → All (λ c. denies_one task.goal c ≡ is_candidate task c) cs
    same cs each = λ i d less. sym (ap (λ b. b && denies_one task.goal (get_or cs i d))
        (each i d less))

module _ (task : Strips) (set : List Literal → Bool) (clauses : List (List Literal))
    (has : Enclose task set clauses) where
  -- the clauses are over the task's atoms
  pub enclose_below : AreClauses (atoms task) clauses
  enclose_below =
      subst (AreClauses (atoms task)) (sym has.listed)
      (denials_below (atoms task) set
      (λ c is. (and_parts (is_short (atoms task) c) (denies_one task.goal c)
      (has.candidates c is)).0) (conjunctions (atoms task)))

  -- where all clauses are true, no conjunction of the set is
  pub none_true : (state : List Bool) → in_clauses clauses state ≡ true → (c : List Literal)
      → set c ≡ true → in_cube c state ≡ false
  none_true state all c is =
      listed (λ x. set x ≡ true → in_cube x state ≡ false) (atoms task) task.goal
      (true_denials set state (conjunctions (atoms task))
      (ap (λ cs. in_clauses cs state) (sym has.listed) ∙ all)) c
      (and_parts (is_short (atoms task) c) (denies_one task.goal c) (has.candidates c is)).0
      (and_parts (is_short (atoms task) c) (denies_one task.goal c) (has.candidates c is)).1 is

  -- where some clause is false, some conjunction of the set is true
  pub one_true : (state : List Bool) → in_clauses clauses state ≡ false
      → (c : List Literal) × (set c ≡ true) × (in_cube c state ≡ true)
  one_true state fails = false_denials set state (conjunctions (atoms task))
      (ap (λ cs. in_clauses cs state) (sym has.listed) ∙ fails)

  -- what no action leads out of is the greatest trap
  pub set_is_trap : ((number : ℕ) → number < length task.actions → Stays task clauses number)
      → AreTrapClauses task clauses
  set_is_trap stays = (set, λ c. (λ is. (set, trap, is), λ there. has.greatest c there), has.listed)
    where
      trap : IsTrap task set
      trap = record {
        candidates = has.candidates;
        stays = λ c is state is_state true_in number a named applies.
            elim (cases_Bool (in_clauses clauses (successor a state))) [
              | inl all ↦
                  absurd (both_ways (in_cube c state)
                  (none_true state (stays number (slice_get_within task.actions number a named) a
                  named state is_state applies all) c is)
                  true_in)
              | inr fails ↦ one_true (successor a state) fails
            ];
      }

-- conjunctions that are true where an action leads out of all of a set are not in the greatest trap
pub enclose_more : (task : Strips) (formula clauses : List (List Literal)) (number : ℕ) (a : Action)
    (state : List Bool)
    → slice_get task.actions number ≡ Some a
    → EncloseTrap task formula → EncloseTrap task clauses → Escapes task formula number state
    → EncloseTrap task (filter (λ c. in_clause c state) clauses)
enclose_more task formula clauses number a state named (outer, about) (set, has) escape = (
  λ c. set c && not (in_cube c state),
  record {
    candidates = λ c is. has.candidates c (and_parts (set c) (not (in_cube c state)) is).0;
    greatest = λ c there. and_from (set c) (not (in_cube c state)) (has.greatest c there)
        (ap not (out c there));
    listed =
        ap (filter (λ c. in_clause c state)) has.listed
        ∙ filter_denials set state (conjunctions (atoms task));
  },
)
  where
    out : (c : List Literal) → InGreatestTrap task c → in_cube c state ≡ false
    out c (trap, is, there) =
        elim (cases_Bool (in_cube c state)) [
          | inl true_in ↦
              let w = is.stays c there state escape.is_state true_in number a named
              (escape.applies a named) in
              absurd (both_ways (in_cube w.0 (successor a state))
              (none_true task outer formula about (successor a state) (escape.after a named) w.0
              (about.greatest w.0 (trap, is, w.1)))
              w.2)
          | inr fails ↦ fails
        ]

pub filter_most : {X : Type 0} (p : X → Bool) (xs : List X) → length (filter p xs) ≤ length xs
filter_most p [] = omega arith
filter_most p (x ∷ xs) =
    elim (cases_Bool (p x)) [
      | inl is ↦ rw is (omega (arith, filter_most p xs))
      | inr fails ↦ rw fails (omega (arith, filter_most p xs))
    ]

pub filter_fewer : {X : Type 0} (p : X → Bool) (xs : List X) → list_all p xs ≡ false
    → length (filter p xs) < length xs
filter_fewer p [] all = absurd (cc (all))
filter_fewer p (x ∷ xs) all =
    elim (cases_Bool (p x)) [
      | inl is ↦ rw is (let rest : list_all p xs ≡ false = ap (λ b. b && list_all p xs) (sym is)
          ∙ all in omega (arith, filter_fewer p xs rest))
      | inr fails ↦ rw fails (omega (arith, filter_most p xs))
    ]

pub filter_next : {X : Type 0} (p : X → Bool) (xs : List X) (k : ℕ) (x : X) (now new : List X)
    → slice_get xs k ≡ Some x
    → now ≡ filter p (take k xs) → new ≡ now ++ filter p (x ∷ []) → new ≡ filter p (take (k + 1) xs)
filter_next p xs k x now new at is more =
    more
    ∙ (ap (λ ys. ys ++ filter p (x ∷ [])) is
    ∙ (sym (filter-append p (take k xs) (x ∷ [])) ∙ ap (filter p) (sym (take_next xs k x at))))

-- what a visit makes of the clauses: those that are true in the state from which the action leads
-- out
module _ (task : Strips) (formula clauses kept : List (List Literal)) (number : ℕ)
    (state now : List Bool) (is_now : now ≡ state) where
  pub visit_below : EncloseTrap task clauses → Escapes task formula number state
      → AreClauses (length now) clauses
  visit_below (set, has) escape =
      subst (λ n. AreClauses n clauses) (sym (ap length is_now ∙ escape.is_state))
      (enclose_below task set clauses has)

  module _ (is : kept ≡ filter (λ c. in_clause c now) clauses) where
    by_state : kept ≡ filter (λ c. in_clause c state) clauses
    by_state = subst (λ (s : List Bool). kept ≡ filter (λ c. in_clause c s) clauses) is_now is

    pub visit_encloses : number < length task.actions → EncloseTrap task formula
        → EncloseTrap task clauses
        → Escapes task formula number state → EncloseTrap task kept
    visit_encloses within outer inner escape =
        elim (slice_get_cases task.actions number).1 [
          | inl (a, below, named, got) ↦
              subst (EncloseTrap task) (sym by_state)
              (enclose_more task formula clauses number a state named outer inner escape)
          | inr (past, none) ↦ absurd (omega (arith, within, past))
        ]

    pub visit_few : length kept ≤ length clauses
    visit_few = let few = filter_most (λ c. in_clause c state) clauses in
        let same = ap length by_state in omega (arith, few, same)

    pub visit_fewer : Escapes task formula number state → clauses ≡ formula
        → length kept < length clauses
    visit_fewer escape all =
        let false_in : in_clauses clauses state ≡ false = ap (λ cs. in_clauses cs state) all
        ∙ escape.before in
        let fewer = filter_fewer (λ c. in_clause c state) clauses false_in in
        let same = ap length by_state in omega (arith, fewer, same)

-- what is over the atoms of a task of at most 64 is over 64 atoms

pub few_below : (task : Strips) (clauses : List (List Literal)) → atoms task ≤ 64
    → EncloseTrap task clauses → AreClauses 64 clauses
few_below task clauses few (set, has) =
    λ i d less. λ j e low. let one = enclose_below task set clauses has i d less j e low in
    omega (arith, few, one)

pub few_over : (task : Strips) (a : Action) → atoms task ≤ 64 → IsOver (atoms task) a → IsOver 64 a
few_over task a few over = record {
  pre = λ i d less. let one = over.pre i d less in omega (arith, few, one);
  add = λ i d less. let one = over.add i d less in omega (arith, few, one);
  del = λ i d less. let one = over.del i d less in omega (arith, few, one);
}
