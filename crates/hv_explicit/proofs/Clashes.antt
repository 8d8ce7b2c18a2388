-- Why what was asked of lists of atoms tells whether a state is a counterexample.
use Rattle.std.proofs.Common.{◌≡◌, ◌∙◌, ◌<◌, ◌≤◌, ◌&&◌, ◌||◌, ℕ, Bool, true, false, not, List, []}
use Rattle.std.proofs.Common.{◌∷◌, Option, None, Some, get_or, if◌then◌else◌, refl, sym}
use Rattle.std.proofs.Common.{ap, ap₂, arith, inl, inr}
use Rattle.std.proofs.lemmas.Bool.{cases_lt, and_right, or_from, false_from_ne_true}
use Rattle.std.proofs.lemmas.List.Elements.{All-contains}
use Rattle.std.specs.List.{All, Contains, list_all}
use Rattle.hv_task.specs.declared.action.Action.{Action}
use Rattle.hv_task.specs.Atoms.{is_after}
use Rattle.hv_task.specs.State.{AreBelow, applicable, has_all, names_atom, state_of, successor}
use Rattle.hv_task.specs.Strips.{IsOver, Strips, atoms}
use Rattle.hv_task.proofs.Places.{has_all-Decides, has_atom_past, has_atom-state_of}
use Rattle.hv_task.proofs.Places.{has_atom-successor, length-state_of, length-successor}
use Rattle.hv_task.proofs.Places.{names_atom-Decides, same_state}
use Rattle.hv_task.proofs.Next.{unnamed}
use Rattle.hv_sets.specs.Query.{action_of, asked, in_operand, may_apply}
use Rattle.hv_sets.specs.declared.operand.Operand.{Operand}
use Rattle.hv_explicit.specs.Codes.{IsBelow}
use Rattle.hv_explicit.specs.ListedStates.{in_set}
use Rattle.hv_explicit.specs.Working.Search.{HasJust, ListedSearch, clashes_in, in_either, in_named}
use Rattle.hv_explicit.specs.Working.Search.{is_fit}

-- an atom past the bound is in no list below it
past_all : (n : ℕ) (held : List ℕ) (p : ℕ) → AreBelow n held → n ≤ p → names_atom held p ≡ false
past_all n held p below past = unnamed held p
    (λ c. let less = All-contains (λ a. a < n) held p below c in omega arith)

pub below_list : (n : ℕ) (held : List ℕ) → AreBelow n held → IsBelow n (names_atom held)
below_list n held below p past = past_all n held p below past

-- a list denotes its state
pub stands_list : (task : Strips) (held : List ℕ) → AreBelow (atoms task) held
    → HasJust task (names_atom held) (state_of (atoms task) held)
stands_list task held below = record {
  of_task = length-state_of (atoms task) held;
  same = λ p. elim (cases_lt p (atoms task)) [
    | inl less ↦ sym (has_atom-state_of (atoms task) held p less)
    | inr past ↦
        past_all (atoms task) held p below past
        ∙ sym (has_atom_past (state_of (atoms task) held) p
        (omega (arith, length-state_of (atoms task) held)))
  ];
}

-- a set of atoms is one state
pub one_just : (task : Strips) (held : ℕ → Bool) (a b : List Bool) → HasJust task held a
    → HasJust task held b → a ≡ b
one_just task held a b one other =
    same_state a b (one.of_task ∙ sym other.of_task) (λ p within. sym (one.same p) ∙ other.same p)

pub known_before : (task : Strips) (P : List Bool → Bool) (held : List ℕ) → AreBelow (atoms task)
    held
    → P (state_of (atoms task) held) ≡ true → (b : List Bool) → HasJust task (names_atom held) b
    → P b ≡ true
known_before task P held below is b just =
    ap P (one_just task (names_atom held) b (state_of (atoms task) held) just
    (stands_list task held below)) ∙ is

-- the result of an action has no atom past the bound
pub below_after : (n : ℕ) (action : Action) (held : List ℕ) → AreBelow n held → IsOver n action
    → IsBelow n (is_after action held)
below_after n action held below over p past =
    or_from (names_atom action.add p) (not (names_atom action.del p) && names_atom held p)
    (past_all n action.add p over.add past)
    (and_right (not (names_atom action.del p)) (names_atom held p) (past_all n held p below past))

-- and denotes the successor
pub stands_after : (task : Strips) (action : Action) (held : List ℕ) → AreBelow (atoms task) held
    → IsOver (atoms task) action
    → HasJust task (is_after action held) (successor action (state_of (atoms task) held))
stands_after task action held below over =
    let size = length-state_of (atoms task) held in
    let next = length-successor action (state_of (atoms task) held) in
    record {
      of_task = next ∙ size;
      same = λ p. elim (cases_lt p (atoms task)) [
        | inl less ↦
            sym (has_atom-successor action (state_of (atoms task) held) p (omega arith)
            ∙ ap (λ b. names_atom action.add p || (not (names_atom action.del p) && b))
            (has_atom-state_of (atoms task) held p less))
        | inr past ↦
            below_after (atoms task) action held below over p past
            ∙ sym (has_atom_past (successor action (state_of (atoms task) held)) p (omega arith))
      ];
    }

-- a list has the whole precondition exactly where its state does
pub applies : (n : ℕ) (held pre : List ℕ) → AreBelow n held → All (λ p. Contains held p) pre
    → has_all pre (state_of n held) ≡ true
applies n held pre below has =
    (has_all-Decides pre (state_of n held)).1 (λ k d within.
    let there = has k d within in
    let less = All-contains (λ a. a < n) held (get_or pre k d) below there in
    has_atom-state_of n held (get_or pre k d) less
    ∙ (names_atom-Decides held (get_or pre k d)).1 there)

pub applies_not : (n : ℕ) (held pre : List ℕ) → AreBelow n pre
    → (All (λ p. Contains held p) pre → ⊥) → has_all pre (state_of n held) ≡ false
applies_not n held pre below none =
    false_from_ne_true (has_all pre (state_of n held)) (λ e.
    let all = (has_all-Decides pre (state_of n held)).0 e in
    none (λ k d within.
    (names_atom-Decides held (get_or pre k d)).0
    (sym (has_atom-state_of n held (get_or pre k d) (below k d within)) ∙ all k d within)))

all_same : {X : Type 0} (p q : X → Bool) → ((x : X) → p x ≡ q x) → (xs : List X)
    → list_all p xs ≡ list_all q xs
all_same p q same [] = refl
all_same p q same (x ∷ xs) = ap₂ (λ a b. a && b) (same x) (all_same p q same xs)

module _ (s : ListedSearch) (action : Option Action) (state after : List Bool)
    (side : (b : Bool) → (if b then after else state) ≡ asked action b state) where
  one_side : (o : Operand)
      → in_either s state after o ≡ in_operand s.task (in_set s.sets) action state o
  one_side o = ap (in_named s o.which) (side o.after)

  sides : is_fit s state after
      ≡ (list_all (λ o. in_operand s.task (in_set s.sets) action state o) s.query.positive
      && list_all (λ o. not (in_operand s.task (in_set s.sets) action state o)) s.query.negative)
  sides =
      ap₂ (λ a b. a && b) (all_same (in_either s state after)
      (λ o. in_operand s.task (in_set s.sets) action state o) one_side s.query.positive)
      (all_same (λ o. not (in_either s state after o))
      (λ o. not (in_operand s.task (in_set s.sets) action state o)) (λ o. ap not (one_side o))
      s.query.negative)

  -- a state is a counterexample where the action is applicable and the two states fit
  clash_fit : action_of s.task s.query.action ≡ action
      → (may_apply action state && is_fit s state after) ≡ clashes_in s state
  clash_fit is =
      ap (λ b. may_apply action state && b) sides
      ∙ ap (λ o. may_apply o state && (list_all
      (λ p. in_operand s.task (in_set s.sets) o state p) s.query.positive
      && list_all (λ p. not (in_operand s.task (in_set s.sets) o state p)) s.query.negative))
      (sym is)

-- without an action
pub clash_alone : (s : ListedSearch) (state : List Bool)
    → action_of s.task s.query.action ≡ None → is_fit s state state ≡ clashes_in s state
clash_alone s state none = clash_fit s None state state side none
  where
    side : (b : Bool) → (if b then state else state) ≡ asked None b state
    side true = refl
    side false = refl

-- with an action
pub clash_acting : (s : ListedSearch) (state : List Bool) (action : Action)
    → action_of s.task s.query.action ≡ Some action
    → (applicable action state && is_fit s state (successor action state)) ≡ clashes_in s state
clash_acting s state action is =
    clash_fit s (Some action) state (successor action state) side is
  where
    side : (b : Bool) → (if b then successor action state else state) ≡ asked (Some action) b state
    side true = refl
    side false = refl
