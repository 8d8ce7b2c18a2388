-- Why look-ups tell whether a negative operand has a state.
use Rattle.std.proofs.Common.{◌≡◌, ◌∙◌, ◌↔◌, ℕ, Bool, true, false, not, List, Option, None, Some}
use Rattle.std.proofs.Common.{is_some, IsTrue, get_or, if◌then◌else◌, refl, sym, ap, subst}
use Rattle.std.proofs.lemmas.List.Elements.{All-contains, Contains-get_or}
use Rattle.std.proofs.lemmas.List.Folds.{list_all_at}
use Rattle.std.proofs.lemmas.List.Sums.{list_all-from_AllPass}
use Rattle.std.specs.List.{All, Contains, list_all}
use Rattle.hv_task.specs.Strips.{atoms}
use Rattle.hv_sets.specs.Names.{AsksAbout}
use Rattle.hv_sets.specs.Query.{IsNamed, IsReady, action_of}
use Rattle.hv_sets.specs.declared.operand.Operand.{Operand}
use Rattle.hv_sets.specs.declared.query.Query.{Query}
use Rattle.hv_sets.specs.declared.operand.Which.{Which}
use Rattle.hv_explicit.specs.Working.Search.{HasJust, IsHit, ListedSearch, clashes_at, in_either}
use Rattle.hv_explicit.specs.Working.Search.{in_named, is_fit, is_in_none}
use Rattle.std.proofs.lemmas.Bool.{and_right}
use Rattle.hv_task.specs.declared.action.Action.{Action}
use Rattle.hv_task.specs.Atoms.{is_after}
use Rattle.hv_task.specs.State.{AreBelow, applicable, names_atom, state_of, successor}
use Rattle.hv_explicit.specs.Working.Codes.{IsSame}
use Rattle.hv_explicit.proofs.Anchored.{All-second}
use Rattle.hv_explicit.proofs.Clashes.{clash_acting, known_before}

-- the negative operands name constants and sets of the store
pub negative_named : (count : ℕ) (query : Query) (operands : List Operand) → IsReady count query
    → operands ≡ query.negative
    → All (λ (o : Operand). IsNamed count o.which) operands
negative_named count query operands ready is =
    subst (All (λ (o : Operand). IsNamed count o.which)) (sym is)
    (All-second (λ (o : Operand). IsNamed count o.which) query.positive query.negative ready.named)

pub named_there : (count : ℕ) (query : Query) (which : Which) (after : Bool) → IsReady count query
    → AsksAbout query.negative which after
    → IsNamed count which
named_there count query which after ready names =
    subst (IsNamed count) names.2
    (All-contains (λ (o : Operand). IsNamed count o.which) query.negative names.0
    (negative_named count query query.negative ready refl) names.1)

-- an option with nothing in it
none_from : (action : Option ℕ) → is_some action ≡ false → action ≡ None
none_from None e = refl
none_from (Some a) e = let f : true ≡ false = e in absurd cc

-- without an action no negative operand is asked about after it
pub before_alone : (count : ℕ) (query : Query) → IsReady count query
    → is_some query.action ≡ false → All (λ (o : Operand). o.after ≡ false) query.negative
before_alone count query ready none =
    All-second (λ (o : Operand). o.after ≡ false) query.positive query.negative
    (ready.before (none_from query.action none))

-- and none is hit there
pub none_after : (s : ListedSearch) (state : List Bool)
    → All (λ (o : Operand). o.after ≡ false) s.query.negative
    → IsHit s s.query.negative true state → ⊥
none_after s state before hit =
    let off = All-contains (λ (o : Operand). o.after ≡ false) s.query.negative hit.0 before hit.1 in
    let clash : true ≡ false = sym hit.2 ∙ off in absurd cc

-- an answer is not both
pub not_hit : (hit : Bool) → hit ≡ false → IsTrue hit → ⊥
not_hit hit isnt is = let clash : true ≡ false = sym is ∙ isnt in absurd cc

module _ (s : ListedSearch) (operands : List Operand) (before after : List Bool) where
  -- the state of a side
  abbrev pub side : Bool → List Bool
  side b = if b then after else before

  -- an operand that has its state is a hit
  hit_at : (o : Operand) (b : Bool) → o.after ≡ b → Contains operands o
      → in_either s before after o ≡ true
      → IsHit s operands b (side b)
  hit_at o b is among has = (
    o,
    among,
    is,
    subst
        (λ a. in_named s o.which (side a) ≡ true) is has,
  )

  -- where neither side has a hit, no operand has its state
  pub none_hit : (IsHit s operands false before → ⊥)
      → (IsHit s operands true after → ⊥)
      → list_all (λ o. not (in_either s before after o)) operands ≡ true
  none_hit no_before no_after = list_all-from_AllPass
      (λ o. not (in_either s before after o)) operands
      (λ k d within. by (get_or operands k d) (Contains-get_or operands k d within))
    where
      off : (o : Operand) (b : Bool) → o.after ≡ b → Contains operands o
          → in_either s before after o ≡ true → ⊥
      off o true is among has = no_after (hit_at o true is among has)
      off o false is among has = no_before (hit_at o false is among has)

      unless : (b : Bool) → (b ≡ true → ⊥) → not b ≡ true
      unless true isnt = absurd (isnt refl)
      unless false isnt = refl

      by : (o : Operand) → Contains operands o → not (in_either s before after o) ≡ true
      by o among = unless (in_either s before after o) (off o o.after refl among)

  -- where a side has one, some operand has
  pub some_hit : (b : Bool) → IsHit s operands b (side b)
      → list_all (λ o. not (in_either s before after o)) operands ≡ false
  some_hit b hit =
      list_all_at (λ o. not (in_either s before after o)) operands hit.1.0 hit.0 hit.1.1
      (ap (λ o. not (in_either s before after o)) hit.1.2
      ∙ ap not (subst (λ a. in_named s hit.0.which (side a) ≡ true) (sym hit.2) hit.3))

  -- where the state before the action is in none, the state after it settles the answer
  pub when_asked : (hit : Bool) → (IsHit s operands false before → ⊥)
      → IsTrue hit ↔ IsHit s operands true after
      → not hit ≡ list_all (λ o. not (in_either s before after o)) operands
  when_asked true no_before asked = sym (some_hit true (asked.0 refl))
  when_asked false no_before asked = sym (none_hit no_before
      (λ hit. not_hit false refl (asked.1 hit)))

-- where the action leaves the state as it is, and what has it is asked about after the action, the
-- state doesn't fit
pub stays_none : (s : ListedSearch) (anchor : Which) (action : Action) (held : List ℕ)
    → AreBelow (atoms s.task) held → in_named s anchor (state_of (atoms s.task) held) ≡ true
    → AsksAbout s.query.negative anchor true → IsSame (is_after action held) held
    → (b a : List Bool) → HasJust s.task (names_atom held) b
    → HasJust s.task (is_after action held) a → false ≡ is_fit s b a
stays_none s anchor action held below there asks left b a just_b just_a =
    let just : HasJust s.task (names_atom held) a = record {
      of_task = just_a.of_task;
      same = λ p. sym (left p) ∙ just_a.same p;
    } in
    let has = known_before s.task (in_named s anchor) held below there a just in
    let hit : IsHit s s.query.negative true a = (
      asks.0,
      asks.1,
      asks.3,
      subst (λ w. in_named s w a ≡ true) (sym asks.2) has,
    ) in
    sym (and_right (list_all (in_either s b a) s.query.positive) (is_in_none s b a)
    (some_hit s s.query.negative b a true hit))

-- where what the action makes of a state is hit, the state is no counterexample
pub hit_settles : (s : ListedSearch) (action : Action) (held : List ℕ)
    → action_of s.task s.query.action ≡ Some action
    → IsHit s s.query.negative true (successor action (state_of (atoms s.task) held))
    → clashes_at s held ≡ false
hit_settles s action held acts hit =
    let state = state_of (atoms s.task) held in
    let after = successor action state in
    let none = some_hit s s.query.negative state after true hit in
    sym (clash_acting s state action acts)
    ∙ and_right (applicable action state) (is_fit s state after)
    (and_right (list_all (in_either s state after) s.query.positive) (is_in_none s state after)
    none)
