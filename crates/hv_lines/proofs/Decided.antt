-- Whether a state is in a set can be decided, so a state that isn't outside a set is in it.
use Rattle.std.proofs.Common.{◌≡◌, ℕ, zero, suc, ◌<◌, ◌⊎◌, Bool, true, false, List, [], ◌∷◌, Option}
use Rattle.std.proofs.Common.{Some, None, length, map, eqb, refl, sym, ap, subst, inl, inr, arith}
use Rattle.std.proofs.lemmas.Bool.Decides.{Decides-by_or}
use Rattle.std.proofs.lemmas.List.Elements.{Decides-contains}
use Rattle.std.proofs.lemmas.Option.{none-some, same_Some, slice_get_within}
use Rattle.std.specs.Bool.{Decides}
use Rattle.std.specs.Cmp.Lexicographic.{pointwise}
use Rattle.std.specs.List.{Contains, list_any, slice_get}
use Rattle.std.proofs.Math.Bool.{beq}
use Rattle.hv_task.specs.declared.action.Action.{Action}
use Rattle.hv_task.specs.State.{applicable, successor, state_of}
use Rattle.hv_task.specs.Strips.{Strips, IsState, atoms, start_state, is_goal}
use Rattle.hv_task.proofs.Places.{IsState-successor, beq-Decides}
use Rattle.hv_sets.specs.Truth.{in_clauses}
use Rattle.hv_bdd.specs.Nodes.{NodeList, in_node}
use Rattle.hv_lines.specs.declared.line.Constant.TheVariants as C
use Rattle.hv_lines.specs.declared.line.Expr.{Expr}
use Rattle.hv_lines.specs.declared.line.Expr.TheVariants as E
use Rattle.hv_lines.specs.declared.line.Line.{Line}
use Rattle.hv_lines.specs.declared.line.Line.TheVariants as L
use Rattle.hv_lines.specs.Meaning.{SetOfStates, ActionSet, IsAfter, IsBefore, holds, pick_set}
use Rattle.hv_lines.specs.Meaning.{acts_of}
use Rattle.hv_lines.specs.Meaning.{sets_of}

bool_dec : (b : Bool) → Dec (b ≡ true)
bool_dec true = yes refl
bool_dec false = no (λ h. cc)

decides_dec : (b : Bool) (P : Type 0) → Decides b P → Dec P
decides_dec true P d = yes (d.0 refl)
decides_dec false P d = no (λ p. let h : false ≡ true = d.1 p in absurd (cc))

same_dec : (s t : List Bool) → Dec (s ≡ t)
same_dec s t = decides_dec (pointwise beq s t) (s ≡ t) (beq-Decides s t)

contains_dec : (states : List (List Bool)) (s : List Bool) → Dec (Contains states s)
contains_dec states s =
    decides_dec (list_any (λ t. pointwise beq t s) states) (Contains states s)
    (Decides-contains states s (list_any (λ t. pointwise beq t s) states)
    (Decides-by_or (λ t. pointwise beq t s) (λ t. t ≡ s) (list_any (λ t. pointwise beq t s))
    (λ t. beq-Decides t s) refl (λ _ _. refl) states))

-- both of two facts, either of two facts, the opposite of a fact

both_dec : (P Q : Type 0) → Dec P → Dec Q → Dec (P × Q)
both_dec P Q (yes p) (yes q) = yes (p, q)
both_dec P Q (yes p) (no q) = no (λ both. q both.1)
both_dec P Q (no p) _ = no (λ both. p both.0)

either_dec : (P Q : Type 0) → Dec P → Dec Q → Dec (P ⊎ Q)
either_dec P Q (yes p) _ = yes (inl p)
either_dec P Q (no p) (yes q) = yes (inr q)
either_dec P Q (no p) (no q) = no (elim [ inl h ↦ p h | inr h ↦ q h ])

not_dec : (P : Type 0) → Dec P → Dec (P → ⊥)
not_dec P (yes p) = no (λ out. out p)
not_dec P (no p) = yes p

-- a fact that follows from another and gives it back
as_dec : (P Q : Type 0) → (P → Q) → (Q → P) → Dec P → Dec Q
as_dec P Q there back (yes p) = yes (there p)
as_dec P Q there back (no p) = no (λ q. p (back q))

-- some number below a bound
number_dec : (P : ℕ → Type 0) → ((number : ℕ) → Dec (P number)) → (n : ℕ)
    → Dec ((number : ℕ) × (number < n) × P number)
number_dec P each zero = no (λ w. absurd (omega (arith, w.1)))
number_dec P each (suc n) =
    let Below : Type 0 = (number : ℕ) × (number < n) × P number in
    as_dec (P n ⊎ Below) ((number : ℕ) × (number < suc n) × P number)
    (elim [ inl p ↦ (n, omega arith, p) | inr w ↦ (w.0, omega (arith, w.1), w.2) ])
    (λ w. elim (last w.0 n w.1) [
      | inl below ↦ inr (w.0, below, w.2)
      | inr same ↦ inl
          (subst P same w.2)
    ])
    (either_dec (P n) Below (each n) (number_dec P each n))
  where
    last : (number n : ℕ) → number < suc n → (number < n) ⊎ (number ≡ n)
    last number n below = grind arith

-- some state of so many atoms
state_dec : (n : ℕ) (P : List Bool → Type 0) → ((s : List Bool) → length s ≡ n → Dec (P s))
    → Dec ((s : List Bool) × (length s ≡ n) × P s)
state_dec zero P each =
    as_dec (P []) ((s : List Bool) × (length s ≡ 0) × P s) (λ p. ([], refl, p))
    (λ w. none w.0 w.1 w.2) (each [] refl)
  where
    none : (s : List Bool) → length s ≡ 0 → P s → P []
    none [] e p = p
    none (b ∷ s) e p = absurd (omega arith)
state_dec (suc n) P each =
    let Out : Type 0 = (s : List Bool) × (length s ≡ n) × P (false ∷ s) in
    let In : Type 0 = (s : List Bool) × (length s ≡ n) × P (true ∷ s) in
    as_dec (Out ⊎ In) ((s : List Bool) × (length s ≡ suc n) × P s)
    (elim [ inl w ↦ (false ∷ w.0, ap suc w.1, w.2) | inr w ↦ (true ∷ w.0, ap suc w.1, w.2) ])
    (λ w. first w.0 w.1 w.2)
    (either_dec Out In (state_dec n (λ s. P (false ∷ s)) (λ s e. each (false ∷ s) (ap suc e)))
    (state_dec n (λ s. P (true ∷ s)) (λ s e. each (true ∷ s) (ap suc e))))
  where
    first : (s : List Bool) → length s ≡ suc n → P s
        → ((t : List Bool) × (length t ≡ n) × P (false ∷ t))
        ⊎ ((t : List Bool) × (length t ≡ n) × P (true ∷ t))
    first [] e p = absurd (omega arith)
    first (false ∷ t) e p = inl (t, omega arith, p)
    first (true ∷ t) e p = inr (t, omega arith, p)

-- one of two sets, by a test
pick_dec : (test : Bool) (here there : SetOfStates) (s : List Bool) → Dec (here s) → Dec (there s)
    → Dec (pick_set test here there s)
pick_dec true here there s d e = d
pick_dec false here there s d e = e

-- the action is there, its number is among the given ones, and it is applicable with a successor of
-- which a fact holds
StepTo : Option Action → Bool → List Bool → (List Bool → Type 0) → Type 0
StepTo found among s P =
    (action : Action) × (among ≡ true) × (found ≡ Some action) × (applicable action s ≡ true)
    × P (successor action s)

step_dec : (found : Option Action) (among : Bool) (s : List Bool) (P : List Bool → Type 0)
    → ((a : Action) → Dec (P (successor a s)))
    → Dec (StepTo found among s P)
unfolding StepTo
step_dec None among s P each = no (λ w. absurd (none-some w.0 w.2))
step_dec (Some a) among s P each =
    let Parts : Type 0 = (applicable a s ≡ true) × P (successor a s) in
    as_dec ((among ≡ true) × Parts) (StepTo (Some a) among s P)
    (λ p. (a, p.0, refl, p.1.0, p.1.1))
    (λ w.
    let same : w.0 ≡ a = sym (same_Some a w.0 w.2) in
    (w.1, (subst (λ x. applicable x s ≡ true) same w.3, subst (λ x. P (successor x s)) same w.4)))
    (both_dec (among ≡ true) Parts (bool_dec among)
    (both_dec (applicable a s ≡ true) (P (successor a s)) (bool_dec (applicable a s)) (each a)))

module _ (task : Strips) where
  -- some action of the set, applicable in the state, with a successor of which a fact holds
  SomeStep : ActionSet → List Bool → (List Bool → Type 0) → Type 0
  SomeStep acts s P =
      (number : ℕ) × (number < length task.actions)
      × StepTo (slice_get task.actions number) (acts number) s P

  some_step_dec : (acts : ActionSet) (s : List Bool) (P : List Bool → Type 0)
      → ((a : Action) → Dec (P (successor a s)))
      → Dec (SomeStep acts s P)
  unfolding SomeStep
  some_step_dec acts s P each =
      number_dec (λ number. StepTo (slice_get task.actions number) (acts number) s P)
      (λ number. step_dec (slice_get task.actions number) (acts number) s P each)
      (length task.actions)

  before_dec : (S : SetOfStates) (acts : ActionSet) (s : List Bool) → IsState task s
      → ((t : List Bool) → IsState task t → Dec (S t))
      → Dec (IsBefore task S acts s)
  unfolding SomeStep StepTo
  before_dec S acts s is_state each =
      as_dec (SomeStep acts s S) (IsBefore task S acts s)
      (λ w. record {
        number = w.0;
        action = w.2.0;
        among = w.2.1;
        named = w.2.2;
        applies = w.2.3;
        inside = w.2.4;
      })
      (λ b. (
        b.number,
        slice_get_within task.actions b.number b.action b.named,
        (b.action, b.among, b.named, b.applies, b.inside),
      ))
      (some_step_dec acts s S (λ a. each (successor a s) (IsState-successor task a s is_state)))

  after_dec : (S : SetOfStates) (acts : ActionSet) (s : List Bool)
      → ((t : List Bool) → IsState task t → Dec (S t))
      → Dec (IsAfter task S acts s)
  unfolding SomeStep StepTo
  after_dec S acts s each =
      let From : List Bool → Type 0 = λ t. S t × SomeStep acts t (λ r. r ≡ s) in
      as_dec ((t : List Bool) × (length t ≡ atoms task) × From t) (IsAfter task S acts s)
      (λ w. record {
        before = w.0;
        is_state = w.1;
        inside = w.2.0;
        number = w.2.1.0;
        action = w.2.1.2.0;
        among = w.2.1.2.1;
        named = w.2.1.2.2;
        applies = w.2.1.2.3;
        result = w.2.1.2.4;
      })
      (λ i. (
        i.before,
        i.is_state,
        (
          i.inside,
          (
            i.number,
            slice_get_within task.actions i.number i.action i.named,
            (i.action, i.among, i.named, i.applies, i.result),
          ),
        ),
      ))
      (state_dec (atoms task) From
      (λ t is_state. both_dec (S t) (SomeStep acts t (λ r. r ≡ s)) (each t is_state)
      (some_step_dec acts t (λ r. r ≡ s) (λ a. same_dec (successor a t) s))))

  module _ (nodes : NodeList) where
    holds_dec : (acts : ℕ → ActionSet) (sets : ℕ → SetOfStates)
        → ((e : ℕ) (s : List Bool) → IsState task s → Dec (sets e s)) → (x : Expr)
        → (s : List Bool) → IsState task s → Dec (holds task nodes acts sets x s)
    holds_dec acts sets each (E.Constant C.Empty) s is_state = no (λ h. h)
    holds_dec acts sets each (E.Constant C.Start) s is_state = same_dec s (start_state task)
    holds_dec acts sets each (E.Constant C.Goal) s is_state = bool_dec (is_goal task s)
    holds_dec acts sets each (E.Horn clauses) s is_state = bool_dec (in_clauses clauses s)
    holds_dec acts sets each (E.Dual clauses) s is_state = bool_dec (in_clauses clauses s)
    holds_dec acts sets each (E.Two clauses) s is_state = bool_dec (in_clauses clauses s)
    holds_dec acts sets each (E.States states) s is_state = contains_dec
        (map (state_of (atoms task)) states) s
    holds_dec acts sets each (E.Node node) s is_state = bool_dec (in_node nodes node s)
    holds_dec acts sets each (E.Not e) s is_state = not_dec (sets e s) (each e s is_state)
    holds_dec acts sets each (E.And e f) s is_state = both_dec (sets e s) (sets f s)
        (each e s is_state) (each f s is_state)
    holds_dec acts sets each (E.Or e f) s is_state = either_dec (sets e s) (sets f s)
        (each e s is_state) (each f s is_state)
    holds_dec acts sets each (E.After e by) s is_state = after_dec (sets e) (acts by) s (each e)
    holds_dec acts sets each (E.Before e by) s is_state = before_dec (sets e) (acts by) s is_state
        (each e)

    -- whether a state of the task is in a set
    pub set_dec : (lines : List Line) (e : ℕ) (s : List Bool) → IsState task s
        → Dec (sets_of task nodes lines e s)
    set_dec [] e s is_state = no (λ h. h)
    set_dec (L.Acts id x ∷ older) e s is_state = set_dec older e s is_state
    set_dec (L.Expr id x ∷ older) e s is_state =
        pick_dec (eqb e id) (holds task nodes (acts_of older) (sets_of task nodes older) x)
        (sets_of task nodes older e) s
        (holds_dec (acts_of older) (sets_of task nodes older) (set_dec older) x s is_state)
        (set_dec older e s is_state)
    set_dec (L.Known id st w ps ∷ older) e s is_state = set_dec older e s is_state

    -- a state that isn't outside a set is in it
    pub set_stable : (lines : List Line) (e : ℕ) (s : List Bool) → IsState task s
        → ((sets_of task nodes lines e s → ⊥) → ⊥)
        → sets_of task nodes lines e s
    set_stable lines e s is_state out =
        elim (set_dec lines e s is_state) [
          | yes inside ↦ inside
          | no outside ↦ absurd (out outside)
        ]
