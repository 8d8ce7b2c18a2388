-- The laws of the trait Constraint for the positive operands of a query: where nothing is left on
-- the trail all of their clauses are settled, and what is left comes from the same place on while
-- the trail grows. The clauses of what isn't a set of the store have one literal at most, and are
-- settled from the beginning.
use Rattle.std.proofs.Common.{◌≡◌, ℕ, zero, suc, ◌<◌, ◌≤◌, ◌∙◌, true, List, [], ◌∷◌, length, get_or}
use Rattle.std.proofs.Common.{refl, sym, arith, inl, inr}
use Rattle.std.proofs.lemmas.List.Elements.{All-cons, All-map, All-nil, All-push}
use Rattle.std.specs.List.{All, Contains}
use Rattle.hv_task.specs.State.{names_atom}
use Rattle.hv_task.specs.Strips.{Strips, atoms}
use Rattle.hv_sets.specs.declared.literal.Literal.{Literal}
use Rattle.hv_sets.specs.declared.operand.Which.{Which}
use Rattle.hv_sets.specs.declared.operand.Which.TheVariants as W
use Rattle.hv_propagation.specs.Effect.{late}
use Rattle.hv_propagation.specs.Marks.{KeepsKnown}
use Rattle.hv_propagation.specs.Trail.{Grows, Knowledge, marks_of}
use Rattle.hv_propagation.specs.Units.{AreSettled, IsSettled}
use Rattle.hv_propagation.specs.Working.Laws.{kept_grown, settled_end}
use Rattle.hv_propagation.proofs.Marked.{value_extends}
use Rattle.hv_formula.specs.Kinded.{IsShort}
use Rattle.hv_clauses.specs.Working.Operands.{clauses_in, clauses_of_state, unit}
use Rattle.hv_clauses.specs.Working.Posed.{ProblemState, formulas}
use Rattle.hv_clauses.specs.Working.Problem.{AreEachSettled, AreLeft, IsLeft}

-- a clause without literals or with one has one literal at most
alone_none : IsShort []
alone_none l k cl ck = let less = cl.1 in absurd (omega arith)

first_is : (x l : Literal) → Contains (x ∷ []) l → x ≡ l
first_is x l c = at c.0 c.1 c.2
  where
    at : (k : ℕ) → k < 1 → get_or (x ∷ []) k l ≡ l → x ≡ l
    at zero less e = e
    at (suc k) less e = absurd (omega arith)

alone_one : (x : Literal) → IsShort (x ∷ [])
alone_one x l k cl ck = sym (first_is x l cl) ∙ first_is x k ck

-- so has each clause that says that a state is this one
state_short : (n : ℕ) (held : List ℕ) → All IsShort (clauses_of_state n held)
state_short zero held = All-nil IsShort
state_short (suc n) held =
    All-push IsShort (clauses_of_state n held) (unit n (names_atom held n)) (state_short n held)
    (alone_one (record { atom = n; positive = names_atom held n }))

-- so has each clause of what isn't a set of the store
pub constant_short : (task : Strips) (formulas : ℕ → List (List Literal)) (which : Which)
    → ((number : ℕ) → which ≡ W.Set number → ⊥) → All IsShort (clauses_in task formulas which)
constant_short task formulas W.Empty none = All-cons IsShort [] [] alone_none (All-nil IsShort)
constant_short task formulas W.Start none = state_short (atoms task) task.start
constant_short task formulas W.Goal none =
    All-map IsShort (λ atom. unit atom true) task.goal
    (λ k d within. alone_one (record { atom = get_or task.goal k d; positive = true }))
constant_short task formulas (W.Set number) none = absurd (none number refl)

-- a settled clause of one literal at most has a true one, which stays true
settled_short : (e m k : List ℕ) (clause : List Literal) → IsShort clause → KeepsKnown m k
    → IsSettled e m clause → IsSettled e k clause
settled_short e m k clause short grows settled =
    elim settled [
      | inl at ↦ inl (at.0, at.1, value_extends e m k at.0 true grows at.2)
      | inr two ↦ absurd (two.4 (short two.0 two.1 two.2 two.3))
    ]

units_stay : (e m k : List ℕ) (clauses : List (List Literal)) → All IsShort clauses → KeepsKnown m k
    → AreSettled e clauses m → AreSettled e clauses k
units_stay e m k clauses short grows settled = λ j d less.
    settled_short e m k (get_or clauses j d) (short j d less) grows (settled j d less)

-- What an operand names, seen through an effect.
module _ (task : Strips) (formulas : ℕ → List (List Literal)) (e : List ℕ) where
  left_ends : (which : Which) (k : Knowledge) (from : ℕ) → length k.trail ≤ from
      → IsLeft task formulas e which k from
      → AreSettled e (clauses_in task formulas which) (marks_of k)
  left_ends W.Empty k from h left = left
  left_ends W.Start k from h left = left
  left_ends W.Goal k from h left = left
  left_ends (W.Set number) k from h left = settled_end e (formulas number) k from h left

  pub left_grown : (which : Which) (old new : Knowledge) (from : ℕ) → Grows old new
      → from ≤ length old.trail
      → IsLeft task formulas e which old from → IsLeft task formulas e which new from
  left_grown W.Empty old new from grown h left =
      units_stay e (marks_of old) (marks_of new) (clauses_in task formulas W.Empty)
      (constant_short task formulas W.Empty (λ n is. absurd cc)) grown.grows left
  left_grown W.Start old new from grown h left =
      units_stay e (marks_of old) (marks_of new) (clauses_in task formulas W.Start)
      (constant_short task formulas W.Start (λ n is. absurd cc)) grown.grows left
  left_grown W.Goal old new from grown h left =
      units_stay e (marks_of old) (marks_of new) (clauses_in task formulas W.Goal)
      (constant_short task formulas W.Goal (λ n is. absurd cc)) grown.grows left
  left_grown (W.Set number) old new from grown h left = kept_grown e (formulas number) old new from
      grown h left

-- The positive operands.
module _ (p : ProblemState) where
  pub all_end : (k : Knowledge) (from : ℕ) → length k.trail ≤ from → AreLeft p k from
      → AreEachSettled p (marks_of k)
  all_end k from h left = λ j d less.
      left_ends p.task (formulas p) (late p.effect (get_or p.query.positive j d).after)
      (get_or p.query.positive j d).which k from h (left j d less)

  pub all_stay : (old new : Knowledge) (from : ℕ) → Grows old new → from ≤ length old.trail
      → AreLeft p old from → AreLeft p new from
  all_stay old new from grown h left = λ j d less.
      left_grown p.task (formulas p) (late p.effect (get_or p.query.positive j d).after)
      (get_or p.query.positive j d).which old new from grown h (left j d less)
