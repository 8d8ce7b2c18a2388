-- What is known before the action, whatever it is.
use Rattle.std.proofs.Common.{◌≡◌, ℕ, ◌<◌, ◌≤◌, ◌∙◌, Bool, true, false, List, [], length, get_or}
use Rattle.std.proofs.Common.{Option, refl, sym, ap, subst}
use Rattle.std.proofs.lemmas.List.Elements.{All-contains, Contains-get_or}
use Rattle.std.specs.List.{All, Contains}
use Rattle.hv_task.specs.Strips.{Strips}
use Rattle.hv_sets.specs.declared.literal.Literal.{Literal}
use Rattle.hv_sets.specs.declared.operand.Operand.{Operand}
use Rattle.hv_sets.specs.declared.operand.Which.{Which}
use Rattle.hv_sets.specs.declared.operand.Which.TheVariants as W
use Rattle.hv_sets.specs.Query.{in_which}
use Rattle.hv_clauses.specs.declared.opening.Begun.{Begun}
use Rattle.hv_clauses.specs.declared.opening.Begun.TheVariants as B
use Rattle.hv_clauses.specs.declared.opening.Opening.TheVariants as O
use Rattle.hv_clauses.specs.Store.{formula_at, tests_of}
use Rattle.hv_clauses.specs.Working.Early.{AreEarlyLeft, HoldInEarly, InEarly, IsBegunFrom}
use Rattle.hv_clauses.specs.Working.Early.{IsOpened}
use Rattle.hv_clauses.specs.Working.Found.{IsAskedTwice}
use Rattle.hv_clauses.specs.Working.Posed.{InEach, ProblemState, formulas, turned_to, width}
use Rattle.hv_clauses.specs.Working.Problem.{AreLeft, IsLeft, IsLeftOf}
use Rattle.hv_clauses.specs.Working.Start.{HoldInEach, IsBasedOn}
use Rattle.hv_propagation.specs.Chase.{IsFollowed}
use Rattle.hv_propagation.specs.Effect.{late}
use Rattle.hv_propagation.specs.Marks.{over}
use Rattle.hv_propagation.specs.Trail.{Grows, Knowledge, marked, marks_of}
use Rattle.hv_propagation.proofs.Chasing.{kept_earlier}
use Rattle.hv_propagation.proofs.Marked.{over-nil}
use Rattle.hv_propagation.proofs.Trailed.{length-marked}
use Rattle.hv_clauses.specs.Working.Laws.{left_grown}

-- an operand that is asked about before the action is seen through no effect
late_none : (effect : List ℕ) (after : Bool) → after ≡ false → late effect after ≡ []
late_none effect after is = ap (late effect) is

module _ (p : ProblemState) where
  -- a state that is in each positive operand is in those before the action
  pub early_from_each : (state : List Bool) → InEach p state → InEarly p state
  early_from_each state inside = λ j d less is.
      let o = get_or p.query.positive j d in
      subst (λ s. in_which p.task (tests_of (formulas p)) o.which s ≡ true)
      (ap (λ e. over e state) (late_none p.effect o.after is) ∙ over-nil state)
      (inside j d less)

  pub hold_in_each : (marks : List ℕ) → HoldInEarly p marks → HoldInEach p marks
  hold_in_each marks hold = λ state size inside. hold state size (early_from_each state inside)

  -- what is known of them stays known
  pub early_grown : (old new : Knowledge) (from : ℕ) → Grows old new → from ≤ length old.trail
      → AreEarlyLeft p old from → AreEarlyLeft p new from
  early_grown old new from grown h left = λ j d less is.
      left_grown p.task (formulas p) [] (get_or p.query.positive j d).which old new from grown h
      (left j d less is)

  -- of an operand before the action
  pub left_of_early : (k : Knowledge) (from : ℕ) → AreEarlyLeft p k from
      → (o : Operand) → Contains p.query.positive o → o.after ≡ false → IsLeftOf p o k from
  left_of_early k from left o has is =
      subst (λ e. IsLeft p.task (formulas p) e o.which k from) (sym (late_none p.effect o.after is))
      (All-contains (λ (o : Operand). o.after ≡ false
      → IsLeft p.task (formulas p) [] o.which k from) p.query.positive o left has is)

  -- of one in a list of them, as it is gone through
  pub operand_early : (xs : List Operand) → xs ≡ p.query.positive → (i : ℕ) (d : Operand)
      → i < length xs → (k : Knowledge) (from : ℕ) → AreEarlyLeft p k from
      → (get_or xs i d).after ≡ false → IsLeftOf p (get_or xs i d) k from
  operand_early xs same i d within k from left is =
      left_of_early k from left (get_or xs i d)
      (subst (λ (os : List Operand). Contains os (get_or xs i d)) same
      (Contains-get_or xs i d within)) is

-- what comes from a place on comes from an earlier one on
pub left_earlier : (task : Strips) (formulas : ℕ → List (List Literal)) (e : List ℕ) (which : Which)
    (k : Knowledge) (from later : ℕ) → from ≤ later → later ≤ length k.trail
    → IsLeft task formulas e which k later → IsLeft task formulas e which k from
left_earlier task formulas e W.Empty k from later h within left = left
left_earlier task formulas e W.Start k from later h within left = left
left_earlier task formulas e W.Goal k from later h within left = left
left_earlier task formulas e (W.Set number) k from later h within left =
    kept_earlier e (formulas number) k from later h within left

-- A problem whose positive operands are those of another one that are asked about before the
-- action.
module _ (p q : ProblemState) (task : q.task ≡ p.task) (store : q.store ≡ p.store)
    (among : (o : Operand) → Contains q.query.positive o
    → Contains p.query.positive o × (o.after ≡ false))
    (all : (o : Operand) → Contains p.query.positive o → o.after ≡ false
    → Contains q.query.positive o) where
  pub each_from_early : (state : List Bool) → InEarly p state → InEach q state
  each_from_early state early = λ j d less.
      let o = get_or q.query.positive j d in
      let is = among o (Contains-get_or q.query.positive j d less) in
      let here = All-contains (λ (o : Operand). o.after ≡ false
      → in_which p.task (tests_of (formulas p)) o.which state ≡ true)
      p.query.positive o early is.0 is.1 in
      subst (λ s. in_which q.task (tests_of (formulas q)) o.which s ≡ true)
      (sym (ap (λ e. over e state) (late_none q.effect o.after is.1) ∙ over-nil state))
      (subst (λ t. in_which t (tests_of (formulas q)) o.which state ≡ true) (sym task)
      (subst (λ s. in_which p.task (tests_of (formula_at s)) o.which state ≡ true) (sym store)
      here))

  pub early_left_from : (k : Knowledge) (from : ℕ) → AreLeft q k from → AreEarlyLeft p k from
  early_left_from k from left = λ j d less is.
      let o = get_or p.query.positive j d in
      let here = All-contains (λ (o : Operand). IsLeftOf q o k from) q.query.positive o left
      (all o (Contains-get_or p.query.positive j d less) is) in
      subst (λ t. IsLeft t (formulas p) [] o.which k from) task
      (subst (λ s. IsLeft q.task (formula_at s) [] o.which k from) store
      (subst (λ e. IsLeft q.task (formulas q) e o.which k from)
      (late_none q.effect o.after is) here))

-- where a search begins is the same once more is known
pub begun_grown : (p : ProblemState) (begun : Begun) (old new : Knowledge) (from : ℕ)
    → Grows old new → from ≤ length old.trail → IsBegunFrom p begun old from
    → IsBegunFrom p begun new from
begun_grown p B.Early old new from grown h left = early_grown p old new from grown h left
begun_grown p (B.From rooted) old new from grown h is =
    (is.0, subst (λ b. IsBasedOn p rooted b) (sym grown.roots) is.1)

-- An operand that is asked about twice is, whatever the action.
pub twice_turned : (p : ProblemState) (action : Option ℕ) (effect : List ℕ) (o : Operand)
    → IsAskedTwice p o → IsAskedTwice (turned_to p action effect) o
twice_turned p action effect o is = record {
  sole = is.sole;
  set = is.set;
  stored = is.stored;
  named = is.named;
}

-- what is known at the start is so in each state that is in each positive operand
pub hold_started : (p : ProblemState) (roots : List Literal) (k : Knowledge)
    → HoldInEach p (marked (width p) roots)
    → k ≡ record { roots = marked (width p) roots; trail = [] } → HoldInEach p (marks_of k)
hold_started p roots k hold e =
    subst (λ (x : Knowledge). HoldInEach p (marks_of x)) (sym e) hold

-- and so is what follows from that
pub hold_then : (p : ProblemState) (old new : Knowledge) (result : Bool)
    → length old.roots ≡ width p → HoldInEach p (marks_of old)
    → IsFollowed (InEach p) old new result → HoldInEach p (marks_of new)
hold_then p old new result wide hold followed = λ state size inside.
    followed.follows state (size ∙ sym wide) inside (hold state size inside)

-- until it shows that there is no such state
pub none_then : (p : ProblemState) (old new : Knowledge)
    → length old.roots ≡ width p → HoldInEach p (marks_of old)
    → IsFollowed (InEach p) old new false → (state : List Bool) → length state ≡ width p
    → InEach p state → ⊥
none_then p old new wide hold followed = λ state size inside.
    followed.broken refl state (size ∙ sym wide) inside (hold state size inside)

-- what is known at the start is for each atom
pub wide_started : (n : ℕ) (roots : List Literal) (k : Knowledge)
    → k ≡ record { roots = marked n roots; trail = [] } → length k.roots ≡ n
wide_started n roots k e = ap (λ (x : Knowledge). length x.roots) e ∙ length-marked n roots

-- so it is where it begins anew
pub started_at : (p : ProblemState) (roots : List Literal) (old new : Knowledge)
    → length old.roots ≡ width p
    → new ≡ record { roots = marked (length old.roots) roots; trail = [] }
    → new ≡ record { roots = marked (width p) roots; trail = [] }
started_at p roots old new wide e =
    e ∙ ap {B = Knowledge} (λ n. record { roots = marked n roots; trail = [] }) wide

-- A problem whose positive operands are all asked about before the action.
module _ (p : ProblemState) (early : All (λ o. o.after ≡ false) p.query.positive) where
  pub never_whole : (k : Knowledge) → ((state : List Bool) → length state ≡ width p
      → InEach p state → ⊥) → IsOpened p O.Never k
  never_whole k none = λ state size inside.
      none state size (each_from_early p p refl refl
      (λ o has. (has, All-contains (λ (o : Operand). o.after ≡ false) p.query.positive o early has))
      (λ o has is. has) state inside)

  pub closed_whole : (k : Knowledge) → HoldInEach p (marks_of k)
      → AreLeft p k (length k.trail) → IsOpened p O.Closed k
  closed_whole k hold left = (
    early_left_from p p refl refl
        (λ o has. (
          has,
          All-contains (λ (o : Operand). o.after ≡ false) p.query.positive o early
              has,
        )) (λ o has is. has) k (length k.trail) left,
    λ state size inside. hold state size (each_from_early p p refl refl
        (λ o has. (
          has,
          All-contains (λ (o : Operand). o.after ≡ false) p.query.positive o early
              has,
        )) (λ o has is. has) state inside),
  )
