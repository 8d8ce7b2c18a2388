-- The positive operands of a query, one after the other.
use Rattle.std.proofs.Common.{◌≡◌, ℕ, ◌+◌, ◌<◌, ◌≤◌, ◌∙◌, ◌||◌, Bool, true, false, List, []}
use Rattle.std.proofs.Common.{◌∷◌, Some, length, get_or, refl, sym, ap, arith, below_more, inl}
use Rattle.std.proofs.Common.{subst}
use Rattle.std.proofs.lemmas.List.{append-nil, get_or_default}
use Rattle.std.specs.List.{All}
use Rattle.hv_task.specs.State.{names_atom, state_of}
use Rattle.hv_sets.specs.declared.literal.Literal.{Literal}
use Rattle.hv_sets.specs.declared.operand.Operand.{Operand}
use Rattle.hv_sets.specs.declared.operand.Which.{Which}
use Rattle.hv_sets.specs.Query.{in_which}
use Rattle.hv_sets.specs.Truth.{in_clause, in_literal, is_same}
use Rattle.hv_propagation.specs.Chase.{IsFollowed}
use Rattle.hv_indexes.specs.Places.{clause_at}
use Rattle.hv_clauses.specs.Store.{tests_of}
use Rattle.hv_clauses.specs.Working.Operands.{clauses_of_state}
use Rattle.hv_propagation.specs.Effect.{late}
use Rattle.hv_propagation.specs.Marks.{over}
use Rattle.hv_clauses.specs.Working.Posed.{InEach, ProblemState, formulas}
use Rattle.hv_clauses.specs.Working.Problem.{AreLeft, InOne, IsLeft, IsLeftOf}
use Rattle.hv_propagation.specs.Trail.{Grows, Knowledge, marks_of}
use Rattle.hv_propagation.specs.Units.{IsSettled, value_of, AreSettled, IsConcluded}
use Rattle.hv_propagation.proofs.Chasing.{followed_then, true_at}
use Rattle.hv_clauses.specs.Working.Laws.{left_grown}
use Rattle.hv_propagation.proofs.Marked.{extends_same}
use Rattle.hv_clauses.proofs.OperandClauses.{clause_of_state_at, length-clauses_of_state}
use Rattle.hv_clauses.proofs.OperandClauses.{start_holds}
use Rattle.hv_propagation.proofs.Trailed.{length-marks}

pub followed_from : (P : List Bool → Type 0) (D : List ℕ → Type 0) (a b : Knowledge) (r : Bool)
    → IsConcluded P D (marks_of a) (marks_of b) r → Grows a b
    → IsFollowed P a b r
followed_from P D a b r one grown = record {
  roots = grown.roots;
  more = grown.more;
  grows = grown.grows;
  follows = λ state size holds agrees. one.follows state (size ∙ sym (length-marks a)) holds agrees;
  broken = λ is state size holds agrees. one.broken is state (size ∙ sym (length-marks a)) holds
      agrees;
}

-- no state is in the empty set
pub followed_empty : (P : List Bool → Type 0) (k : Knowledge) → ((state : List Bool) → P state → ⊥)
    → IsFollowed P k k false
followed_empty P k none = record {
  roots = refl;
  more = ([], sym (append-nil k.trail));
  grows = extends_same (marks_of k);
  follows = λ state size holds agrees. agrees;
  broken = λ is state size holds agrees. none state holds;
}

-- clauses of one literal each, which is true, are settled
pub units_settled : (e m : List ℕ) (clauses : List (List Literal)) (literal_at : ℕ → Literal)
    → ((k : ℕ) → k < length clauses → clause_at clauses k ≡ literal_at k ∷ [])
    → ((k : ℕ) → k < length clauses → value_of e m (literal_at k) ≡ Some true)
    → AreSettled e clauses m
units_settled e m clauses literal_at is true_in = λ k d less.
    let at : get_or clauses k d ≡ literal_at k ∷ [] = get_or_default clauses k d [] less
    ∙ is k less in
    subst (λ c. IsSettled e m c) (sym at) (inl
    (literal_at k, (0, omega arith, refl), true_in k less))

-- the literal of an atom in the initial state is true there
or_false : (b : Bool) → (b || false) ≡ true → b ≡ true
or_false true h = refl
or_false false h = absurd cc

pub start_literal_in : (n : ℕ) (held e : List ℕ) (p : ℕ) (state : List Bool) → p < n
    → length state ≡ n
    → is_same (state_of n held) (over e state) ≡ true
    → in_literal (record { atom = p; positive = names_atom held p }) (over e state) ≡ true
start_literal_in n held e p state less size same =
    let clauses = clauses_of_state n held in
    let long = length-clauses_of_state n held in
    or_false (in_literal (record { atom = p; positive = names_atom held p }) (over e state))
    (ap (λ c. in_clause c (over e state)) (sym (clause_of_state_at n held p less))
    ∙ true_at e clauses p (omega arith) state (start_holds n held e state size same))

-- What is said of what is named, seen through an effect, is said of the operand.
module _ (p : ProblemState) (o : Operand) (which : Which) (is : o.which ≡ which) (seen : List ℕ)
    (through : seen ≡ late p.effect o.after) where
  pub followed_in : (a b : Knowledge) (r : Bool)
      → IsFollowed (λ s. in_which p.task (tests_of (formulas p)) which (over seen s) ≡ true) a b r
      → IsFollowed (InOne p o) a b r
  followed_in a b r one =
      subst (λ w. IsFollowed (λ s. in_which p.task (tests_of (formulas p)) w
      (over (late p.effect o.after) s) ≡ true) a b r) (sym is)
      (subst (λ e. IsFollowed (λ s. in_which p.task (tests_of (formulas p)) which (over e s) ≡ true)
      a b r) through one)

  pub left_in : (k : Knowledge) (from : ℕ) → IsLeft p.task (formulas p) seen which k from
      → IsLeftOf p o k from
  left_in k from left =
      subst (λ w. IsLeft p.task (formulas p) (late p.effect o.after) w k from) (sym is)
      (subst (λ e. IsLeft p.task (formulas p) e which k from) through left)

  -- and the other way round
  pub left_from : (k : Knowledge) (from : ℕ) → IsLeftOf p o k from
      → IsLeft p.task (formulas p) seen which k from
  left_from k from left =
      subst (λ e. IsLeft p.task (formulas p) e which k from) (sym through)
      (subst (λ w. IsLeft p.task (formulas p) (late p.effect o.after) w k from) is left)

-- The positive operands, one after the other, as their list is gone through.
module _ (p : ProblemState) (xs : List Operand) (same : xs ≡ p.query.positive) where
  pub all_seen : (k : Knowledge) (from : ℕ)
      → ((i : ℕ) → i < length xs → (f : Operand) → IsLeftOf p (get_or xs i f) k from)
      → AreLeft p k from
  all_seen k from seen =
      subst (λ os. All (λ o. IsLeftOf p o k from) os) same (λ i f less. seen i less f)

  module _ (i : ℕ) (d : Operand) (within : i < length xs) where
    pub operand_followed : (a b c : Knowledge) (r : Bool) → IsFollowed (InEach p) a b true
        → IsFollowed (InOne p (get_or xs i d)) b c r → IsFollowed (InEach p) a c r
    operand_followed a b c r first second =
        followed_then (InEach p) (InOne p (get_or xs i d)) a b c r
        (λ s size inside. subst (λ os. All (λ o. InOne p o s) os) (sym same) inside i d within)
        first second

    pub operand_left : (k : Knowledge) (from : ℕ) → AreLeft p k from
        → IsLeftOf p (get_or xs i d) k from
    operand_left k from left =
        subst (λ os. All (λ o. IsLeftOf p o k from) os) (sym same) left i d within

    -- what was seen stays seen, and one more is
    pub operand_seen : (old new : Knowledge) (from : ℕ) → Grows old new → from ≤ length old.trail
        → ((k : ℕ) → k < i → (f : Operand) → IsLeftOf p (get_or xs k f) old from)
        → IsLeftOf p (get_or xs i d) new from
        → (k : ℕ) → k < i + 1 → (f : Operand) → IsLeftOf p (get_or xs k f) new from
    operand_seen old new from grown h before here =
        below_more (λ k. (f : Operand) → IsLeftOf p (get_or xs k f) new from) i
        (λ k less f. left_grown p.task (formulas p) (late p.effect (get_or xs k f).after)
        (get_or xs k f).which old new from grown h (before k less f))
        (λ f. subst (λ o. IsLeftOf p o new from) (get_or_default xs i d f within) here)
