-- Why a clause of two literals need not be looked into once one of them is false.
use Rattle.std.proofs.Common.{◌≡◌, ℕ, zero, suc, ◌+◌, ◌<◌, ◌≤◌, ◌∙◌, ◌⊎◌, Bool, true, false}
use Rattle.std.proofs.Common.{List, [], ◌∷◌, Option, None, Some, length, get_or, refl}
use Rattle.std.proofs.Common.{sym, arith, inl, inr, subst}
use Rattle.std.proofs.lemmas.List.{length-set}
use Rattle.std.proofs.lemmas.List.Elements.{All-contains}
use Rattle.std.proofs.lemmas.List.Folds.{Any-from_list_any}
use Rattle.std.specs.List.{Contains}
use Rattle.std.specs.Prelude.{slice_set}
use Rattle.hv_sets.specs.declared.literal.Literal.{Literal}
use Rattle.hv_sets.specs.Cubes.{SpeakBelow, opposite}
use Rattle.hv_sets.specs.Truth.{in_clause, in_clauses, in_literal}
use Rattle.hv_propagation.specs.Chase.{AreKept, IsFollowed, IsKept}
use Rattle.hv_indexes.specs.Places.{clause_at}
use Rattle.hv_indexes.specs.Implied.{IsPair}
use Rattle.hv_propagation.specs.Marks.{known, over, Agrees, mark_for}
use Rattle.hv_propagation.specs.Trail.{Grows, Knowledge, marks_of, written}
use Rattle.hv_propagation.specs.Units.{IsSettled, value_of, IsConcluded}
use Rattle.hv_propagation.proofs.Chasing.{followed_same, kept_beyond, true_at}
use Rattle.hv_propagation.specs.Working.Laws.{written_or, known-set_same}
use Rattle.hv_propagation.proofs.Chasing.{kept_earlier}
use Rattle.hv_propagation.proofs.Marked.{value_false, value_none}
use Rattle.hv_propagation.proofs.Rounds.{never}
use Rattle.hv_propagation.proofs.Trailed.{length-marks}

-- one literal of two is false, so what the clause says is that the other one is true
pub pair_followed : (e : List ℕ) (old new : Knowledge) (own other : Literal) (clause : List Literal)
    (result : Bool) → SpeakBelow (length old.roots) clause
    → IsPair clause own other → value_of e (marks_of old) own ≡ Some false
    → IsConcluded (λ s. in_literal other (over e s) ≡ true)
    (λ m. value_of e m other ≡ Some true) (marks_of old) (marks_of new) result → Grows old new
    → IsFollowed (λ s. in_clause clause (over e s) ≡ true) old new result
pair_followed e old new own other clause result below pair out concluded grown =
    let size = length-marks old in
    record {
      roots = grown.roots;
      more = grown.more;
      grows = grown.grows;
      follows = λ s long is agrees. concluded.follows s (long ∙ sym size) (rest s long is agrees)
          agrees;
      broken = λ no s long is agrees. concluded.broken no s (long ∙ sym size)
          (rest s long is agrees) agrees;
    }
  where
    rest : (s : List Bool) → length s ≡ length old.roots → in_clause clause (over e s) ≡ true
        → Agrees (marks_of old) s
        → in_literal other (over e s) ≡ true
    rest s long is agrees =
        let some = Any-from_list_any (λ c. in_literal c (over e s)) clause is in
        let at : Contains clause some.1 = (some.0, some.2, some.3) in
        let low : own.atom < length old.roots = All-contains
        (λ c. c.atom < length old.roots) clause own below pair.has_first in
        elim (All-contains (λ c. (c ≡ own) ⊎ (c ≡ other)) clause some.1 pair.only at) [
          | inl first ↦
              let no : in_literal own (over e s) ≡ true = subst
              (λ c. in_literal c (over e s) ≡ true) first some.4 in
              never (sym no ∙ value_false e (marks_of old) own s out agrees (omega (arith, long)))
          | inr second ↦ subst (λ c. in_literal c (over e s) ≡ true) second some.4
        ]

pub pair_settled : (e m : List ℕ) (own other : Literal) (clause : List Literal)
    → IsPair clause own other → value_of e m other ≡ Some true
    → IsSettled e m clause
pair_settled e m own other clause pair is = inl (other, pair.has_second, is)

-- something is known of the atom of each literal of a trail
written_stays : (ls : List Literal) (m : List ℕ) (p : ℕ) → (known m p ≡ None → ⊥)
    → known (written ls m) p ≡ None → ⊥
written_stays ls m p some none =
    elim (written_or ls m p) [
      | inl same ↦ some (sym same ∙ none)
      | inr found ↦ let no = sym found.3 ∙ none in absurd cc
    ]

written_known : (ls : List Literal) (m : List ℕ) (k : ℕ) (d : Literal) → k < length ls
    → (get_or ls k d).atom < length m
    → known (written ls m) (get_or ls k d).atom ≡ None → ⊥
written_known [] m k d less below = absurd (omega arith)
written_known (l ∷ ls) m zero d less below =
    written_stays ls (slice_set m l.atom (mark_for l.positive)) l.atom
    (λ none. let no = sym (known-set_same m l.atom l.positive below) ∙ none in absurd cc)
written_known (l ∷ ls) m (suc k) d less below =
    written_known ls (slice_set m l.atom (mark_for l.positive)) k d (omega arith)
    (let e = length-set m l.atom (mark_for l.positive) in omega arith)

-- where the opposite of the next literal of the trail isn't false, its clauses are true
pub kept_true : (e : List ℕ) (clauses : List (List Literal)) (m : Knowledge) (from : ℕ)
    (literal : Literal)
    → from < length m.trail → get_or m.trail from literal ≡ literal → literal.atom < length m.roots
    → AreKept e clauses m from
    → (value_of e (marks_of m) (opposite literal) ≡ Some false → ⊥) → AreKept e clauses m (from + 1)
kept_true e clauses m from literal less at below kept out =
    kept_beyond e clauses m from literal less at kept
    (λ place within has apart. inl (
      opposite literal,
      has,
      is
          (value_of e (marks_of m) (opposite literal)) refl,
    ))
  where
    is : (v : Option Bool) → value_of e (marks_of m) (opposite literal) ≡ v → v ≡ Some true
    is (Some true) same = refl
    is (Some false) same = absurd (out same)
    is None same =
        let none = (value_none e (marks_of m) (opposite literal) same).1 in
        absurd (written_known m.trail m.roots from literal less
        (subst (λ (l : Literal). l.atom < length m.roots) (sym at) below)
        (subst (λ (l : Literal). known (marks_of m) l.atom ≡ None) (sym at) none))

-- what follows from the clause at a place follows from all
pub one_followed : (e : List ℕ) (clauses : List (List Literal)) (place : ℕ) (old new : Knowledge)
    (result : Bool) → place < length clauses
    → IsFollowed (λ s. in_clause (clause_at clauses place) (over e s) ≡ true) old new result
    → IsFollowed (λ s. in_clauses clauses (over e s) ≡ true) old new result
one_followed e clauses place old new result less one =
    followed_same (λ s. in_clause (clause_at clauses place) (over e s) ≡ true)
    (λ s. in_clauses clauses (over e s) ≡ true) old new result
    (λ state size holds. true_at e clauses place less state holds) one

-- what comes from a later place on comes from an earlier one on
pub kept_sooner : (e : List ℕ) (clause : List Literal) (k : Knowledge) (from later : ℕ)
    → from ≤ later → later ≤ length k.trail
    → IsKept e clause k later → IsKept e clause k from
kept_sooner e clause k from later h within kept = kept_earlier e (clause ∷ []) k from later h within
    by 0 (omega arith)
  where
    by : AreKept e (clause ∷ []) k later
    by zero less = kept
    by (suc place) less = absurd (omega arith)
