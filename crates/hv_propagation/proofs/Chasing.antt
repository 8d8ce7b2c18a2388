-- Why it is enough to look again at the clauses that have the opposite of a literal of the trail.
use Rattle.std.proofs.Common.{◌≡◌, ℕ, zero, suc, ◌+◌, ◌<◌, ◌≤◌, ◌∙◌, ◌⊎◌, Bool, true, false, not}
use Rattle.std.proofs.Common.{List, [], ◌∷◌, ◌++◌, None, Some, length, get_or, drop}
use Rattle.std.proofs.Common.{take, refl, sym, ap, ap₂, arith, inl, inr, subst, append_assoc, ◌-◌}
use Rattle.std.proofs.Common.{◌==◌, ◌&&◌}
use Rattle.std.proofs.lemmas.List.{get_or-drop, length-drop, append-nil, drop_more, take_at}
use Rattle.std.proofs.lemmas.List.{get_or_append_left, length-append}
use Rattle.std.proofs.lemmas.List.Elements.{All-contains}
use Rattle.std.proofs.lemmas.List.Folds.{Any-from_list_any, list_any_none}
use Rattle.std.proofs.lemmas.Option.{get_or_from_slice_get}
use Rattle.std.proofs.Math.Bool.{beq}
use Rattle.std.specs.List.{All, Contains, list_any}
use Rattle.std.specs.Prelude.{slice_get, slice_set}
use Rattle.hv_sets.specs.declared.literal.Literal.{Literal}
use Rattle.hv_sets.specs.Cubes.{SpeakBelow, opposite}
use Rattle.hv_sets.specs.Truth.{in_clause, in_clauses, in_literal}
use Rattle.hv_indexes.specs.Rows.{IsRow}
use Rattle.hv_indexes.specs.Signed.{StandsAs}
use Rattle.hv_propagation.specs.Chase.{AreKept, IsApart, IsFollowed, IsKept}
use Rattle.hv_indexes.specs.Places.{clause_at}
use Rattle.hv_propagation.specs.Clauses.{AreClauses}
use Rattle.hv_propagation.proofs.Holding.{has_literal-Decides}
use Rattle.hv_propagation.specs.Marks.{known, over, mark_for}
use Rattle.hv_propagation.specs.Trail.{Grows, Knowledge, marks_of}
use Rattle.hv_propagation.specs.Units.{IsSettled, value_of, AreFalse, AreSettled}
use Rattle.hv_propagation.proofs.Effects.{list_all_get}
use Rattle.hv_propagation.specs.Working.Laws.{known-set_other, known-set_same, value_marked}
use Rattle.hv_propagation.proofs.Marked.{extends_same, extends_then, extends_write, value_false}
use Rattle.hv_propagation.proofs.Marked.{value_none}
use Rattle.hv_propagation.proofs.Rounds.{never}
use Rattle.hv_propagation.proofs.Steps.{IsMarked, follows_write, grows_write}
use Rattle.hv_propagation.proofs.Trailed.{length-marks, written-push}

-- a clause has the literal or not
has_or : (clause : List Literal) (l : Literal) → Contains clause l ⊎ (Contains clause l → ⊥)
has_or clause l = by (list_any (λ (k : Literal). (k.atom == l.atom) && beq k.positive l.positive)
    clause) refl
  where
    by : (b : Bool)
        → list_any (λ (k : Literal). (k.atom == l.atom) && beq k.positive l.positive) clause ≡ b
        → Contains clause l ⊎ (Contains clause l → ⊥)
    by true e = inl ((has_literal-Decides clause l.atom l.positive).0 e)
    by false e = inr (λ has. let is = (has_literal-Decides clause l.atom l.positive).1 has in
        never (sym is ∙ e))

-- once this is so of each clause with the opposite of the next literal of the trail, what is left
-- begins behind it
pub kept_beyond : (e : List ℕ) (clauses : List (List Literal)) (m : Knowledge) (from : ℕ)
    (literal : Literal)
    → from < length m.trail → get_or m.trail from literal ≡ literal → AreKept e clauses m from
    → ((place : ℕ) → place < length clauses → Contains (clause_at clauses place) (opposite literal)
    → IsKept e (clause_at clauses place) m (from + 1))
    → AreKept e clauses m (from + 1)
kept_beyond e clauses m from literal h at kept seen place less =
    elim (has_or (clause_at clauses place) (opposite literal)) [
      | inl found ↦ seen place less found
      | inr none ↦ λ apart.
          let split : drop from m.trail ≡ literal ∷ drop (from + 1) m.trail =
          drop_more m.trail from literal h ∙ ap (λ y. y ∷ drop (from + 1) m.trail) at in
          kept place less (λ x has within. either x none apart within
          (subst (λ ls. Contains ls x) split has))
    ]
  where
    either : (x : Literal) → (Contains (clause_at clauses place) (opposite literal) → ⊥)
        → IsApart m.trail (from + 1) (clause_at clauses place)
        → Contains (clause_at clauses place) (opposite x)
        → Contains (literal ∷ drop (from + 1) m.trail) x → ⊥
    either x none apart within has = by has.0 has.1 has.2
      where
        by : (k : ℕ) → k < length (literal ∷ drop (from + 1) m.trail)
            → get_or (literal ∷ drop (from + 1) m.trail) k x ≡ x → ⊥
        by zero less is = none (subst (λ (y : Literal). Contains (clause_at clauses place)
            (opposite y)) (sym is) within)
        by (suc k) less is = apart x (k, omega arith, is) within

-- once each clause with the opposite of the next literal of the trail was looked at, what is left
-- begins behind it
pub kept_next : (e : List ℕ) (clauses : List (List Literal)) (places : List ℕ)
    (m : Knowledge) (from : ℕ) (literal : Literal)
    → from < length m.trail → get_or m.trail from literal ≡ literal → AreKept e clauses m from
    → IsRow (StandsAs (not literal.positive) clauses) literal.atom places
    → ((place : ℕ) → Contains places place → IsKept e (clause_at clauses place) m (from + 1))
    → AreKept e clauses m (from + 1)
kept_next e clauses places m from literal h at kept row seen =
    kept_beyond e clauses m from literal h at kept
    (λ place less found. seen place
    ((row.has place).1 (record { among = less; has = found })))

-- parts of what follows, joined
pub followed_none : (Holds : List Bool → Type 0) (k : Knowledge) → IsFollowed Holds k k true
followed_none Holds k = record {
  roots = refl;
  more = ([], sym (append-nil k.trail));
  grows = extends_same (marks_of k);
  follows = λ state size holds agrees. agrees;
  broken = λ is. never is;
}

pub followed_then : (P Q : List Bool → Type 0) (a b c : Knowledge) (result : Bool)
    → ((state : List Bool) → length state ≡ length a.roots → P state → Q state)
    → IsFollowed P a b true → IsFollowed Q b c result → IsFollowed P a c result
followed_then P Q a b c result weaker first second = record {
  roots = second.roots ∙ first.roots;
  more = (
    first.more.0 ++ second.more.0,
    second.more.1 ∙ (ap (λ ls. ls ++ second.more.0) first.more.1
        ∙ append_assoc a.trail first.more.0 second.more.0),
  );
  grows = extends_then (marks_of a) (marks_of b) (marks_of c) first.grows second.grows;
  follows = λ state size holds agrees.
      second.follows state (size ∙ sym (ap length first.roots)) (weaker state size holds)
      (first.follows state size holds agrees);
  broken = λ is state size holds agrees.
      second.broken is state (size ∙ sym (ap length first.roots)) (weaker state size holds)
      (first.follows state size holds agrees);
}

-- clauses that are all true are true at each place
pub true_at : (e : List ℕ) (clauses : List (List Literal)) (place : ℕ) → place < length clauses
    → (state : List Bool)
    → in_clauses clauses (over e state) ≡ true
    → in_clause (clause_at clauses place) (over e state) ≡ true
true_at e clauses place less state holds = list_all_get
    (λ c. in_clause c (over e state)) clauses place [] holds less

-- single steps
pub marked_more : (k : Knowledge) (l : Literal) → l.atom < length k.roots
    → IsMarked l (marks_of k) (marks_of (record { roots = k.roots; trail = k.trail ++ l ∷ [] }))
marked_more k l h =
    let size = length-marks k in
    let more : marks_of (record { roots = k.roots; trail = k.trail ++ l ∷ [] })
    ≡ slice_set (marks_of k) l.atom (mark_for l.positive) =
    written-push k.trail l k.roots in
    let wide = length-marks (record { roots = k.roots; trail = k.trail ++ l ∷ [] }) in
    record {
      size = wide ∙ sym size;
      here = ap (λ m. known m l.atom) more ∙ known-set_same (marks_of k) l.atom l.positive
          (omega arith);
      others = λ p other. ap (λ m. known m p) more
          ∙ known-set_other (marks_of k) l.atom p l.positive other;
    }

pub step_followed : (e : List ℕ) (k : Knowledge) (l : Literal) (clause : List Literal)
    → SpeakBelow (length k.roots) clause → Contains clause l
    → value_of e (marks_of k) l ≡ None → All
    (λ c. (c ≡ l) ⊎ (value_of e (marks_of k) c ≡ Some false)) clause
    → IsFollowed (λ s. in_clause clause (over e s) ≡ true) k
    (record { roots = k.roots; trail = k.trail ++ l ∷ [] }) true
step_followed e k l clause below has nothing all =
    let size = length-marks k in
    let within : l.atom < length k.roots = All-contains
    (λ c. c.atom < length k.roots) clause l below has in
    let new : Knowledge = record { roots = k.roots; trail = k.trail ++ l ∷ [] } in
    let more = marked_more k l within in
    record {
      roots = refl;
      more = (l ∷ [], refl);
      grows = grows_write e (marks_of k) l (marks_of new) nothing more;
      follows = λ state is holds agrees.
          let some = Any-from_list_any (λ c. in_literal c (over e state)) clause holds in
          let at : Contains clause some.1 = (some.0, some.2, some.3) in
          let low : some.1.atom < length k.roots = All-contains
          (λ c. c.atom < length k.roots) clause some.1 below at in
          elim (All-contains (λ c. (c ≡ l) ⊎ (value_of e (marks_of k) c ≡ Some false)) clause some.1
          all at) [
            | inl same ↦
                follows_write e (marks_of k) l (marks_of new) nothing more (omega arith) state
                (is ∙ sym size)
                (ap (λ c. in_literal c (over e state)) (sym same) ∙ some.4) agrees
            | inr out ↦ never (sym some.4 ∙ value_false e (marks_of k) some.1 state out agrees
                (omega (arith, is)))
          ];
      broken = λ is. never is;
    }

pub step_settled : (e : List ℕ) (k : Knowledge) (l : Literal) (clause : List Literal)
    → SpeakBelow (length k.roots) clause → Contains clause l
    → value_of e (marks_of k) l ≡ None → IsSettled e
    (marks_of (record { roots = k.roots; trail = k.trail ++ l ∷ [] })) clause
step_settled e k l clause below has nothing =
    let within : l.atom < length k.roots = All-contains
    (λ c. c.atom < length k.roots) clause l below has in
    inl (
      l,
      has,
      value_marked e _ l (value_none e (marks_of k) l nothing).0
          (marked_more k l within).here,
    )

pub broken_followed : (e : List ℕ) (k : Knowledge) (clause : List Literal)
    → SpeakBelow (length k.roots) clause → AreFalse e clause (marks_of k)
    → IsFollowed (λ s. in_clause clause (over e s) ≡ true) k k false
broken_followed e k clause below all = record {
  roots = refl;
  more = ([], sym (append-nil k.trail));
  grows = extends_same (marks_of k);
  follows = λ state is holds agrees. agrees;
  broken = λ is state long holds agrees.
      never (sym holds
      ∙ list_any_none (λ l. in_literal l (over e state)) clause
      (λ j d h. value_false e (marks_of k) (get_or clause j d) state (all j d h) agrees
      (subst (λ n. (get_or clause j d).atom < n) (sym long) (below j d h))));
}

pub longer : (Holds : List Bool → Type 0) (a b : Knowledge) (result : Bool)
    → IsFollowed Holds a b result → length a.trail ≤ length b.trail
longer Holds a b result followed = omega
    (arith, ap length followed.more.1, length-append a.trail followed.more.0)

-- The clause at a place, as calls give it.
module _ (e : List ℕ) (clauses : List (List Literal)) (place : ℕ) (clause : List Literal)
    (less : place < length clauses)
    (read : slice_get clauses place ≡ Some clause) where
  pub clause_is : clause ≡ clause_at clauses place
  clause_is = sym (get_or_from_slice_get clauses place clause [] read)

  pub clause_below : (n m : ℕ) → AreClauses n clauses → m ≡ n → SpeakBelow m clause
  clause_below n m all same = subst (λ k. SpeakBelow k clause) (sym same)
      (subst (λ c. SpeakBelow n c) (sym clause_is) (all place [] less))

  pub clause_followed : (a b c : Knowledge) (result : Bool)
      → IsFollowed (λ s. in_clauses clauses (over e s) ≡ true) a b true
      → IsFollowed (λ s. in_clause clause (over e s) ≡ true) b c result
      → IsFollowed (λ s. in_clauses clauses (over e s) ≡ true) a c result
  clause_followed a b c result first second =
      followed_then (λ s. in_clauses clauses (over e s) ≡ true)
      (λ s. in_clause clause (over e s) ≡ true) a b c result
      (λ state size holds. ap (λ c. in_clause c (over e state)) clause_is
      ∙ true_at e clauses place less state holds) first second

  pub clause_kept : (k : Knowledge) (from : ℕ) → IsSettled e (marks_of k) clause
      → IsKept e (clause_at clauses place) k from
  clause_kept k from settled = λ apart. subst (λ c. IsSettled e (marks_of k) c) clause_is settled

-- what a trail has at a place it has there while it grows
pub read_on : (old new more : List Literal) (from : ℕ) (l : Literal) → from < length old
    → new ≡ old ++ more → slice_get old from ≡ Some l
    → get_or new from l ≡ l
read_on old new more from l less e read =
    ap (λ ls. get_or ls from l) e ∙ (get_or_append_left old more l from less
    ∙ get_or_from_slice_get old from l l read)

-- a trial that is taken back
pub undone_same : (old mid new : Knowledge) → Grows old mid
    → new ≡ record { roots = mid.roots; trail = take (length old.trail) mid.trail } → new ≡ old
undone_same old mid new grown e =
    e ∙ ap₂ (λ (b : List ℕ) (ls : List Literal). let k : Knowledge = record
    { roots = b; trail = ls } in k) grown.roots
    (ap (take (length old.trail)) grown.more.1
    ∙ take_at old.trail grown.more.0 (length old.trail) refl)

pub grows_then : (a b c : Knowledge) → Grows a b → Grows b c → Grows a c
grows_then a b c first second = record {
  roots = second.roots ∙ first.roots;
  more = (
    first.more.0 ++ second.more.0,
    second.more.1 ∙ (ap (λ ls. ls ++ second.more.0) first.more.1
        ∙ append_assoc a.trail first.more.0 second.more.0),
  );
  grows = extends_then (marks_of a) (marks_of b) (marks_of c) first.grows second.grows;
}

pub grows_same : (k : Knowledge) → Grows k k
grows_same k = record {
  roots = refl;
  more = ([], sym (append-nil k.trail));
  grows = extends_same
      (marks_of k);
}

-- one literal more
pub grown_more : (k : Knowledge) (l : Literal) → l.atom < length k.roots
    → known (marks_of k) l.atom ≡ None
    → Grows k (record { roots = k.roots; trail = k.trail ++ l ∷ [] })
grown_more k l less none = record {
  roots = refl;
  more = (l ∷ [], refl);
  grows = extends_write (marks_of k) (marks_of
      (record { roots = k.roots; trail = k.trail ++ l ∷ [] })) l.atom none
      (marked_more k l less).others;
}

pub grown_by : (P : List Bool → Type 0) (old new : Knowledge) (result : Bool)
    → IsFollowed P old new result → Grows old new
grown_by P old new result followed = record
    { roots = followed.roots; more = followed.more; grows = followed.grows }

-- the same under other words
pub followed_same : (P Q : List Bool → Type 0) (old new : Knowledge) (result : Bool)
    → ((state : List Bool) → length state ≡ length old.roots → Q state → P state)
    → IsFollowed P old new result → IsFollowed Q old new result
followed_same P Q old new result back one = record {
  roots = one.roots;
  more = one.more;
  grows = one.grows;
  follows = λ state size holds agrees. one.follows state size (back state size holds) agrees;
  broken = λ is state size holds agrees. one.broken is state size (back state size holds) agrees;
}

-- where all clauses are settled, nothing is left to follow up
pub kept_settled : (e : List ℕ) (clauses : List (List Literal)) (k : Knowledge) (from : ℕ)
    → AreSettled e clauses (marks_of k) → AreKept e clauses k from
kept_settled e clauses k from settled = λ place less apart. settled place [] less

-- what comes from a later place on comes from an earlier one on
pub kept_earlier : (e : List ℕ) (clauses : List (List Literal)) (k : Knowledge) (from later : ℕ)
    → from ≤ later → later ≤ length k.trail
    → AreKept e clauses k later → AreKept e clauses k from
kept_earlier e clauses k from later h within kept = λ place less apart. kept place less
    (λ x has at. apart x (drop_earlier x has) at)
  where
    drop_earlier : (x : Literal) → Contains (drop later k.trail) x → Contains (drop from k.trail) x
    drop_earlier x has =
        let a = length-drop later k.trail in
        let b = length-drop from k.trail in
        let at : from + (later - from + has.0) ≡ later + has.0 = omega arith in (
          later - from + has.0,
          omega (arith, has.1),
          get_or-drop from k.trail (later - from + has.0) x
              ∙ (ap (λ j. get_or k.trail j x) at
              ∙ (sym (get_or-drop later k.trail has.0 x) ∙ has.2)),
        )
