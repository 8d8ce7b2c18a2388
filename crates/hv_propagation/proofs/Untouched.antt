-- What follows from clauses alone, beside an effect.
use Rattle.std.proofs.Common.{◌≡◌, ℕ, suc, ◌<◌, ◌∙◌, ◌⊎◌, Bool, true, false, not, cond, List, []}
use Rattle.std.proofs.Common.{◌∷◌, Option, None, Some, length, replicate, refl, sym, ap, ap₂, arith}
use Rattle.std.proofs.Common.{inl, inr}
use Rattle.std.specs.Prelude.{slice_set}
use Rattle.std.proofs.lemmas.Bool.{cases_eq, cases_lt}
use Rattle.std.proofs.lemmas.List.{length-set}
use Rattle.std.proofs.lemmas.List.Elements.{All-cons, All-contains, All-nil}
use Rattle.std.specs.List.{All, Contains}
use Rattle.std.specs.Option.{option_map}
use Rattle.hv_task.specs.State.{has_atom}
use Rattle.hv_sets.specs.declared.literal.Literal.{Literal}
use Rattle.hv_sets.specs.Truth.{in_clauses}
use Rattle.hv_propagation.specs.Roots.{AreSettledBut, put_unless, untouched}
use Rattle.hv_propagation.specs.Chase.{AreKept, IsFollowed, IsKept}
use Rattle.hv_propagation.specs.Forced.{AreForced, AreNever}
use Rattle.hv_indexes.specs.Places.{clause_at}
use Rattle.hv_propagation.specs.Marks.{known, over, Agrees, mark_for}
use Rattle.hv_propagation.specs.Trail.{Knowledge, marked, written}
use Rattle.hv_propagation.specs.Units.{first_of, value_of, AreSettled}
use Rattle.hv_propagation.proofs.Chasing.{followed_none}
use Rattle.hv_propagation.specs.Working.Laws.{kept_on, known_past, known-set_other, known-set_same}
use Rattle.hv_propagation.proofs.Marked.{has_atom-over_none, has_atom-over_some}
use Rattle.hv_propagation.proofs.Marked.{known_within, length-over, through_some, value_some}
use Rattle.hv_propagation.proofs.Trailed.{known-replicate}
use Rattle.hv_propagation.proofs.Trailed.{length-marked}

pub untouched_nil : (ls : List Literal) → untouched [] ls ≡ ls
untouched_nil [] = refl
untouched_nil (l ∷ ls) = ap (λ xs. l ∷ xs) (untouched_nil ls)

-- no literals say nothing
pub none_untouched : (e : List ℕ) (ls : List Literal) (atoms p : ℕ) → length ls ≡ 0
    → known (marked atoms (untouched e ls)) p ≡ None
none_untouched e [] atoms p h = known-replicate atoms p
none_untouched e (l ∷ ls) atoms p h = absurd (omega arith)

-- nothing is said of what the effect touches
written_touched : (e : List ℕ) (ls : List Literal) (m : List ℕ) (p : ℕ) (b : Bool)
    → known e p ≡ Some b
    → known (written (untouched e ls) m) p ≡ known m p
written_touched e [] m p b h = refl
written_touched e (l ∷ ls) m p b h = by (known e l.atom) refl (λ n. written_touched e ls n p b h)
  where
    by : (o : Option Bool) → known e l.atom ≡ o
        → ((n : List ℕ) → known (written (untouched e ls) n) p ≡ known n p)
        → known (written (put_unless o l (untouched e ls)) m) p ≡ known m p
    by None none rest =
        rest (slice_set m l.atom (mark_for l.positive))
        ∙ known-set_other m l.atom p l.positive
        (λ same. let clash : Some b ≡ None = sym h ∙ (ap (known e) same ∙ none) in absurd cc)
    by (Some v) some rest = rest m

set_both : (m k : List ℕ) (q p : ℕ) (b : Bool) → length m ≡ length k → known m p ≡ known k p
    → known (slice_set m q (mark_for b)) p ≡ known (slice_set k q (mark_for b)) p
set_both m k q p b size same =
    elim (cases_eq p q) [
      | inr other ↦ known-set_other m q p b other ∙ (same ∙ sym (known-set_other k q p b other))
      | inl here ↦
          let x = length-set m q (mark_for b) in
          let y = length-set k q (mark_for b) in
          elim (cases_lt q (length m)) [
            | inl less ↦
                ap (known _) here ∙ (known-set_same m q b less
                ∙ (sym (known-set_same k q b (omega arith)) ∙ sym (ap (known _) here)))
            | inr past ↦ known_past _ p (omega arith) ∙ sym (known_past _ p (omega arith))
          ]
    ]

-- and of other atoms the same is said
written_untouched : (e : List ℕ) (ls : List Literal) (m k : List ℕ) (p : ℕ) → known e p ≡ None
    → length m ≡ length k → known m p ≡ known k p
    → known (written (untouched e ls) m) p ≡ known (written ls k) p
written_untouched e [] m k p h size same = same
written_untouched e (l ∷ ls) m k p h size same = by (known e l.atom) refl
    (λ x y. written_untouched e ls x y p h)
  where
    by : (o : Option Bool) → known e l.atom ≡ o
        → ((x y : List ℕ) → length x ≡ length y → known x p ≡ known y p
        → known (written (untouched e ls) x) p ≡ known (written ls y) p)
        → known (written (put_unless o l (untouched e ls)) m) p
        ≡ known (written ls (slice_set k l.atom (mark_for l.positive))) p
    by None none rest =
        let a = length-set m l.atom (mark_for l.positive) in
        let b = length-set k l.atom (mark_for l.positive) in
        rest (slice_set m l.atom (mark_for l.positive)) (slice_set k l.atom (mark_for l.positive))
        (omega arith)
        (set_both m k l.atom p l.positive size same)
    by (Some v) some rest =
        let b = length-set k l.atom (mark_for l.positive) in
        rest m (slice_set k l.atom (mark_for l.positive)) (omega arith)
        (same ∙ sym (known-set_other k l.atom p l.positive
        (λ is. let clash : None ≡ Some v = sym h ∙ (ap (known e) is ∙ some) in absurd cc)))

module _ (e : List ℕ) (n : ℕ) (ls : List Literal) where
  pub said_beside : (p : ℕ) → known e p ≡ None
      → known (marked n (untouched e ls)) p ≡ known (marked n ls) p
  said_beside p h = written_untouched e ls (replicate n 0) (replicate n 0) p h refl refl

  pub unsaid : (p : ℕ) (b : Bool) → known e p ≡ Some b → known (marked n (untouched e ls)) p ≡ None
  unsaid p b h = written_touched e ls (replicate n 0) p b h ∙ known-replicate n p

  -- what the state after agrees with, the state before does beside the effect
  pub agrees_beside : (state : List Bool) → Agrees (marked n ls) (over e state)
      → Agrees (marked n (untouched e ls)) state
  agrees_beside state agrees p v h = by (known e p) refl
    where
      by : (o : Option Bool) → known e p ≡ o → has_atom state p ≡ v
      by None alone = sym (has_atom-over_none e state p alone)
          ∙ agrees p v (sym (said_beside p alone) ∙ h)
      by (Some b) some = let clash : None ≡ Some v = sym (unsaid p b some) ∙ h in absurd cc

  -- and a settled clause stays settled, unless the effect makes a literal of it false
  pub settled_but : (clauses : List (List Literal)) → AreSettled [] clauses (marked n ls)
      → AreSettledBut e clauses (marked n (untouched e ls))
  settled_but clauses settled place less held =
      elim (touched_or e (clause_at clauses place)) [
        | inr some ↦ inl (
          some.0,
          some.1,
          true_one some.0 some.2 some.3
              (All-contains (λ l. value_of e [] l ≡ Some false → ⊥) (clause_at clauses place) some.0
              held some.1),
        )
        | inl alone ↦
            elim (settled place [] less) [
              | inl at ↦ inl (at.0, at.1, same (clause_at clauses place) alone at.0 at.1 ∙ at.2)
              | inr two ↦ inr (
                two.0,
                two.1,
                two.2,
                two.3,
                two.4,
                same (clause_at clauses place)
                    alone two.0 two.2 ∙ two.5,
                same (clause_at clauses place) alone two.1 two.3
                    ∙ two.6,
              )
            ]
      ]
    where
      touched_or : (e : List ℕ) (clause : List Literal) → All (λ l. known e l.atom ≡ None) clause
          ⊎ ((l : Literal) × Contains clause l × (v : Bool) × (known e l.atom ≡ Some v))
      touched_or e [] = inl (All-nil (λ (l : Literal). known e l.atom ≡ None))
      touched_or e (l ∷ ls) = by (known e l.atom) refl (touched_or e ls)
        where
          by : (o : Option Bool) → known e l.atom ≡ o
              → (All (λ l. known e l.atom ≡ None) ls
              ⊎ ((l : Literal) × Contains ls l × (v : Bool) × (known e l.atom ≡ Some v)))
              → All (λ l. known e l.atom ≡ None) (l ∷ ls)
              ⊎ ((k : Literal) × Contains (l ∷ ls) k × (v : Bool) × (known e k.atom ≡ Some v))
          by (Some v) some rest = inr (l, (0, omega arith, refl), v, some)
          by None none rest =
              elim rest [
                | inl all ↦ inl (All-cons (λ (l : Literal). known e l.atom ≡ None) l ls none all)
                | inr found ↦ inr (
                  found.0,
                  (suc found.1.0, omega (arith, found.1.1), found.1.2),
                  found.2,
                  found.3,
                )
              ]

      true_one : (l : Literal) (v : Bool) → known e l.atom ≡ Some v
          → (value_of e [] l ≡ Some false → ⊥)
          → value_of e (marked n (untouched e ls)) l ≡ Some true
      true_one l v h not_false =
          ap (λ o. option_map (λ value. cond l.positive value (not value))
          (first_of o (known (marked n (untouched e ls)) l.atom))) h
          ∙ ap (λ (b : Bool). Some b)
          (only (cond l.positive v (not v))
          (λ is. not_false (ap (λ o. option_map
          (λ value. cond l.positive value (not value)) (first_of o (known [] l.atom))) h
          ∙ ap (λ (b : Bool). Some b) is)))
        where
          only : (b : Bool) → (b ≡ false → ⊥) → b ≡ true
          only true h = refl
          only false h = absurd (h refl)

      same : (clause : List Literal) → All (λ l. known e l.atom ≡ None) clause → (l : Literal)
          → Contains clause l
          → value_of e (marked n (untouched e ls)) l ≡ value_of [] (marked n ls) l
      same clause alone l has =
          let none : known e l.atom ≡ None = All-contains
          (λ l. known e l.atom ≡ None) clause l alone has in
          ap₂ (λ o q. option_map (λ value. cond l.positive value (not value)) (first_of o q)) none
          (said_beside l.atom none)

-- the effect gives no literal of a clause this value, or it gives it to one
is_or : (o : Option Bool) (v : Bool) → (o ≡ Some v) ⊎ (o ≡ Some v → ⊥)
is_or None v = inr (λ e. absurd cc)
is_or (Some true) true = inl refl
is_or (Some false) false = inl refl
is_or (Some true) false = inr (λ e. absurd cc)
is_or (Some false) true = inr (λ e. absurd cc)

pub turned_or : (effect : List ℕ) (v : Bool) (clause : List Literal)
    → All (λ l. value_of effect [] l ≡ Some v → ⊥) clause
    ⊎ ((l : Literal) × Contains clause l × (value_of effect [] l ≡ Some v))
turned_or effect v [] = inl (All-nil (λ (l : Literal). value_of effect [] l ≡ Some v → ⊥))
turned_or effect v (l ∷ ls) =
    elim (is_or (value_of effect [] l) v) [
      | inl is ↦ inr (l, (0, omega arith, refl), is)
      | inr other ↦
          elim (turned_or effect v ls) [
            | inl all ↦ inl (All-cons (λ (l : Literal). value_of effect [] l ≡ Some v → ⊥) l ls
                other all)
            | inr found ↦ inr (
              found.0,
              (suc found.1.0, omega (arith, found.1.1), found.1.2),
              found.2,
            )
          ]
    ]

-- what an atom is made of whose literal the effect gives this value
pub made_value : (effect : List ℕ) (l : Literal) (b : Bool) → value_of effect [] l ≡ Some b
    → (v : Bool) × (known effect l.atom ≡ Some v) × (cond l.positive v (not v) ≡ b)
made_value effect l b h =
    let parts = value_some effect [] l b h in
    elim (through_some effect [] l.atom parts.0 parts.1) [
      | inl at ↦ (parts.0, at, parts.2)
      | inr both ↦ let none = known_past [] l.atom (omega arith) in absurd cc
    ]

-- once each clause was looked at of which the effect makes a literal false, nothing is left but
-- what comes from the trail
pub turned_kept : (e : List ℕ) (clauses : List (List Literal)) (k : Knowledge)
    → AreSettledBut e clauses k.roots
    → ((v : Bool) (place : ℕ) (l : Literal) → place < length clauses
    → Contains (clause_at clauses place) l → known e l.atom ≡ Some v
    → l.positive ≡ not v → IsKept e (clause_at clauses place) k 0)
    → AreKept e clauses k 0
turned_kept e clauses k but seen = λ place less.
    let start : Knowledge = record { roots = k.roots; trail = [] } in
    elim (turned_or e false (clause_at clauses place)) [
      | inl all ↦ kept_on e (clause_at clauses place) start k 0 refl (k.trail, refl) (omega arith)
          (λ apart. but place less all)
      | inr some ↦
          let made = made_value e some.0 false some.2 in
          seen made.0 place some.0 less some.1 made.1 (turned made.0 some.0.positive made.2)
    ]
  where
    turned : (v positive : Bool) → cond positive v (not v) ≡ false → positive ≡ not v
    turned true true h = absurd cc
    turned true false h = refl
    turned false true h = refl
    turned false false h = absurd cc

pub kept_either : (e : List ℕ) (clauses : List (List Literal)) (k : Knowledge)
    → ((place : ℕ) (l : Literal) → place < length clauses → Contains (clause_at clauses place) l
    → known e l.atom ≡ Some false
    → l.positive ≡ true → IsKept e (clause_at clauses place) k 0)
    → ((place : ℕ) (l : Literal) → place < length clauses → Contains (clause_at clauses place) l
    → known e l.atom ≡ Some true
    → l.positive ≡ false → IsKept e (clause_at clauses place) k 0)
    → (v : Bool) (place : ℕ) (l : Literal) → place < length clauses
    → Contains (clause_at clauses place) l → known e l.atom ≡ Some v
    → l.positive ≡ not v → IsKept e (clause_at clauses place) k 0
kept_either e clauses k out in_ true place l less has made sign = in_ place l less has made sign
kept_either e clauses k out in_ false place l less has made sign = out place l less has made sign

-- a literal that the effect makes false is false whatever is known
pub value_made : (e m : List ℕ) (l : Literal) → known e l.atom ≡ Some (not l.positive)
    → value_of e m l ≡ Some false
value_made e m l made =
    ap (λ o. option_map (λ value. cond l.positive value (not value))
    (first_of o (known m l.atom))) made
    ∙ ap (λ (b : Bool). Some b) (by l.positive)
  where
    by : (sign : Bool) → cond sign (not sign) (not (not sign)) ≡ false
    by true = refl
    by false = refl

-- where no state meets the condition, nothing is left
followed_out : (Holds : List Bool → Type 0) (k : Knowledge)
    → ((state : List Bool) → length state ≡ length k.roots → Holds state → ⊥)
    → IsFollowed Holds k k false
followed_out Holds k out = record {
  roots = none.roots;
  more = none.more;
  grows = none.grows;
  follows = λ state size holds agrees. agrees;
  broken = λ is state size holds agrees. out state size holds;
}
  where
    none : IsFollowed Holds k k true
    none = followed_none Holds k

pub followed_never : (e : List ℕ) (clauses : List (List Literal)) (n : ℕ) (k : Knowledge)
    → length k.roots ≡ n → AreNever n clauses
    → IsFollowed (λ s. in_clauses clauses (over e s) ≡ true) k k false
followed_never e clauses n k size never = followed_out _ k
    (λ state same holds. never (over e state) (length-over e state ∙ (same ∙ size)) holds)

-- so it is where the effect makes a literal false that the clauses force
pub followed_forced : (e : List ℕ) (clauses : List (List Literal)) (forced : List Literal)
    (k : Knowledge) (l : Literal)
    → AreForced (length k.roots) clauses forced → known e l.atom ≡ Some (not l.positive)
    → known (marked (length k.roots) forced) l.atom ≡ Some l.positive
    → IsFollowed (λ s. in_clauses clauses (over e s) ≡ true) k k false
followed_forced e clauses forced k l are made said = followed_out _ k
    (λ state size holds. clash l.positive
    (sym (are.follows (over e state) (length-over e state ∙ size) holds l.atom l.positive said)
    ∙ has_atom-over_some e state l.atom (not l.positive) (within state size) made))
  where
    within : (state : List Bool) → length state ≡ length k.roots → l.atom < length state
    within state size =
        let less = known_within (marked (length k.roots) forced) l.atom l.positive said in
        let wide = length-marked (length k.roots) forced in
        omega arith

    clash : (sign : Bool) → sign ≡ not sign → ⊥
    clash true same = cc (same)
    clash false same = cc (same)
