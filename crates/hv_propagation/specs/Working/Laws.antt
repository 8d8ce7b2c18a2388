-- The laws of the trait Constraint for clauses: where nothing is left on the trail all of them are
-- settled, and what is left comes from the same place on while the trail grows, since literals that
-- are written change what is known of their own atoms alone.
use Rattle.std.proofs.Common.{◌≡◌, ℕ, suc, ◌+◌, ◌<◌, ◌≤◌, ◌∙◌, ◌⊎◌, Bool, true, false, not, cond}
use Rattle.std.proofs.Common.{List, [], ◌∷◌, ◌++◌, Option, None, Some, length, drop, refl, sym, ap}
use Rattle.std.proofs.Common.{arith, inl, inr, subst}
use Rattle.std.proofs.lemmas.Bool.{cases_eq, cases_lt}
use Rattle.std.proofs.lemmas.List.{drop-append-le, drop_all, get_or_default, get_or_past}
use Rattle.std.proofs.lemmas.List.{get_or-set_other, get_or-set_same, length-set}
use Rattle.std.proofs.lemmas.List.Elements.{Contains-append_left, Contains-append_right}
use Rattle.std.specs.List.{Contains}
use Rattle.std.specs.Option.{option_map}
use Rattle.std.specs.Prelude.{slice_set}
use Rattle.hv_sets.specs.declared.literal.Literal.{Literal}
use Rattle.hv_sets.specs.Cubes.{opposite}
use Rattle.hv_indexes.specs.Places.{clause_at}
use Rattle.hv_propagation.specs.Chase.{AreKept, IsKept}
use Rattle.hv_propagation.specs.Marks.{known, mark_for, mark_of}
use Rattle.hv_propagation.specs.Trail.{Grows, Knowledge, marks_of, written}
use Rattle.hv_propagation.specs.Units.{AreSettled, IsSettled, first_of, value_of}

-- past the end nothing is known
pub known_past : (m : List ℕ) (p : ℕ) → length m ≤ p → known m p ≡ None
known_past m p h = ap mark_of (get_or_past m p 0 h)

mark_says : (b : Bool) → mark_of (mark_for b) ≡ Some b
mark_says true = refl
mark_says false = refl

pub known-set_same : (m : List ℕ) (p : ℕ) (b : Bool) → p < length m
    → known (slice_set m p (mark_for b)) p ≡ Some b
known-set_same m p b h = ap mark_of (get_or-set_same m p (mark_for b) 0 h) ∙ mark_says b

pub known-set_other : (m : List ℕ) (p q : ℕ) (b : Bool) → (q ≡ p → ⊥)
    → known (slice_set m p (mark_for b)) q ≡ known m q
known-set_other m p q b h = ap mark_of (get_or-set_other m p q (mark_for b) 0 h)

-- a literal whose atom was marked by its sign is true, where the effect says nothing of it
pub value_marked : (e m : List ℕ) (l : Literal) → known e l.atom ≡ None
    → known m l.atom ≡ Some l.positive
    → value_of e m l ≡ Some true
value_marked e m l none here =
    ap (option_map (λ value. cond l.positive value (not value)))
    (ap (λ o. first_of o (known m l.atom)) none ∙ here)
    ∙ own l.positive
  where
    own : (sign : Bool) → Some (cond sign sign (not sign)) ≡ Some true
    own true = refl
    own false = refl

written-append : (xs ys : List Literal) (m : List ℕ)
    → written (xs ++ ys) m ≡ written ys (written xs m)
written-append [] ys m = refl
written-append (x ∷ xs) ys m = written-append xs ys (slice_set m x.atom (mark_for x.positive))

-- of each atom the same is known as before, or what a literal of the trail says
pub written_or : (ls : List Literal) (m : List ℕ) (p : ℕ)
    → (known (written ls m) p ≡ known m p)
    ⊎ ((l : Literal) × Contains ls l × (l.atom ≡ p)
    × (known (written ls m) p ≡ Some l.positive))
written_or [] m p = inl refl
written_or (x ∷ xs) m p =
    let rest = slice_set m x.atom (mark_for x.positive) in
    elim (written_or xs rest p) [
      | inr found ↦ inr (
        found.0,
        (suc found.1.0, omega (arith, found.1.1), found.1.2),
        found.2,
        found.3,
      )
      | inl same ↦
          elim (cases_eq x.atom p) [
            | inr other ↦ inl (same ∙ known-set_other m x.atom p x.positive (λ e. other (sym e)))
            | inl here ↦
                elim (cases_lt x.atom (length m)) [
                  | inl less ↦ inr (
                    x,
                    (0, omega arith, refl),
                    here,
                    same
                        ∙ (sym (ap (known rest) here) ∙ known-set_same m x.atom x.positive less),
                  )
                  | inr past ↦
                      let size = length-set m x.atom (mark_for x.positive) in
                      inl (same ∙ (known_past rest p (omega (arith, here))
                      ∙ sym (known_past m p (omega (arith, here)))))
                ]
          ]
    ]

not_twice : (a b : Bool) → (a ≡ not b → ⊥) → a ≡ b
not_twice true true h = refl
not_twice true false h = absurd (h refl)
not_twice false true h = absurd (h refl)
not_twice false false h = refl

-- a literal whose opposite isn't found true has the value that it had, or it is true
value_or : (e m : List ℕ) (more : List Literal) (l : Literal)
    → ((x : Literal) → Contains more x → opposite x ≡ l → ⊥)
    → (value_of e (written more m) l ≡ value_of e m l) ⊎ (value_of e (written more m) l ≡ Some true)
value_or e m more l apart =
    elim (written_or more m l.atom) [
      | inl same ↦ inl (ap (λ o. option_map
          (λ value. cond l.positive value (not value)) (first_of (known e l.atom) o)) same)
      | inr found ↦
          let x = found.0 in
          let sign : x.positive ≡ l.positive =
          not_twice x.positive l.positive (λ e. apart x found.1
          (λ i. record { atom = found.2 i; positive = turned x.positive l.positive e i })) in
          by (known e l.atom) refl (found.3 ∙ ap (λ (b : Bool). Some b) sign)
    ]
  where
    turned : (a b : Bool) → a ≡ not b → not a ≡ b
    turned true true h = sym h
    turned true false h = refl
    turned false true h = refl
    turned false false h = sym h

    by : (o : Option Bool) → known e l.atom ≡ o → known (written more m) l.atom ≡ Some l.positive
        → (value_of e (written more m) l ≡ value_of e m l)
        ⊎ (value_of e (written more m) l ≡ Some true)
    by None none here = inr (value_marked e (written more m) l none here)
    by (Some v) some here =
        let word : Option Bool → Option Bool = λ o. option_map
        (λ value. cond l.positive value (not value)) o in
        inl (ap (λ o. word (first_of o (known (written more m) l.atom))) some
        ∙ sym (ap (λ o. word (first_of o (known m l.atom))) some))

-- so a clause without the opposite of a literal that is found true stays settled
settled_on : (e m : List ℕ) (more clause : List Literal)
    → ((x l : Literal) → Contains more x → Contains clause l → opposite x ≡ l → ⊥)
    → IsSettled e m clause → IsSettled e (written more m) clause
settled_on e m more clause apart settled =
    elim settled [
      | inl at ↦
          elim (value_or e m more at.0 (λ x has same. apart x at.0 has at.1 same)) [
            | inl same ↦ inl (at.0, at.1, same ∙ at.2)
            | inr is ↦ inl (at.0, at.1, is)
          ]
      | inr two ↦
          elim (value_or e m more two.0 (λ x has same. apart x two.0 has two.2 same)) [
            | inr is ↦ inl (two.0, two.2, is)
            | inl same ↦
                elim (value_or e m more two.1 (λ x has equal. apart x two.1 has two.3 equal)) [
                  | inr is ↦ inl (two.1, two.3, is)
                  | inl equal ↦ inr (two.0, two.1, two.2, two.3, two.4, same ∙ two.5, equal ∙ two.6)
                ]
          ]
    ]

-- what was kept is kept while the trail grows
pub kept_on : (e : List ℕ) (clause : List Literal) (old new : Knowledge) (from : ℕ)
    → new.roots ≡ old.roots
    → ((more : List Literal) × (new.trail ≡ old.trail ++ more)) → from ≤ length old.trail
    → IsKept e clause old from → IsKept e clause new from
kept_on e clause old new from roots grown h kept = λ apart.
    let more = grown.0 in
    let split : drop from new.trail ≡ drop from old.trail ++ more = ap (drop from) grown.1
    ∙ drop-append-le from old.trail more h in
    let marks : marks_of new ≡ written more (marks_of old) =
    ap (λ b. written new.trail b) roots
    ∙ (ap (λ ls. written ls old.roots) grown.1 ∙ written-append old.trail more old.roots) in
    subst (λ m. IsSettled e m clause) (sym marks)
    (settled_on e (marks_of old) more clause
    (λ x l at has same. apart x
    (subst (λ ls. Contains ls x) (sym split)
    (Contains-append_right (drop from old.trail) more x at))
    (subst (λ y. Contains clause y) (sym same) has))
    (kept (λ x at has. apart x (subst (λ ls. Contains ls x) (sym split)
    (Contains-append_left (drop from old.trail) more x at)) has)))

-- the same for all clauses
pub kept_grown : (e : List ℕ) (clauses : List (List Literal)) (old new : Knowledge) (from : ℕ)
    → Grows old new → from ≤ length old.trail
    → AreKept e clauses old from → AreKept e clauses new from
kept_grown e clauses old new from grown h kept = λ place less.
    kept_on e (clause_at clauses place) old new from grown.roots grown.more h (kept place less)

-- when nothing is left on the trail, all clauses are settled
pub settled_end : (e : List ℕ) (clauses : List (List Literal)) (m : Knowledge) (from : ℕ)
    → length m.trail ≤ from → AreKept e clauses m from
    → AreSettled e clauses (marks_of m)
settled_end e clauses m from h kept = λ k d less.
    subst (λ c. IsSettled e (marks_of m) c) (get_or_default clauses k [] d less)
    (kept k less (λ x has within. nothing x
    (subst (λ ls. Contains ls x) (drop_all from m.trail h) has)))
  where
    nothing : (x : Literal) → Contains [] x → ⊥
    nothing x has = omega (arith, has.1)
