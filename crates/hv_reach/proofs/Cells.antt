-- One cell of a table set, and a pair of cells.
use Rattle.std.proofs.Common.{◌≡◌, ℕ, suc, ◌+◌, ◌<◌, ◌≤◌, ◌∙◌, Bool, true, false, ◌&&◌, not, Option}
use Rattle.std.proofs.Common.{Some, None, List, [], ◌∷◌, length, set, get_or, refl, sym}
use Rattle.std.proofs.Common.{ap, arith, inl, inr, subst, ◌⊎◌}
use Rattle.std.proofs.lemmas.Bool.{cases_Bool, cases_eq, cases_lt, and_parts, not-true}
use Rattle.std.proofs.lemmas.List.{length-set, get_or-set_other}
use Rattle.std.proofs.lemmas.List.{get_or_default, get_or_past}
use Rattle.std.proofs.lemmas.Grind.{get_or-set_at}
use Rattle.std.specs.List.{All}
use Rattle.hv_task.specs.Atoms.{IsNext}
use Rattle.hv_task.specs.State.{has_atom, state_of}
use Rattle.hv_task.proofs.Listing.{within_state}
use Rattle.hv_task.proofs.Places.{has_atom-state_of, has_atom_past, length-state_of}
use Rattle.hv_reach.proofs.Sets.{missing_set, set_cases, set_grows, set_has}
use Rattle.hv_reach.specs.Reached.{has_pair}
use Rattle.hv_reach.specs.Working.NoteRows.{AreColumns}
use Rattle.hv_reach.specs.Working.Table.{AreRaised, IsNextNew, IsPairStep, IsPairTable, IsSquare}
use Rattle.hv_reach.specs.Working.Table.{missing_cells, set_at, set_both}
use Rattle.hv_reach.specs.Working.Waiting.{missing}

pub set_at_cases : (rows : List (List Bool)) (p q i j : ℕ) → p < length rows
    → q < length (get_or rows p []) → has_pair (set_at rows p q) i j ≡ true
    → (has_pair rows i j ≡ true) ⊎ ((p ≡ i) × (q ≡ j))
set_at_cases rows p q i j less within h =
    elim (cases_eq p i) [
      | inl e ↦
          let f = get_or-set_at rows p i (set (get_or rows p []) q true) [] (sym e) (omega arith) in
          elim (set_cases (get_or rows p []) q j within (subst (λ r. has_atom r j ≡ true) f h)) [
            | inl o ↦ inl (subst (λ k. has_pair rows k j ≡ true) e o)
            | inr o ↦ inr (e, o)
          ]
      | inr e ↦ inl (subst (λ r. has_atom r j ≡ true)
          (get_or-set_other rows p i (set (get_or rows p []) q true) [] (λ f. e (sym f))) h)
    ]

pub set_at_has : (rows : List (List Bool)) (p q : ℕ) → p < length rows
    → q < length (get_or rows p []) → has_pair (set_at rows p q) p q ≡ true
set_at_has rows p q less within =
    subst (λ r. has_atom r q ≡ true) (sym (get_or-set_at rows p p (set (get_or rows p []) q true) []
    refl less)) (set_has (get_or rows p []) q within)

pub set_at_grows : (rows : List (List Bool)) (p q i j : ℕ) → p < length rows
    → q < length (get_or rows p []) → has_pair rows i j ≡ true
    → has_pair (set_at rows p q) i j ≡ true
set_at_grows rows p q i j less within h =
    elim (cases_eq p i) [
      | inl e ↦
          subst (λ r. has_atom r j ≡ true) (sym
          (get_or-set_at rows p i (set (get_or rows p []) q true) [] (sym e) (omega arith)))
          (set_grows (get_or rows p []) q j within
          (subst (λ k. has_pair rows k j ≡ true) (sym e) h))
      | inr e ↦ subst (λ r. has_atom r j ≡ true)
          (sym (get_or-set_other rows p i (set (get_or rows p []) q true) [] (λ f. e (sym f)))) h
    ]

pub missing_at : (rows : List (List Bool)) (p q : ℕ) → p < length rows
    → q < length (get_or rows p []) → has_pair rows p q ≡ false
    → missing_cells (set_at rows p q) + 1 ≡ missing_cells rows
missing_at [] p q less within h = absurd (omega arith)
missing_at (row ∷ rows) Prim.Native.Nat.zero q less within h = let e = missing_set row q within h in
    omega arith
missing_at (row ∷ rows) (suc p) q less within h = let e = missing_at rows p q (omega arith) within
    h in omega arith

pub set_at_same : (rows : List (List Bool)) (p q : ℕ) → p < length rows
    → q < length (get_or rows p []) → missing_cells (set_at rows p q) ≤ missing_cells rows
set_at_same [] p q less within = absurd (omega arith)
set_at_same (row ∷ rows) Prim.Native.Nat.zero q less within =
    elim (cases_Bool (has_atom row q)) [
      | inl e ↦ let f = missing_again row q e in omega arith
      | inr e ↦ let f = missing_set row q within e in omega arith
    ]
  where
    missing_again : (s : List Bool) (x : ℕ) → has_atom s x ≡ true
        → missing (set s x true) ≡ missing s
    missing_again [] x h = refl
    missing_again (true ∷ s) Prim.Native.Nat.zero h = refl
    missing_again (false ∷ s) Prim.Native.Nat.zero h = absurd cc
    missing_again (true ∷ s) (suc x) h = missing_again s x h
    missing_again (false ∷ s) (suc x) h = ap suc (missing_again s x h)
set_at_same (row ∷ rows) (suc p) q less within = let e = set_at_same rows p q (omega arith)
    within in omega arith

pub set_at_size : (n : ℕ) (rows : List (List Bool)) (p q : ℕ) → p < length rows
    → All (λ row. length row ≡ n) rows → All (λ row. length row ≡ n) (set_at rows p q)
set_at_size n rows p q less each = λ i d within.
    let in_rows : i < length rows = omega (arith, length-set rows p (set (get_or rows p []) q true))
    in
    elim (cases_eq p i) [
      | inl e ↦ subst (λ (r : List Bool). length r ≡ n)
          (sym (get_or-set_at rows p i (set (get_or rows p []) q true) d (sym e) less))
          (length-set (get_or rows p []) q true ∙ each p [] less)
      | inr e ↦ subst (λ (r : List Bool). length r ≡ n)
          (sym (get_or-set_other rows p i (set (get_or rows p []) q true) d (λ f. e (sym f))))
          (each i d in_rows)
    ]

pub row_length : (n : ℕ) (rows : List (List Bool)) (p q : ℕ) → IsPairTable n rows → p < n → q < n
    → (p < length rows) × (q < length (get_or rows p []))
row_length n rows p q table p_less q_less =
    let size = table.size in
    let less : p < length rows = omega arith in
    let e = table.each p [] less in
    (less, omega arith)

second : (n : ℕ) (rows : List (List Bool)) (p q : ℕ) → IsPairTable n rows → p < n → q < n
    → (q < length (set_at rows p q)) × (p < length (get_or (set_at rows p q) q []))
second n rows p q table p_less q_less =
    let size = table.size in
    let in_row = row_length n rows p q table p_less q_less in
    let less : q < length (set_at rows p q) = omega
    (arith, length-set rows p (set (get_or rows p []) q true)) in
    let e = set_at_size n rows p q in_row.0 table.each q [] less in
    (less, omega arith)

pub both_cases : (n : ℕ) (rows : List (List Bool)) (p q i j : ℕ) → IsPairTable n rows → p < n
    → q < n → has_pair (set_both rows p q) i j ≡ true
    → (has_pair rows i j ≡ true) ⊎ (((p ≡ i) × (q ≡ j)) ⊎ ((q ≡ i) × (p ≡ j)))
both_cases n rows p q i j table p_less q_less h =
    let a = row_length n rows p q table p_less q_less in
    let b = second n rows p q table p_less q_less in
    elim (set_at_cases (set_at rows p q) q p i j b.0 b.1 h) [
      | inl o ↦ elim (set_at_cases rows p q i j a.0 a.1 o) [ inl w ↦ inl w | inr w ↦ inr (inl w) ]
      | inr o ↦ inr (inr o)
    ]

pub both_grows : (n : ℕ) (rows : List (List Bool)) (p q i j : ℕ) → IsPairTable n rows → p < n
    → q < n → has_pair rows i j ≡ true → has_pair (set_both rows p q) i j ≡ true
both_grows n rows p q i j table p_less q_less h =
    let a = row_length n rows p q table p_less q_less in
    let b = second n rows p q table p_less q_less in
    set_at_grows (set_at rows p q) q p i j b.0 b.1 (set_at_grows rows p q i j a.0 a.1 h)

pub both_has : (n : ℕ) (rows : List (List Bool)) (p q : ℕ) → IsPairTable n rows → p < n → q < n
    → (has_pair (set_both rows p q) p q ≡ true) × (has_pair (set_both rows p q) q p ≡ true)
both_has n rows p q table p_less q_less =
    let a = row_length n rows p q table p_less q_less in
    let b = second n rows p q table p_less q_less in (
      set_at_grows (set_at rows p q) q p p q b.0 b.1 (set_at_has rows p q a.0 a.1),
      set_at_has
          (set_at rows p q) q p b.0 b.1,
    )

-- a new pair makes a step
pub mark_step : (n : ℕ) (rows : List (List Bool)) (flags raised : List Bool) (p q : ℕ)
    → IsPairTable n rows → p < n → q < n → has_pair rows p q ≡ false
    → (p ≡ q) ⊎ ((has_pair rows p p ≡ true) × (has_pair rows q q ≡ true))
    → length raised ≡ length flags
    → ((x : ℕ) → has_atom flags x ≡ true → has_atom raised x ≡ true) → AreRaised n raised p q
    → IsPairStep n rows flags (set_both rows p q) raised true
mark_step n rows flags raised p q table p_less q_less unset diagonal size stay up =
    let a = row_length n rows p q table p_less q_less in
    let b = second n rows p q table p_less q_less in
    let falls : missing_cells (set_both rows p q) < missing_cells rows =
    let e = missing_at rows p q a.0 a.1 unset in
    let f = set_at_same (set_at rows p q) q p b.0 b.1 in omega arith in
    record {
      table = record {
        size = length-set (set_at rows p q) q (set (get_or (set_at rows p q) q []) p true)
            ∙ (length-set rows p (set (get_or rows p []) q true) ∙ table.size);
        each = set_at_size n (set_at rows p q) q p b.0 (set_at_size n rows p q a.0 table.each);
        even = λ i j h. elim (both_cases n rows p q i j table p_less q_less h) [
          | inl o ↦ grows j i (table.even i j o)
          | inr w ↦ elim w [
            | inl e ↦ subst (λ x. has_pair (set_both rows p q) x i ≡ true) e.1
                (subst (λ x. has_pair (set_both rows p q) q x ≡ true) e.0 has.1)
            | inr e ↦ subst (λ x. has_pair (set_both rows p q) x i ≡ true) e.1
                (subst (λ x. has_pair (set_both rows p q) p x ≡ true) e.0 has.0)
          ]
        ];
        whole = λ i j h. elim (both_cases n rows p q i j table p_less q_less h) [
          | inl o ↦ grows j j (table.whole i j o)
          | inr w ↦ elim w [
            | inl e ↦ subst (λ x. has_pair (set_both rows p q) x x ≡ true) e.1 with_itself.1
            | inr e ↦ subst (λ x. has_pair (set_both rows p q) x x ≡ true) e.1 with_itself.0
          ]
        ];
      };
      size = size;
      grows = grows;
      raises = λ i j h. elim (both_cases n rows p q i j table p_less q_less h) [
        | inl o ↦ inl o
        | inr w ↦ elim w [
          | inl e ↦ inr (subst (λ x. AreRaised n raised x j) e.0
              (subst (λ x. AreRaised n raised p x) e.1 up))
          | inr e ↦ inr (subst (λ x. AreRaised n raised x j) e.0
              (subst (λ x. AreRaised n raised q x) e.1 (up.1, up.0, λ f. up.2 (sym f))))
        ]
      ];
      stay = stay;
      still = λ e. absurd cc;
      fewer = omega arith;
      falls = λ e. falls;
    }
  where
    grows : (i j : ℕ) → has_pair rows i j ≡ true → has_pair (set_both rows p q) i j ≡ true
    grows i j = both_grows n rows p q i j table p_less q_less

    has : (has_pair (set_both rows p q) p q ≡ true) × (has_pair (set_both rows p q) q p ≡ true)
    has = both_has n rows p q table p_less q_less

    with_itself : (has_pair (set_both rows p q) p p ≡ true)
        × (has_pair (set_both rows p q) q q ≡ true)
    with_itself =
        elim diagonal [
          | inl e ↦ (
            subst (λ x. has_pair (set_both rows p q) p x ≡ true) (sym e) has.0,
            subst
                (λ x. has_pair (set_both rows p q) q x ≡ true) e has.1,
          )
          | inr w ↦ (grows p p w.0, grows q q w.1)
        ]

-- a table without a pair
pub table_none : (n : ℕ) (rows : List (List Bool)) → length rows ≡ n → AreColumns n rows
    → ((p q : ℕ) → has_pair rows p q ≡ false) → IsPairTable n rows
table_none n rows size wide none = record {
  size = size;
  each = λ i d less.
      ap (λ (r : List Bool). length r) (get_or_default rows i d [] less) ∙ wide i less;
  even = λ p q h. let e = none p q in absurd cc;
  whole = λ p q h. let e = none p q in absurd cc;
}

-- a row of which all atoms were taken out
pub row_cleared : (n : ℕ) (rows : List (List Bool)) (x : ℕ) → x < length rows → IsSquare n rows
    → ((p q : ℕ) → p < x → has_pair rows p q ≡ false)
    → IsSquare n (set rows x (state_of (length (get_or rows x [])) []))
    × ((p q : ℕ) → p < x + 1
    → has_pair (set rows x (state_of (length (get_or rows x [])) [])) p q ≡ false)
row_cleared n rows x less square none = (
  record {
    size = length-set rows x empty ∙ square.size;
    each = λ i d within.
        let in_rows : i < length rows = omega (arith, within, length-set rows x empty) in
        elim (cases_eq x i) [
          | inl e ↦ subst (λ (r : List Bool). length r ≡ n)
              (sym (get_or-set_at rows x i empty d (sym e) less))
              (length-state_of (length (get_or rows x [])) [] ∙ square.each x [] less)
          | inr e ↦ subst (λ (r : List Bool). length r ≡ n)
              (sym (get_or-set_other rows x i empty d (λ f. e (sym f))))
              (square.each i d in_rows)
        ];
  },
  λ p q upto.
      elim (cases_eq x p) [
        | inl e ↦ ap (λ (r : List Bool). has_atom r q)
            (get_or-set_at rows x p empty [] (sym e) less) ∙ holds_none q
        | inr e ↦ ap (λ (r : List Bool). has_atom r q)
            (get_or-set_other rows x p empty [] (λ f. e (sym f)))
            ∙ none p q (omega (arith, e, upto))
      ],
)
  where
    empty : List Bool
    empty = state_of (length (get_or rows x [])) []

    holds_none : (q : ℕ) → has_atom empty q ≡ false
    holds_none q =
        elim (cases_lt q (length (get_or rows x []))) [
          | inl lt ↦ has_atom-state_of (length (get_or rows x [])) [] q lt
          | inr ge ↦ has_atom_past empty q
              (omega (arith, ge, length-state_of (length (get_or rows x [])) []))
        ]

-- where no row of the table has an atom
pub none_left : (n : ℕ) (rows : List (List Bool)) → length rows ≡ n
    → ((p q : ℕ) → p < n → has_pair rows p q ≡ false) → (p q : ℕ) → has_pair rows p q ≡ false
none_left n rows size none p q =
    elim (cases_lt p n) [
      | inl lt ↦ none p q lt
      | inr ge ↦ ap (λ (r : List Bool). has_atom r q)
          (get_or_past rows p [] (omega (arith, ge, size)))
    ]

-- what is in the one set and not outside the other
pub in_both : (a b : Bool) → (a && not b) ≡ false → a ≡ true → b ≡ true
in_both true true e h = refl
in_both true false e h = absurd cc
in_both false b e h = absurd cc

-- the next atom of a mask that a row has not
pub next_new_from : (mask row : List Bool) (from : ℕ) (next : Option ℕ)
    → IsNext (λ p. has_atom mask p && not (has_atom row p)) from next → IsNextNew mask row from next
next_new_from mask row from None is = λ q upto held. in_both (has_atom mask q) (has_atom row q)
    (is q upto) held
next_new_from mask row from (Some a) is =
    let parts = and_parts (has_atom mask a) (not (has_atom row a)) is.1 in (
      within_state mask a parts.0,
      parts.0,
      not-true (has_atom row a) parts.1,
      λ k upto less held.
          in_both (has_atom mask k) (has_atom row k) (is.2 k upto less) held,
    )
