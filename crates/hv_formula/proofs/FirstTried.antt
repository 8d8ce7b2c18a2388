-- The first listed states are decided by the clauses that are tried for them.
use Rattle.std.proofs.Common.{◌≡◌, ◌∙◌, ◌+◌, ◌<◌, ◌≤◌, ◌++◌, ℕ, Bool, true, false, List, [], ◌∷◌}
use Rattle.std.proofs.Common.{length, get_or, sym, arith, subst, inl, inr}
use Rattle.std.proofs.lemmas.Bool.{cases_lt}
use Rattle.std.proofs.lemmas.List.{get_or_default}
use Rattle.std.proofs.lemmas.List.Elements.{All-contains, Contains-append_left, Contains-push}
use Rattle.std.specs.List.{Contains}
use Rattle.hv_task.specs.State.{AreBelow, has_atom, state_of}
use Rattle.hv_sets.specs.declared.literal.Literal.{Literal}
use Rattle.hv_sets.specs.Truth.{in_clause, in_clauses}
use Rattle.hv_propagation.specs.Clauses.{AreClauses}
use Rattle.hv_indexes.specs.Places.{clause_at}
use Rattle.hv_formula.specs.Positive.{ArePositive}
use Rattle.hv_indexes.specs.Rows.{IsRow}
use Rattle.hv_indexes.specs.Mates.{AreTried}
use Rattle.hv_indexes.specs.Signed.{StandsAs}
use Rattle.hv_indexes.proofs.Mated.{is_held, push_inside, sign_or, true_as}
use Rattle.hv_indexes.proofs.Truths.{clause_has, clauses_by, one_false}

module _ (clauses : List (List Literal)) (place : ℕ) (less : place < length clauses)
    (old : List ℕ) (is : ArePositive clauses place old) where
  -- one clause more is listed
  pub positive_put : ArePositive clauses (place + 1) (old ++ place ∷ [])
  positive_put = record {
    inside = push_inside old place (length clauses) less is.inside;
    whole = λ c early. elim (cases_lt c place) [
      | inl before ↦ elim (is.whole c before) [
        | inl has ↦ inl (Contains-append_left old (place ∷ []) c has)
        | inr own ↦ inr own
      ]
      | inr late ↦
          let e : place ≡ c = omega (arith, early, late) in
          inl (subst (λ x. Contains (old ++ place ∷ []) x) e (Contains-push old place))
    ];
  }

  -- or has a negative literal
  pub positive_pass : (l : Literal) → Contains (clause_at clauses place) l → l.positive ≡ false
      → ArePositive clauses (place + 1) old
  positive_pass l has out = record {
    inside = is.inside;
    whole = λ c early. elim (cases_lt c place) [
      | inl before ↦ is.whole c before
      | inr late ↦
          let e : place ≡ c = omega (arith, early, late) in
          inr (l, subst (λ x. Contains (clause_at clauses x) l) e has, out)
    ];
  }

module _ (clauses : List (List Literal)) (state : List Bool) where
  -- the clauses that have a literal are those in its row
  pub row_tried : (r : Bool) (atom : ℕ) (places : List ℕ)
      → IsRow (StandsAs false clauses) atom places
      → AreTried r clauses (Contains places) state
      → AreTried r clauses (StandsAs false clauses atom) state
  row_tried true atom places row tried = λ c stands. tried c ((row.has c).1 stands)
  row_tried false atom places row tried = tried

  module _ (held : List ℕ) where
    -- the clauses under one atom more
    pub atoms_more : (at : ℕ)
        → ((k c : ℕ) → k < at → StandsAs false clauses (get_or held k 0) c
        → in_clause (clause_at clauses c) state ≡ true)
        → AreTried true clauses (StandsAs false clauses (get_or held at 0)) state
        → (k c : ℕ) → k < at + 1 → StandsAs false clauses (get_or held k 0) c
        → in_clause (clause_at clauses c) state ≡ true
    atoms_more at before here k c less stands = elim (cases_lt k at) [
      | inl early ↦ before k c early stands
      | inr late ↦
          let e : k ≡ at = omega (arith, less, late) in
          here c (subst (λ n. StandsAs false clauses (get_or held n 0) c) e stands)
    ]

    -- the clauses under all atoms
    pub atoms_tried : (at : ℕ) → length held ≤ at
        → ((k c : ℕ) → k < at → StandsAs false clauses (get_or held k 0) c
        → in_clause (clause_at clauses c) state ≡ true)
        → AreTried true clauses (λ c. (p : ℕ) × Contains held p × StandsAs false clauses p c) state
    atoms_tried at past all c (p, has, stands) =
        all has.0 c (omega (arith, has.1, past))
        (subst (λ n. StandsAs false clauses n c)
        (sym (get_or_default held has.0 0 p has.1 ∙ has.2)) stands)

    -- those without a negative literal, and those with that of an atom that is held, are enough
    pub first_decided : (positive : List ℕ) → ArePositive clauses (length clauses) positive
        → AreClauses (length state) clauses → state ≡ state_of (length state) held
        → AreBelow (length state) held → (r : Bool)
        → AreTried true clauses (Contains positive) state
        → AreTried r clauses (λ c. (p : ℕ) × Contains held p × StandsAs false clauses p c) state
        → r ≡ in_clauses clauses state
    first_decided positive is speak is_of below true others under =
        sym (clauses_by state clauses (λ c less. elim (is.whole c less) [
          | inl has ↦ others c has
          | inr own ↦ by c less own.0 own.1 own.2
        ]))
      where
        by : (c : ℕ) → c < length clauses → (l : Literal) → Contains (clause_at clauses c) l
            → l.positive ≡ false → in_clause (clause_at clauses c) state ≡ true
        by c less l has out =
            let clause = clause_at clauses c in
            let low = All-contains (λ (x : Literal). x.atom < length state) clause l
            (speak c [] less) has in
            let own = subst (λ b. Contains clause (record { atom = l.atom; positive = b })) out
            has in
            elim (sign_or false (has_atom state l.atom)) [
              | inl is_false ↦ clause_has state clause (record { atom = l.atom; positive = false })
                  own (true_as false l.atom state is_false)
              | inr is_true ↦ under c (
                l.atom,
                is_held state held is_of below l.atom low is_true,
                record { among = less; has = own },
              )
            ]
    first_decided positive is speak is_of below false others under =
        sym (one_false state clauses under.0 under.1 under.2)
