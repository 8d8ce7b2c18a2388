-- Why a walk over a list, the atoms of a state and an effect tells whether the list is what the
-- effect makes of the state.
use Rattle.std.proofs.Common.{◌≡◌, ◌∙◌, ◌+◌, ◌-◌, ◌<◌, ◌≤◌, ◌⊎◌, ◌&&◌, ◌||◌, not, ℕ, Bool, true}
use Rattle.std.proofs.Common.{false, List, length, get_or, refl, sym, ap, subst, arith, inl, inr}
use Rattle.std.proofs.lemmas.Bool.{both_ways, cases_lt, cases_order, false_from_ne_true}
use Rattle.std.proofs.lemmas.Bool.Decides.{same_from_decides}
use Rattle.std.proofs.lemmas.List.{get_or_default}
use Rattle.std.proofs.lemmas.List.Elements.{All-contains, Contains-get_or}
use Rattle.std.specs.List.{All, Contains}
use Rattle.std.specs.List.Sorted.{IsStrictlyIncreasing}
use Rattle.hv_task.specs.State.{names_atom}
use Rattle.hv_task.proofs.Places.{names_atom-Decides}
use Rattle.hv_task.proofs.Rising.{rises_apart, rises_upto}
use Rattle.hv_explicit.specs.Working.Results.{IsMerged, IsNextTouched, Splits, made}
use Rattle.hv_explicit.specs.declared.results.Stand.{Stand}

-- a list that rises has each of its atoms
pub named_at : (xs : List ℕ) (k p : ℕ) → k < length xs → get_or xs k 0 ≡ p → names_atom xs p ≡ true
named_at xs k p within is =
    subst (λ q. names_atom xs q ≡ true) is
    ((names_atom-Decides xs (get_or xs k 0)).1 (Contains-get_or xs k 0 within))

-- so many of its atoms are less than the bound
module _ (xs : List ℕ) (rises : IsStrictlyIncreasing xs) (i b : ℕ) (split : Splits xs i b) where
  -- an atom from the bound on stands at a place that isn't passed
  pub place_from : (p : ℕ) → b ≤ p → names_atom xs p ≡ true
      → (k : ℕ) × (i ≤ k) × (k < length xs) × (get_or xs k 0 ≡ p)
  place_from p upto e =
      let c = (names_atom-Decides xs p).0 e in
      let here = get_or_default xs c.0 0 p c.1 ∙ c.2 in
      elim (cases_lt c.0 i) [
        | inl less ↦ let below = split.below c.0 less in absurd (omega arith)
        | inr past ↦ (c.0, past, c.1, here)
      ]

  -- where the next one is greater, the bound can be
  pub split_wider : (t : ℕ) → b ≤ t → (i < length xs → t ≤ get_or xs i 0) → Splits xs i t
  split_wider t upto next = record {
    within = split.within;
    below = λ k less. let below = split.below k less in omega arith;
    over = λ k past within.
        let first = next (omega arith) in
        let more = rises_upto xs i k rises past within in omega arith;
  }

  -- and no atom is between
  pub none_between : (t p : ℕ) → (i < length xs → t ≤ get_or xs i 0) → b ≤ p → p < t
      → names_atom xs p ≡ false
  none_between t p next upto less =
      false_from_ne_true (names_atom xs p) (λ e.
      let c = place_from p upto e in
      let is = c.3 in
      let within = c.2 in
      let past = c.1 in
      let first = next (omega arith) in
      let more = rises_upto xs i c.0 rises past within in
      omega arith)

  pub split_past : i < length xs → get_or xs i 0 ≡ b → Splits xs (i + 1) (b + 1)
  split_past here is = record {
    within = omega arith;
    below = λ k less. elim (cases_lt k i) [
      | inl old ↦ let below = split.below k old in omega arith
      | inr last ↦
          let same : k ≡ i = omega arith in
          let e = ap (λ j. get_or xs j 0) same in omega arith
    ];
    over = λ k past within.
        let more = rises_apart xs i k rises (omega arith) within in omega arith;
  }

  pub split_stay : (i < length xs → get_or xs i 0 ≡ b → ⊥) → Splits xs i (b + 1)
  split_stay none = record {
    within = split.within;
    below = λ k less. let below = split.below k less in omega arith;
    over = λ k past within.
        let first = split.over i (omega arith) (omega arith) in
        let more = rises_upto xs i k rises past within in
        elim (cases_order (get_or xs i 0) b) [
          | inl e ↦ absurd (none (omega arith) e)
          | inr (inl less) ↦ absurd (omega arith)
          | inr (inr greater) ↦ omega arith
        ];
  }

  -- the atom at the bound can only be the next one
  pub stands : names_atom xs b ≡ true → (i < length xs) × (get_or xs i 0 ≡ b)
  stands e =
      let c = place_from b (omega arith) e in
      let past = c.1 in
      let within = c.2 in
      let is = c.3 in
      let first = split.over i (omega arith) (omega arith) in
      let more = rises_upto xs i c.0 rises past within in
      (omega arith, omega arith)

-- what an effect doesn't touch stays
pub made_untouched : (add del held : List ℕ) (p : ℕ) → names_atom add p ≡ false
    → names_atom del p ≡ false → made add del held p ≡ names_atom held p
made_untouched add del held p no_add no_del =
    ap (λ b. b || (not (names_atom del p) && names_atom held p)) no_add
    ∙ ap (λ b. not b && names_atom held p) no_del

-- and what it touches is there where it is added
pub made_touched : (add del held : List ℕ) (p : ℕ)
    → (names_atom add p ≡ true) ⊎ (names_atom del p ≡ true)
    → made add del held p ≡ names_atom add p
made_touched add del held p touched =
    by (names_atom add p) (names_atom del p) (names_atom held p) touched
  where
    by : (a d h : Bool) → (a ≡ true) ⊎ (d ≡ true) → (a || (not d && h)) ≡ a
    by true d h t = refl
    by false true h t = refl
    by false false h (inl e) = let f : false ≡ true = e in absurd cc
    by false false h (inr e) = let f : false ≡ true = e in absurd cc

-- where a state has all that is added, and of what is deleted only what is added, it stays
pub made_left : (held add del : List ℕ) → All (λ p. Contains held p) add
    → All (λ p. Contains held p → Contains add p) del → (p : ℕ)
    → made add del held p ≡ names_atom held p
made_left held add del adds dels p = by (names_atom add p) (names_atom del p) refl refl
  where
    by : (a d : Bool) → names_atom add p ≡ a → names_atom del p ≡ d
        → made add del held p ≡ names_atom held p
    by true d is_a is_d =
        ap (λ b. b || (not (names_atom del p) && names_atom held p)) is_a
        ∙ sym ((names_atom-Decides held p).1 (All-contains (λ q. Contains held q) add p adds
        ((names_atom-Decides add p).0 is_a)))
    by false true is_a is_d =
        made_touched add del held p (inr is_d) ∙ is_a
        ∙ sym (false_from_ne_true (names_atom held p) (λ e.
        both_ways (names_atom add p) is_a ((names_atom-Decides add p).1
        (All-contains (λ q. Contains held q → Contains add q) del p dels
        ((names_atom-Decides del p).0 is_d)
        ((names_atom-Decides held p).0 e)))))
    by false false is_a is_d = made_untouched add del held p is_a is_d

-- where a list has all that is added, beside it only what was held, and of what was held all that
-- isn't deleted, and of what is deleted only what is added, it is what the effect makes
pub made_changed : (list held add del : List ℕ) → All (λ p. Contains list p) add
    → All (λ p. Contains held p ⊎ Contains add p) list
    → All (λ p. Contains list p ⊎ Contains del p) held
    → All (λ p. Contains list p → Contains add p) del → (p : ℕ)
    → made add del held p ≡ names_atom list p
made_changed list held add del adds listed kept dels p =
    by (names_atom add p) (names_atom del p) refl refl
  where
    same : names_atom add p ≡ false → names_atom del p ≡ false
        → names_atom held p ≡ names_atom list p
    same is_a is_d =
        same_from_decides {P = Contains list p} (names_atom held p) (names_atom list p) (
          λ e. elim (All-contains (λ q. Contains list q ⊎ Contains del q) held p kept
              ((names_atom-Decides held p).0 e)) [
                | inl is ↦ is
                | inr gone ↦ absurd (both_ways (names_atom del p) is_d
                    ((names_atom-Decides del p).1 gone))
              ],
          λ c. elim (All-contains (λ q. Contains held q ⊎ Contains add q) list p listed c) [
            | inl is ↦ (names_atom-Decides held p).1 is
            | inr new ↦ absurd (both_ways (names_atom add p) is_a
                ((names_atom-Decides add p).1 new))
          ],
        )
        ((names_atom-Decides list p).0, (names_atom-Decides list p).1)

    by : (a d : Bool) → names_atom add p ≡ a → names_atom del p ≡ d
        → made add del held p ≡ names_atom list p
    by true d is_a is_d =
        ap (λ b. b || (not (names_atom del p) && names_atom held p)) is_a
        ∙ sym ((names_atom-Decides list p).1 (All-contains (λ q. Contains list q) add p adds
        ((names_atom-Decides add p).0 is_a)))
    by false true is_a is_d =
        made_touched add del held p (inr is_d) ∙ is_a
        ∙ sym (false_from_ne_true (names_atom list p) (λ e.
        both_ways (names_atom add p) is_a ((names_atom-Decides add p).1
        (All-contains (λ q. Contains list q → Contains add q) del p dels
        ((names_atom-Decides del p).0 is_d)
        ((names_atom-Decides list p).0 e)))))
    by false false is_a is_d = made_untouched add del held p is_a is_d ∙ same is_a is_d

module _ (list held add del : List ℕ) (list_rises : IsStrictlyIncreasing list)
    (held_rises : IsStrictlyIncreasing held) (add_rises : IsStrictlyIncreasing add)
    (del_rises : IsStrictlyIncreasing del) where
  pub merge_start : IsMerged list held add del
      (record { listed = 0; held = 0; added = 0; deleted = 0 }) 0
  merge_start = record {
    list_split = none list;
    held_split = none held;
    add_split = none add;
    del_split = none del;
    same = λ p less. absurd (omega arith);
  }
    where
      none : (xs : List ℕ) → Splits xs 0 0
      none xs = record {
        within = omega arith;
        below = λ k less. absurd (omega arith);
        over = λ k past within. omega arith;
      }

  module _ (s : Stand) (b : ℕ) (m : IsMerged list held add del s b) where
    -- equal atoms from here on
    module _ (many : ℕ) (in_list : s.listed + many ≤ length list)
        (in_held : s.held + many ≤ length held)
        (alike : (k : ℕ) → k < many
        → get_or list (s.listed + k) 0 ≡ get_or held (s.held + k) 0) where
      held_there : (k p : ℕ) → s.held ≤ k → k < s.held + many → get_or held k 0 ≡ p
          → (j : ℕ) × (j < s.listed + many) × (get_or list j 0 ≡ p)
      held_there k p past less is =
          let e : k ≡ s.held + (k - s.held) = omega arith in (
            s.listed + (k - s.held),
            omega arith,
            alike (k - s.held) (omega arith)
                ∙ sym (ap (λ j. get_or held j 0) e) ∙ is,
          )

      list_there : (k p : ℕ) → s.listed ≤ k → k < s.listed + many → get_or list k 0 ≡ p
          → (j : ℕ) × (j < s.held + many) × (get_or held j 0 ≡ p)
      list_there k p past less is =
          let e : k ≡ s.listed + (k - s.listed) = omega arith in (
            s.held + (k - s.listed),
            omega arith,
            sym (alike (k - s.listed) (omega arith))
                ∙ sym (ap (λ j. get_or list j 0) e) ∙ is,
          )

      pub run_same : (p : ℕ) → b ≤ p → names_atom add p ≡ false → names_atom del p ≡ false
          → (s.listed + many < length list → p < get_or list (s.listed + many) 0)
          → (s.held + many < length held → p < get_or held (s.held + many) 0)
          → made add del held p ≡ names_atom list p
      run_same p upto no_add no_del list_over held_over =
          made_untouched add del held p no_add no_del
          ∙ same_from_decides {P = names_atom list p ≡ true} (names_atom held p)
          (names_atom list p) (to_list, to_held) (λ e. e, λ e. e)
        where
          to_list : names_atom held p ≡ true → names_atom list p ≡ true
          to_list e =
              let c = place_from held held_rises s.held b m.held_split p upto e in
              let is = c.3 in
              let within = c.2 in
              elim (cases_lt c.0 (s.held + many)) [
                | inl less ↦
                    let there = held_there c.0 p c.1 less is in
                    let inside = there.1 in
                    named_at list there.0 p (omega arith) there.2
                | inr past ↦
                    let first = held_over (omega arith) in
                    let more = rises_upto held (s.held + many) c.0 held_rises past within in
                    absurd (omega arith)
              ]

          to_held : names_atom list p ≡ true → names_atom held p ≡ true
          to_held e =
              let c = place_from list list_rises s.listed b m.list_split p upto e in
              let is = c.3 in
              let within = c.2 in
              elim (cases_lt c.0 (s.listed + many)) [
                | inl less ↦
                    let there = list_there c.0 p c.1 less is in
                    let inside = there.1 in
                    named_at held there.0 p (omega arith) there.2
                | inr past ↦
                    let first = list_over (omega arith) in
                    let more = rises_upto list (s.listed + many) c.0 list_rises past within in
                    absurd (omega arith)
              ]

      -- the bound from which on the effect may touch an atom
      module _ (t : ℕ) (no_add : (p : ℕ) → b ≤ p → p < t → names_atom add p ≡ false)
          (no_del : (p : ℕ) → b ≤ p → p < t → names_atom del p ≡ false)
          (same : (p : ℕ) → made add del held p ≡ names_atom list p) where
        more_listed : s.listed + many < length list → get_or list (s.listed + many) 0 < t
            → (s.held + many < length held
            → get_or list (s.listed + many) 0 < get_or held (s.held + many) 0) → ⊥
        more_listed within less held_over =
            let x = get_or list (s.listed + many) 0 in
            let upto = m.list_split.over (s.listed + many) (omega arith) within in
            let e = sym (made_untouched add del held x (no_add x upto less) (no_del x upto less))
            ∙ same x ∙ named_at list (s.listed + many) x within refl in
            let c = place_from held held_rises s.held b m.held_split x upto e in
            let is = c.3 in
            let in_ = c.2 in
            elim (cases_lt c.0 (s.held + many)) [
              | inl old ↦
                  let there = held_there c.0 x c.1 old is in
                  let is_too = there.2 in
                  let apart = rises_apart list there.0 (s.listed + many) list_rises there.1
                  within in omega arith
              | inr past ↦
                  let first = held_over (omega arith) in
                  let more = rises_upto held (s.held + many) c.0 held_rises past in_ in omega arith
            ]

        more_held : s.held + many < length held → get_or held (s.held + many) 0 < t
            → (s.listed + many < length list
            → get_or held (s.held + many) 0 < get_or list (s.listed + many) 0) → ⊥
        more_held within less list_over =
            let y = get_or held (s.held + many) 0 in
            let upto = m.held_split.over (s.held + many) (omega arith) within in
            let e = sym (same y)
            ∙ made_untouched add del held y (no_add y upto less) (no_del y upto less)
            ∙ named_at held (s.held + many) y within refl in
            let c = place_from list list_rises s.listed b m.list_split y upto e in
            let is = c.3 in
            let in_ = c.2 in
            elim (cases_lt c.0 (s.listed + many)) [
              | inl old ↦
                  let there = list_there c.0 y c.1 old is in
                  let is_too = there.2 in
                  let apart = rises_apart held there.0 (s.held + many) held_rises there.1
                  within in omega arith
              | inr past ↦
                  let first = list_over (omega arith) in
                  let more = rises_upto list (s.listed + many) c.0 list_rises past in_ in
                  omega arith
            ]

        pub run_fails : (stop : s.listed + many < length list → s.held + many < length held
            → get_or list (s.listed + many) 0 ≡ get_or held (s.held + many) 0
            → t ≤ get_or list (s.listed + many) 0)
            → ((s.listed + many < length list) × (get_or list (s.listed + many) 0 < t))
            ⊎ ((s.held + many < length held) × (get_or held (s.held + many) 0 < t)) → ⊥
        run_fails stop (inl (within, less)) =
            elim (cases_lt (s.held + many) (length held)) [
              | inl there ↦ elim (cases_order (get_or list (s.listed + many) 0)
                  (get_or held (s.held + many) 0)) [
                    | inl equal ↦ let no = stop within there equal in omega arith
                    | inr (inl lesser) ↦ more_listed within less (λ _. lesser)
                    | inr (inr greater) ↦ more_held there (omega arith) (λ _. greater)
                  ]
              | inr gone ↦ more_listed within less (λ there. absurd (omega arith))
            ]
        run_fails stop (inr (there, less)) =
            elim (cases_lt (s.listed + many) (length list)) [
              | inl within ↦ elim (cases_order (get_or list (s.listed + many) 0)
                  (get_or held (s.held + many) 0)) [
                    | inl equal ↦ let no = stop within there equal in omega arith
                    | inr (inl lesser) ↦ more_listed within (omega arith) (λ _. lesser)
                    | inr (inr greater) ↦ more_held there less (λ _. greater)
                  ]
              | inr gone ↦ more_held there less (λ within. absurd (omega arith))
            ]

      -- past the run, up to the next atom that is touched
      pub run_passed : (t : ℕ) → b ≤ t
          → ((k : ℕ) → k < many → get_or list (s.listed + k) 0 < t)
          → (s.listed + many < length list → t ≤ get_or list (s.listed + many) 0)
          → (s.held + many < length held → t ≤ get_or held (s.held + many) 0)
          → (s.added < length add → t ≤ get_or add s.added 0)
          → (s.deleted < length del → t ≤ get_or del s.deleted 0)
          → IsMerged list held add del (record {
            listed = s.listed + many;
            held = s.held + many;
            added = s.added;
            deleted = s.deleted;
          }) t
      run_passed t upto less list_over held_over add_over del_over = record {
        list_split = record {
          within = in_list;
          below = λ k before. elim (cases_lt k s.listed) [
            | inl old ↦ let below = m.list_split.below k old in omega arith
            | inr new ↦
                let e : k ≡ s.listed + (k - s.listed) = omega arith in
                let same = ap (λ j. get_or list j 0) e in
                let below = less (k - s.listed) (omega arith) in omega arith
          ];
          over = λ k past within.
              let first = list_over (omega arith) in
              let more = rises_upto list (s.listed + many) k list_rises past within in omega arith;
        };
        held_split = record {
          within = in_held;
          below = λ k before. elim (cases_lt k s.held) [
            | inl old ↦ let below = m.held_split.below k old in omega arith
            | inr new ↦
                let e : k ≡ s.held + (k - s.held) = omega arith in
                let same = ap (λ j. get_or held j 0) e in
                let equal = alike (k - s.held) (omega arith) in
                let below = less (k - s.held) (omega arith) in omega arith
          ];
          over = λ k past within.
              let first = held_over (omega arith) in
              let more = rises_upto held (s.held + many) k held_rises past within in omega arith;
        };
        add_split = split_wider add add_rises s.added b m.add_split t upto add_over;
        del_split = split_wider del del_rises s.deleted b m.del_split t upto del_over;
        same = λ p before. elim (cases_lt p b) [
          | inl old ↦ m.same p old
          | inr new ↦
              run_same p new
              (none_between add add_rises s.added b m.add_split t p add_over new before)
              (none_between del del_rises s.deleted b m.del_split t p del_over new before)
              (λ within. let over = list_over within in omega arith)
              (λ within. let over = held_over within in omega arith)
        ];
      }

    -- past an atom that the effect touches
    pub touched_passed : (next : Stand)
        → (names_atom add b ≡ true) ⊎ (names_atom del b ≡ true)
        → names_atom list b ≡ names_atom add b
        → Splits list next.listed (b + 1) → Splits held next.held (b + 1)
        → Splits add next.added (b + 1) → Splits del next.deleted (b + 1)
        → IsMerged list held add del next (b + 1)
    touched_passed next touched agree in_list in_held in_add in_del = record {
      list_split = in_list;
      held_split = in_held;
      add_split = in_add;
      del_split = in_del;
      same = λ p before. elim (cases_lt p b) [
        | inl old ↦ m.same p old
        | inr last ↦
            let e : b ≡ p = omega arith in
            subst (λ q. made add del held q ≡ names_atom list q) e
            (made_touched add del held b touched ∙ sym agree)
      ];
    }

-- the next atom that the effect touches isn't below the bound
pub next_upto : (list held add del : List ℕ) (s : Stand) (b atom : ℕ)
    → IsMerged list held add del s b → IsNextTouched add del s atom → b ≤ atom
next_upto list held add del s b atom m next =
    elim next.one [
      | inl here ↦ let is = here.1 in
          let over = m.add_split.over s.added (omega arith) here.0 in omega arith
      | inr here ↦ let is = here.1 in
          let over = m.del_split.over s.deleted (omega arith) here.0 in omega arith
    ]

-- and it is touched
pub next_touches : (add del : List ℕ) (s : Stand) (atom : ℕ) → IsNextTouched add del s atom
    → (names_atom add atom ≡ true) ⊎ (names_atom del atom ≡ true)
next_touches add del s atom next =
    elim next.one [
      | inl here ↦ inl (named_at add s.added atom here.0 here.1)
      | inr here ↦ inr (named_at del s.deleted atom here.0 here.1)
    ]

-- where all are passed there is none from the bound on
pub none_left : (xs : List ℕ) (rises : IsStrictlyIncreasing xs) (i b : ℕ) → Splits xs i b
    → length xs ≤ i → (p : ℕ) → b ≤ p → names_atom xs p ≡ false
none_left xs rises i b split all p upto =
    none_between xs rises i b split (p + 1) p (λ within. absurd (omega arith)) upto (omega arith)

module _ (list held add del : List ℕ) (list_rises : IsStrictlyIncreasing list)
    (held_rises : IsStrictlyIncreasing held) (add_rises : IsStrictlyIncreasing add)
    (del_rises : IsStrictlyIncreasing del) (s : Stand) (b : ℕ)
    (m : IsMerged list held add del s b) (many : ℕ) (in_list : s.listed + many ≤ length list)
    (in_held : s.held + many ≤ length held)
    (alike : (k : ℕ) → k < many → get_or list (s.listed + k) 0 ≡ get_or held (s.held + k) 0)
    (atom : ℕ) (next : IsNextTouched add del s atom) where
  -- the lists differ before the next atom that the effect touches
  pub past_fails : (s.listed + many < length list → s.held + many < length held
      → get_or list (s.listed + many) 0 ≡ get_or held (s.held + many) 0
      → atom ≤ get_or list (s.listed + many) 0)
      → ((s.listed + many < length list) × (get_or list (s.listed + many) 0 < atom))
      ⊎ ((s.held + many < length held) × (get_or held (s.held + many) 0 < atom))
      → ((p : ℕ) → made add del held p ≡ names_atom list p) → ⊥
  past_fails stop either same =
      run_fails list held add del list_rises held_rises add_rises del_rises s b m many in_list
      in_held alike atom
      (λ p upto less. none_between add add_rises s.added b m.add_split atom p next.added upto less)
      (λ p upto less. none_between del del_rises s.deleted b m.del_split atom p next.deleted upto
      less) same stop either

  -- or the walk has come to it
  pub past_run : ((k : ℕ) → k < many → get_or list (s.listed + k) 0 < atom)
      → (s.listed + many < length list → atom ≤ get_or list (s.listed + many) 0)
      → (s.held + many < length held → atom ≤ get_or held (s.held + many) 0)
      → IsMerged list held add del (record {
        listed = s.listed + many;
        held = s.held + many;
        added = s.added;
        deleted = s.deleted;
      }) atom
  past_run less list_over held_over =
      run_passed list held add del list_rises held_rises add_rises del_rises s b m many in_list
      in_held alike atom (next_upto list held add del s b atom m next) less list_over held_over
      next.added next.deleted
