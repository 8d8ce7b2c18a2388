-- The turns of the search for reached pairs.
use Rattle.std.proofs.Common.{◌≡◌, ℕ, ◌+◌, ◌<◌, ◌≤◌, ◌∙◌, Bool, true, false, cond, ◌||◌, eqb, List}
use Rattle.std.proofs.Common.{length, set, get_or, refl, sym, ap, arith, inl, inr, subst, slice_get}
use Rattle.std.proofs.Common.{Some}
use Rattle.std.proofs.lemmas.Bool.{cases_Bool, cases_eq, cases_lt, cond-true, cond-false, eq-eqb}
use Rattle.std.proofs.lemmas.Bool.{ne_eqb, or_cases, or_parts}
use Rattle.std.proofs.lemmas.List.Elements.{All-contains, Contains-get_or}
use Rattle.std.proofs.lemmas.List.{length-set, get_or_default}
use Rattle.std.specs.Global.{Vec}
use Rattle.std.specs.List.{Contains}
use Rattle.hv_task.specs.declared.action.Action.{Action}
use Rattle.hv_task.specs.State.{has_atom, names_atom}
use Rattle.hv_task.proofs.Places.{has_atom-set, names_atom-Decides}
use Rattle.hv_task.proofs.Next.{unnamed}
use Rattle.hv_task.proofs.Listing.{within_state}
use Rattle.hv_rows.specs.Rows.{IsInRow}
use Rattle.hv_reach.proofs.Sets.{rest_later}
use Rattle.hv_reach.proofs.Steps.{ready_step}
use Rattle.hv_reach.specs.declared.pair_search.PairSearch.{PairSearch}
use Rattle.hv_reach.specs.Index.{IsActionIndex}
use Rattle.hv_reach.specs.Reached.{has_pair}
use Rattle.hv_reach.specs.Working.Table.{HaveTheirPairs, HaveTheirPairsBut, IsPairStep, HasItsPairs}
use Rattle.hv_reach.specs.Working.Table.{IsPairTable, IsTrigger, IsTurn, KeepAllPairs}
use Rattle.hv_reach.specs.Working.Table.{PairsGrowWithin, missing_cells}

pub turn_both : (actions : List Action) (a b c : PairSearch) (m k : Bool) → IsTurn actions a b m
    → IsTurn actions b c k → IsTurn actions a c (m || k)
turn_both actions a b c m k s t = record {
  grows = λ p q e. t.grows p q (s.grows p q e);
  still = λ e x d. let w = or_parts m k e in s.still w.0 x (t.still w.1 x d);
  fewer = let u = s.fewer in let v = t.fewer in omega arith;
  falls = λ e. let u = s.fewer in let v = t.fewer in
      elim (or_cases m k e) [
        | inl o ↦ let z = s.falls o in
            omega arith
        | inr o ↦ let z = t.falls o in omega arith
      ];
  least = λ r even keeps within. t.least r even keeps (s.least r even keeps within);
}

-- a flag that is raised after one was lowered is another one, and was raised before
pub lowered_other : (flags : List Bool) (x y : ℕ) → has_atom (set flags x false) y ≡ true
    → (has_atom flags y ≡ true) × (x ≡ y → ⊥)
lowered_other flags x y h =
    let less : y < length flags = let w = within_state (set flags x false) y h in
    omega (arith, length-set flags x false) in
    let e = sym (has_atom-set flags x y false less) ∙ h in
    elim (cases_eq x y) [
      | inl same ↦ let f = sym (cond-true (eqb x y) false (has_atom flags y) (eq-eqb x y same))
          ∙ e in absurd cc
      | inr other ↦ (
        sym (cond-false (eqb x y) false (has_atom flags y) (ne_eqb x y other))
            ∙ e,
        other,
      )
    ]

pub lowered_stays : (flags : List Bool) (x y : ℕ) → (x ≡ y → ⊥) → has_atom flags y ≡ true
    → has_atom (set flags x false) y ≡ true
lowered_stays flags x y other h =
    has_atom-set flags x y false (within_state flags y h)
    ∙ (cond-false (eqb x y) false (has_atom flags y) (ne_eqb x y other) ∙ h)

pub turn_from_step : (n : ℕ) (actions : List Action) (old new : PairSearch) (x : ℕ) (m : Bool)
    → IsPairStep n old.rows.items (set old.flags x false) new.rows.items new.flags m
    → PairsGrowWithin (KeepAllPairs actions) old.rows.items new.rows.items
    → IsTurn actions old new m
turn_from_step n actions old new x m step least = record {
  grows = step.grows;
  still = λ e y h. (lowered_other old.flags x y (step.still e y h)).0;
  fewer = step.fewer;
  falls = step.falls;
  least = least;
}

pub lowered_after : (n : ℕ) (old new : List (List Bool)) (flags raised : List Bool) (x : ℕ)
    (m : Bool) → IsPairStep n old (set flags x false) new raised m
    → m ≡ false → has_atom raised x ≡ false
lowered_after n old new flags raised x m step e =
    elim (cases_Bool (has_atom raised x)) [
      | inl up ↦ absurd ((lowered_other flags x x (step.still e x up)).1 refl)
      | inr down ↦ down
    ]

-- where a flag is lowered, each action is ready or one of those that the flag denotes
pub ready_lowered : (n : ℕ) (actions : List Action) (index : List (Vec ℕ)) (row : Vec ℕ)
    (rows : List (List Bool)) (flags : List Bool) (x : ℕ)
    → IsActionIndex n actions index → slice_get index x ≡ Some row
    → HaveTheirPairs n actions rows flags
    → HaveTheirPairsBut row.items 0 n actions rows (set flags x false)
ready_lowered n actions index row rows flags x is_index at_row ready k a is =
    elim (ready k a is) [
      | inl keeps ↦ inl (inl keeps)
      | inr w ↦
          elim (cases_eq x w.0) [
            | inl same ↦
                let c = subst (λ y. IsInRow index y k) (sym same) (in_index w.0 w.1) row at_row in
                inr (c.0, omega arith, c.1, get_or_default row.items c.0 0 k c.1 ∙ c.2)
            | inr other ↦ inl (inr (w.0, w.1, lowered_stays flags x w.0 other w.2))
          ]
    ]
  where
    in_index : (y : ℕ) → IsTrigger n a y → IsInRow index y k
    in_index y trigger =
        elim trigger [
          | inl c ↦ All-contains (λ p. IsInRow index p k) a.pre y (is_index.has k a is) c
          | inr e ↦ subst (λ z. IsInRow index z k) (sym e.0) (is_index.past k a is e.1)
        ]

-- after a visit of one more
pub ready_more : (n : ℕ) (actions : List Action) (numbers : List ℕ) (i x : ℕ)
    (old new : List (List Bool)) (flags raised : List Bool) (m : Bool) (b : Action)
    → x ≡ get_or numbers i 0 → IsPairTable n old → IsPairStep n old flags new raised m
    → HaveTheirPairsBut numbers i n actions old flags
    → slice_get actions x ≡ Some b → HasItsPairs n new raised b
    → HaveTheirPairsBut numbers (i + 1) n actions new raised
ready_more n actions numbers i x old new flags raised m b e table step before at_x here k a is =
    elim (cases_eq k x) [
      | inl same ↦
          let f : b ≡ a = let g = subst (λ j. slice_get actions j ≡ Some a) same is in cc in
          inl (subst (λ (y : Action). HasItsPairs n new raised y) f here)
      | inr other ↦
          elim (before k a is) [
            | inl s ↦ inl (ready_step n old new flags raised m a table step s)
            | inr left ↦ inr (rest_later numbers i x k e other left)
          ]
    ]

-- when none is left
pub ready_end : (numbers : List ℕ) (i n : ℕ) (actions : List Action) (rows : List (List Bool))
    (flags : List Bool) → length numbers ≤ i → HaveTheirPairsBut numbers i n actions rows flags
    → HaveTheirPairs n actions rows flags
ready_end numbers i n actions rows flags past all k a is =
    elim (all k a is) [
      | inl ready ↦ ready
      | inr w ↦ let f = w.1 in let g = w.2 in absurd (omega arith)
    ]

pub quiet_more : (actions : List Action) (old new : PairSearch) (x : ℕ) (m k : Bool)
    → IsTurn actions old new k
    → (m ≡ false → (y : ℕ) → y < x → has_atom old.flags y ≡ false)
    → (k ≡ false → has_atom new.flags x ≡ false)
    → (m || k) ≡ false → (y : ℕ) → y < x + 1 → has_atom new.flags y ≡ false
quiet_more actions old new x m k turn before here e y less =
    let w = or_parts m k e in
    elim (cases_lt y x) [
      | inl lt ↦
          elim (cases_Bool (has_atom new.flags y)) [
            | inl up ↦ let f = turn.still w.1 y up in let g = before w.0 y lt in absurd cc
            | inr down ↦ down
          ]
      | inr ge ↦ let same : x ≡ y = omega arith in
          subst (λ z. has_atom new.flags z ≡ false) same (here w.1)
    ]

-- where no flag is raised before one, and from it on none that is at hand, none is
pub quiet_before : (flags : List Bool) (from : ℕ) (m : Bool) (Here : ℕ → Type 0)
    → (m ≡ false → (y : ℕ) → y < from → has_atom flags y ≡ false)
    → ((y : ℕ) → from ≤ y → Here y → has_atom flags y ≡ false)
    → m ≡ false → (y : ℕ) → Here y → has_atom flags y ≡ false
quiet_before flags from m Here before after still y here =
    elim (cases_lt y from) [
      | inl lt ↦ before still y lt
      | inr ge ↦ after y ge here
    ]

-- where no flag is raised, the table keeps all pairs
pub keeps_quiet : (n : ℕ) (actions : List Action) (rows : List (List Bool)) (flags : List Bool)
    → length flags ≡ n + 1 → HaveTheirPairs n actions rows flags
    → ((x : ℕ) → x ≤ n → has_atom flags x ≡ false) → KeepAllPairs actions (has_pair rows)
keeps_quiet n actions rows flags size ready quiet k a is =
    elim (ready k a is) [
      | inl keeps ↦ keeps
      | inr w ↦ let less = within_state flags w.0 w.2 in let e = quiet w.0 (omega arith) in
          let f = w.2 in absurd cc
    ]

-- an atom of a list isn't left where the list doesn't name it
pub unnamed_other : (list : List ℕ) (i q : ℕ) → i < length list → names_atom list q ≡ false
    → get_or list i 0 ≡ q → ⊥
unnamed_other list i q less free e = let f = (names_atom-Decides list q).1
    (subst (λ x. Contains list x) e (Contains-get_or list i 0 less)) in absurd cc

pub not_named : (list : List ℕ) (q : ℕ) → ((k : ℕ) → k < length list → get_or list k 0 ≡ q → ⊥)
    → names_atom list q ≡ false
not_named list q none = unnamed list q (λ c. none c.0 c.1 (get_or_default list c.0 0 q c.1 ∙ c.2))

-- one atom more is taken out
pub taken_more : (list : List ℕ) (i : ℕ) (first old : List Bool)
    → ((q : ℕ) → has_atom old q ≡ true → (has_atom first q ≡ true)
    × ((k : ℕ) → k < i → get_or list k 0 ≡ q → ⊥))
    → (q : ℕ) → has_atom (set old (get_or list i 0) false) q ≡ true
    → (has_atom first q ≡ true) × ((k : ℕ) → k < i + 1 → get_or list k 0 ≡ q → ⊥)
taken_more list i first old before q h =
    let w = lowered_other old (get_or list i 0) q h in
    let b = before q w.0 in (
      b.0,
      λ k less e. elim (cases_lt k i) [
        | inl lt ↦ b.1 k lt e
        | inr ge ↦ let same : k ≡ i = omega arith in w.1 (ap (λ j. get_or list j 0) (sym same) ∙ e)
      ],
    )

-- a round with a turn that put pairs in leaves fewer missing, and one without is the last
pub work_falls : (actions : List Action) (a b c : PairSearch) (m k : Bool) → IsTurn actions a b m
    → IsTurn actions b c k
    → missing_cells c.rows.items + cond k 1 0 < missing_cells a.rows.items + 1
work_falls actions a b c m true s t = let u = s.fewer in let v = t.falls refl in omega arith
work_falls actions a b c m false s t = let u = s.fewer in let v = t.fewer in omega arith
