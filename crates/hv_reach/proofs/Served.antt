-- What the search for reached pairs knows of actions: how it stays, and what it gives.
use Rattle.std.proofs.Common.{◌≡◌, ℕ, suc, ◌+◌, ◌<◌, ◌≤◌, ◌∙◌, ◌⊎◌, Bool, true, false, List, []}
use Rattle.std.proofs.Common.{◌∷◌, length, set, get_or, slice_get, Some, refl, sym, ap, arith, inl}
use Rattle.std.proofs.Common.{inr, subst, Option, None, ◌&&◌, not}
use Rattle.std.proofs.lemmas.Bool.{cases_Bool, cases_eq, cases_lt}
use Rattle.std.proofs.lemmas.Grind.{get_or-set_at}
use Rattle.std.proofs.lemmas.List.{get_or_default, get_or_past, get_or-set_other}
use Rattle.std.proofs.lemmas.Option.{slice_get_within}
use Rattle.std.proofs.lemmas.List.Elements.{All-cons, All-contains, All-contains_itself, All-nil}
use Rattle.std.specs.Global.{Vec}
use Rattle.std.specs.List.{All, Contains}
use Rattle.std.specs.List.Sorted.{IsStrictlyIncreasing}
use Rattle.std.specs.Option.{IfSome}
use Rattle.hv_task.specs.declared.action.Action.{Action}
use Rattle.hv_task.specs.Atoms.{IsNext}
use Rattle.hv_task.specs.State.{AreBelow, has_atom, names_atom}
use Rattle.hv_task.specs.Strips.{Strips, atoms}
use Rattle.hv_task.proofs.Listing.{within_state}
use Rattle.hv_task.proofs.Places.{names_atom-Decides}
use Rattle.hv_task.proofs.Rising.{rises_apart}
use Rattle.hv_rows.specs.Rows.{IsInRow}
use Rattle.hv_reach.proofs.Cells.{in_both}
use Rattle.hv_reach.proofs.Sets.{All-from_zero, rest_later, set_grows}
use Rattle.hv_reach.proofs.Steps.{quiet_or}
use Rattle.hv_reach.proofs.Turns.{lowered_stays}
use Rattle.hv_reach.specs.declared.pair_course.Glance.{Glance}
use Rattle.hv_reach.specs.declared.pair_course.Lack.{Lack}
use Rattle.hv_reach.specs.declared.pair_course.News.{News}
use Rattle.hv_reach.specs.declared.pair_course.ActionStanding.{ActionStanding}
use Rattle.hv_reach.specs.declared.pair_course.ActionStanding.TheVariants as S
use Rattle.hv_reach.specs.declared.pair_search.PairSearch.{PairSearch}
use Rattle.hv_reach.specs.Index.{IsActionIndex}
use Rattle.hv_reach.specs.Reached.{HasPairsOf, LeavesAlone, has_pair}
use Rattle.hv_reach.specs.Working.Course.{ArePairedBefore, IsAskedFor, IsGlance}
use Rattle.hv_reach.specs.Working.Course.{IsLack, IsNews, IsPairSearch, IsServed, IsSpaceFor}
use Rattle.hv_reach.specs.Working.Course.{IsTelling, IsRowTold, StandAll, StandAllBut, StandsSo}
use Rattle.hv_reach.specs.Working.Table.{HasItsPairs, IsJoined, IsPairStep, IsPairTable, IsSquare}

-- every pair of the old table is in the new one
abbrev pub Grows : List (List Bool) → List (List Bool) → Type 0
Grows old new = (p q : ℕ) → has_pair old p q ≡ true → has_pair new p q ≡ true

-- what was told stays so after a step
pub told_step : (n : ℕ) (Asked : ℕ → Type 0) (old new : List (List Bool)) (flags raised : List Bool)
    (m : Bool) (told : List (List Bool)) → IsPairStep n old flags new raised m
    → IsRowTold n Asked old flags told → IsRowTold n Asked new raised told
told_step n Asked old new flags raised m told step before = record {
  size = before.size;
  each = before.each;
  within = λ p q h. step.grows p q (before.within p q h);
  raised = λ p asked q h. elim (step.raises p q h) [
    | inl o ↦ elim (before.raised p asked q o) [
      | inl d ↦ inl d
      | inr f ↦ inr (step.stay p f)
    ]
    | inr w ↦ inr w.0
  ];
}

-- where it is so of the atoms that some action asks for, it is so of those that this one asks for
pub told_for : (n : ℕ) (actions : List Action) (rows : List (List Bool)) (flags : List Bool)
    (told : List (List Bool)) (k : ℕ) (a : Action) → slice_get actions k ≡ Some a
    → IsRowTold n (IsAskedFor actions) rows flags told
    → IsRowTold n (Contains a.pre) rows flags told
told_for n actions rows flags told k a is before = record {
  size = before.size;
  each = before.each;
  within = before.within;
  raised = λ p asked. before.raised p (k, a, is, asked);
}

-- a pair of a table is of two of its rows
first_within : (rows : List (List Bool)) (p q : ℕ) → has_pair rows p q ≡ true → p < length rows
first_within rows p q h =
    elim (cases_lt p (length rows)) [
      | inl lt ↦ lt
      | inr ge ↦
          let e : has_atom [] q ≡ true = subst (λ (r : List Bool). has_atom r q ≡ true)
          (get_or_past rows p [] ge) h in absurd cc
    ]

-- and where a row is told, and its flag lowered
pub told_lowered : (n : ℕ) (actions : List Action) (index : List (Vec ℕ)) (row : Vec ℕ)
    (rows old new : List (List Bool)) (flags : List Bool) (x : ℕ) (news : News)
    → IsActionIndex n actions index → slice_get index x ≡ Some row → IsPairTable n rows
    → IsRowTold n (IsAskedFor actions) rows flags old → IsTelling n row.items rows old new x news
    → IsRowTold n (IsAskedFor actions) rows (set flags x false) new
told_lowered n actions index row rows old new flags x news is_index at table before tells = record {
  size = tells.size;
  each = tells.each;
  within = λ p q h. elim (tells.fresh p q h) [
    | inl o ↦ before.within p q o
    | inr w ↦ subst (λ y. has_pair rows y q ≡ true) (sym w.0) w.1
  ];
  raised = λ p asked q h. elim (cases_eq x p) [
    | inl same ↦
        let less = first_within rows p q h in
        let size = table.size in
        let one = All-contains (λ y. IsInRow index y asked.0) asked.1.pre p
        (is_index.has asked.0 asked.1 asked.2) asked.3 row
        (subst (λ y. slice_get index y ≡ Some row) same at) in
        let some = one.1 in
        inl (subst (λ y. has_pair new y q ≡ true) same
        (tells.whole (omega arith) (omega arith) q
        (subst (λ y. has_pair rows y q ≡ true) (sym same) h)))
    | inr other ↦ elim (before.raised p asked q h) [
      | inl d ↦ inl (tells.keeps p q d)
      | inr f ↦ inr (lowered_stays flags x p other f)
    ]
  ];
}

-- at the start nothing is told
pub told_start : (n : ℕ) (Asked : ℕ → Type 0) (old new : List (List Bool))
    (flags raised : List Bool) (m : Bool) (told : List (List Bool))
    → IsPairStep n old flags new raised m
    → ((p q : ℕ) → has_pair old p q ≡ false) → ((p q : ℕ) → has_pair told p q ≡ false)
    → IsPairTable n told → n < length raised → IsRowTold n Asked new (set raised n true) told
told_start n Asked old new flags raised m told step none nothing table less = record {
  size = table.size;
  each = table.each;
  within = λ p q h. let e = nothing p q in absurd cc;
  raised = λ p asked q h. elim (step.raises p q h) [
    | inl o ↦ let e = none p q in absurd cc
    | inr w ↦ inr (set_grows raised n p less w.0)
  ];
}

-- how an action stands stays so where the table grows
pub lack_grows : (old new : List (List Bool)) (list : List ℕ) (lack : Lack) → Grows old new
    → IsLack (has_pair old) list lack → IsLack (has_pair new) list lack
lack_grows old new list lack grows is = record {
  row = is.row;
  column = is.column;
  first = is.first;
  second = is.second;
  before = record {
    rows = λ i j less within below. grows (get_or list i 0) (get_or list j 0)
        (is.before.rows i j less within below);
    columns = λ j less below. grows (get_or list lack.row 0) (get_or list j 0)
        (is.before.columns j less below);
  };
}

served_grows : (But : ℕ → Type 0) (told old new : List (List Bool)) (a : Action) → Grows old new
    → IsServed But told old a → IsServed But told new a
served_grows But told old new a grows is = record {
  pre = λ i d less j e below. grows (get_or a.pre i d) (get_or a.pre j e)
      (is.pre i d less j e below);
  add = λ i d less j e below. grows (get_or a.add i d) (get_or a.add j e)
      (is.add i d less j e below);
  each = λ q free all. elim (is.each q free all) [
    | inl but ↦ inl but
    | inr put ↦ inr (λ i d less. grows (get_or a.add i d) q (put i d less))
  ];
}

pub stands_grows : (But : ℕ → Type 0) (told old new : List (List Bool)) (a : Action)
    (s : ActionStanding) → Grows old new → StandsSo But told old a s → StandsSo But told new a s
stands_grows But told old new a S.New grows is = is
stands_grows But told old new a (S.Lacks lack) grows is = lack_grows old new a.pre lack grows is
stands_grows But told old new a (S.Ready glance) grows is =
    (is.0, served_grows But told old new a grows is.1)

-- without the exception
served_weak : (But : ℕ → Type 0) (told rows : List (List Bool)) (a : Action)
    → IsServed (λ q. ⊥) told rows a → IsServed But told rows a
served_weak But told rows a is = record {
  pre = is.pre;
  add = is.add;
  each = λ q free all. elim (is.each q free all) [
    | inl never ↦ absurd never
    | inr put ↦ inr put
  ];
}

pub stands_weak : (But : ℕ → Type 0) (told rows : List (List Bool)) (a : Action) (s : ActionStanding)
    → StandsSo (λ q. ⊥) told rows a s → StandsSo But told rows a s
stands_weak But told rows a S.New is = is
stands_weak But told rows a (S.Lacks lack) is = is
stands_weak But told rows a (S.Ready glance) is = (is.0, served_weak But told rows a is.1)

-- all are of one kind, or there is the other
all_or : (A : ℕ → Type 0) (B : Type 0) (xs : List ℕ) → All (λ x. A x ⊎ B) xs → All A xs ⊎ B
all_or A B [] all = inl (All-nil A)
all_or A B (x ∷ xs) all =
    elim (all 0 0 (omega arith)) [
      | inr b ↦ inr b
      | inl a ↦
          elim (all_or A B xs (λ i d less. all (suc i) d (omega arith))) [
            | inl rest ↦ inl (All-cons A x xs a rest)
            | inr b ↦ inr b
          ]
    ]

module _ (n : ℕ) (numbers : List ℕ) (rows old new : List (List Bool)) (x : ℕ) (news : News)
    (tells : IsTelling n numbers rows old new x news) where
  -- after a row is told
  served_told : (a : Action) → IsServed (λ q. ⊥) old rows a → IsServed (IsNews news) new rows a
  served_told a is = record {
    pre = is.pre;
    add = is.add;
    each = λ q free all.
        elim (all_or (λ p. has_pair old p q ≡ true) (IsNews news q) a.pre
        (λ i d less. elim (tells.fresh (get_or a.pre i d) q (all i d less)) [
          | inl o ↦ inl o
          | inr w ↦ inr w.2
        ])) [
          | inl before ↦ elim (is.each q free before) [
            | inl never ↦ absurd never
            | inr put ↦ inr put
          ]
          | inr is_news ↦ inl is_news
        ];
  }

  -- it isn't one of the action's precondition
  served_apart : (a : Action) → (Contains a.pre x → ⊥) → IsServed (λ q. ⊥) old rows a
      → IsServed (λ q. ⊥) new rows a
  served_apart a apart is = record {
    pre = is.pre;
    add = is.add;
    each = λ q free all. is.each q free
        (λ i d less. elim (tells.fresh (get_or a.pre i d) q (all i d less)) [
          | inl o ↦ o
          | inr w ↦ absurd (apart (subst (Contains a.pre) w.0
              (All-contains_itself a.pre i d less)))
        ]);
  }

  stands_told : (a : Action) (s : ActionStanding) → StandsSo (λ q. ⊥) old rows a s
      → StandsSo (IsNews news) new rows a s
  stands_told a S.New is = is
  stands_told a (S.Lacks lack) is = is
  stands_told a (S.Ready glance) is = (is.0, served_told a is.1)

  stands_apart : (a : Action) (s : ActionStanding) → (Contains a.pre x → ⊥)
      → StandsSo (λ q. ⊥) old rows a s → StandsSo (λ q. ⊥) new rows a s
  stands_apart a S.New apart is = is
  stands_apart a (S.Lacks lack) apart is = is
  stands_apart a (S.Ready glance) apart is = (is.0, served_apart a apart is.1)

  pub stand_told : (actions : List Action) (index : List (Vec ℕ)) (row : Vec ℕ)
      (standing : List ActionStanding) → IsActionIndex n actions index → slice_get index x ≡ Some row
      → StandAll (λ q. ⊥) actions old rows standing
      → StandAllBut row.items 0 (IsNews news) actions new rows standing
  stand_told actions index row standing is_index at_row before k a s is at =
      elim (cases_Bool (names_atom a.pre x)) [
        | inl named ↦
            let c = All-contains (λ p. (row : Vec ℕ) → slice_get index p ≡ Some row
            → Contains row.items k) a.pre x (is_index.has k a is)
            ((names_atom-Decides a.pre x).0 named) row at_row in
            inr (
              (c.0, omega arith, c.1, get_or_default row.items c.0 0 k c.1 ∙ c.2),
              stands_told a s (before k a s is at),
            )
        | inr not ↦
            inl (stands_apart a s (λ c. let e = (names_atom-Decides a.pre x).1 c in cc)
            (before k a s is at))
      ]

-- what is known of the next action that is visited
pub stand_next : (numbers : List ℕ) (i x : ℕ) (But : ℕ → Type 0) (actions : List Action)
    (told rows : List (List Bool)) (standing : List ActionStanding) (a : Action) (s : ActionStanding)
    → StandAllBut numbers i But actions told rows standing → slice_get actions x ≡ Some a
    → slice_get standing x ≡ Some s → StandsSo But told rows a s
stand_next numbers i x But actions told rows standing a s before is at =
    elim (before x a s is at) [
      | inl none ↦ stands_weak But told rows a s none
      | inr w ↦ w.1
    ]

-- after a visit of one more
pub stand_more : (numbers : List ℕ) (i x : ℕ) (But : ℕ → Type 0) (actions : List Action)
    (told old new : List (List Bool)) (standing after : List ActionStanding) (b : Action)
    → x ≡ get_or numbers i 0 → Grows old new
    → StandAllBut numbers i But actions told old standing → slice_get actions x ≡ Some b
    → ((k : ℕ) → (k ≡ x → ⊥) → slice_get after k ≡ slice_get standing k)
    → ((s : ActionStanding) → slice_get after x ≡ Some s → StandsSo (λ q. ⊥) told new b s)
    → StandAllBut numbers (i + 1) But actions told new after
stand_more numbers i x But actions told old new standing after b e grows before is_b others here
    k a s is at =
    elim (cases_eq k x) [
      | inl same ↦
          let f : b ≡ a = let g = subst (λ j. slice_get actions j ≡ Some a) same is in cc in
          inl (subst (λ (y : Action). StandsSo (λ q. ⊥) told new y s) f
          (here s (subst (λ j. slice_get after j ≡ Some s) same at)))
      | inr other ↦
          elim (before k a s is (sym (others k other) ∙ at)) [
            | inl none ↦ inl (stands_grows (λ q. ⊥) told old new a s grows none)
            | inr w ↦ inr (
              rest_later numbers i x k e other w.0,
              stands_grows But told old new a s grows w.1,
            )
          ]
    ]

-- when none is left
pub stand_end : (numbers : List ℕ) (i : ℕ) (But : ℕ → Type 0) (actions : List Action)
    (told rows : List (List Bool)) (standing : List ActionStanding) → length numbers ≤ i
    → StandAllBut numbers i But actions told rows standing
    → StandAll (λ q. ⊥) actions told rows standing
stand_end numbers i But actions told rows standing past all k a s is at =
    elim (all k a s is at) [
      | inl none ↦ none
      | inr w ↦ let f = w.0.1 in let g = w.0.2 in absurd (omega arith)
    ]

-- an action that lacks a pair is ready
pub lack_ready : (n : ℕ) (rows : List (List Bool)) (flags : List Bool) (a : Action) (lack : Lack)
    → IsLack (has_pair rows) a.pre lack → has_pair rows lack.first lack.second ≡ false
    → HasItsPairs n rows flags a
lack_ready n rows flags a lack is out = inl record {
  both = λ pairs. absurd (missing pairs);
  other = λ q free pairs joined. absurd (missing pairs);
}
  where
    missing : HasPairsOf (has_pair rows) a.pre → ⊥
    missing pairs =
        let here = subst (λ p. has_pair rows p lack.second ≡ true) is.first
        (subst (λ q. has_pair rows (get_or a.pre lack.row 0) q ≡ true) is.second
        (pairs lack.row 0 is.row lack.column 0 is.column)) in
        let e : false ≡ true = sym out ∙ here in cc

-- one that is served is ready
pub served_ready : (n : ℕ) (rows : List (List Bool)) (flags : List Bool)
    (told : List (List Bool)) (a : Action) → IsRowTold n (Contains a.pre) rows flags told
    → IsServed (λ q. ⊥) told rows a → HasItsPairs n rows flags a
served_ready n rows flags told a is_told is =
    elim (quiet_or n flags a) [
      | inl w ↦ inr w
      | inr quiet ↦ inl (record {
        both = λ pairs. is.add;
        other = λ q free pairs joined.
            elim (is.each q free (λ i d less.
            elim (is_told.raised (get_or a.pre i d) (All-contains_itself a.pre i d less) q
            (joined.1 i d less)) [
              | inl told ↦ told
              | inr up ↦ let e = quiet.pre i d less in absurd cc
            ])) [
              | inl never ↦ absurd never
              | inr put ↦ put
            ];
      })
    ]

-- it is served where all that it gives was put in
pub given_served : (n : ℕ) (told old new : List (List Bool)) (a : Action) → IsPairTable n old
    → Grows told old → 0 < length a.pre → Grows old new
    → HasPairsOf (has_pair old) a.pre → HasPairsOf (has_pair new) a.add
    → ((q : ℕ) → LeavesAlone a q → IsJoined (has_pair old) a.pre q
    → All (λ p. has_pair new p q ≡ true) a.add) → IsServed (λ q. ⊥) told new a
given_served n told old new a table known some grows pre add other = record {
  pre = λ i d less j e below. grows (get_or a.pre i d) (get_or a.pre j e) (pre i d less j e below);
  add = add;
  each = λ q free all. inr (other q free (
    table.whole (get_or a.pre 0 0) q (known (get_or a.pre 0 0) q (all 0 0 some)),
    λ i d less. known (get_or a.pre i d) q (all i d less),
  ));
}

-- and where that was done for the news
pub followed_served : (told old new : List (List Bool)) (a : Action) (news : News)
    → Grows told old → Grows old new → news.many ≡ false
    → IsServed (IsNews news) told old a
    → ((k : ℕ) → k < news.count → LeavesAlone a (get_or news.atoms.items k 0)
    → All (λ p. has_pair old p (get_or news.atoms.items k 0) ≡ true) a.pre
    → All (λ p. has_pair new p (get_or news.atoms.items k 0) ≡ true) a.add)
    → IsServed (λ q. ⊥) told new a
followed_served told old new a news known grows few is done = record {
  pre = λ i d less j e below. grows (get_or a.pre i d) (get_or a.pre j e)
      (is.pre i d less j e below);
  add = λ i d less j e below. grows (get_or a.add i d) (get_or a.add j e)
      (is.add i d less j e below);
  each = λ q free all. elim (is.each q free all) [
    | inr put ↦ inr (λ i d less. grows (get_or a.add i d) q (put i d less))
    | inl is_news ↦ elim is_news [
      | inl many ↦ let e : false ≡ true = sym few ∙ many in absurd cc
      | inr w ↦ inr (subst (λ y. All (λ p. has_pair new p y ≡ true) a.add) w.2
          (done w.0 w.1 (subst (LeavesAlone a) (sym w.2) free)
          (λ i d less. subst (λ y. has_pair old (get_or a.pre i d) y ≡ true) (sym w.2)
          (known (get_or a.pre i d) q (all i d less)))))
    ]
  ];
}

-- a list that rises is at each place at least at the number of the place
pub rises_past : (xs : List ℕ) (i : ℕ) → IsStrictlyIncreasing xs → i < length xs
    → i ≤ get_or xs i 0
rises_past xs Prim.Native.Nat.zero rises less = omega arith
rises_past xs (suc i) rises less =
    let before = rises_past xs i rises (omega arith) in
    let apart = rises_apart xs i (suc i) rises (omega arith) less in omega arith

-- the pairs before a row, where the row before has all
pub before_next : (set : ℕ → ℕ → Bool) (list : List ℕ) (row column : ℕ)
    → ArePairedBefore set list row column
    → ((j : ℕ) → column ≤ j → j < length list
    → set (get_or list row 0) (get_or list j 0) ≡ true) → ArePairedBefore set list (row + 1) 0
before_next set list row column before rest = record {
  rows = λ i j less within below. elim (cases_lt i row) [
    | inl lt ↦ before.rows i j lt within below
    | inr ge ↦
        let same : row ≡ i = omega arith in
        subst (λ k. set (get_or list k 0) (get_or list j 0) ≡ true) same (in_row j below)
  ];
  columns = λ j less below. absurd (omega arith);
}
  where
    in_row : (j : ℕ) → j < length list → set (get_or list row 0) (get_or list j 0) ≡ true
    in_row j below = elim (cases_lt j column) [
      | inl lt ↦ before.columns j lt below
      | inr ge ↦ rest j ge below
    ]

-- all pairs, past the last row
pub before_end : (set : ℕ → ℕ → Bool) (list : List ℕ) (row column : ℕ) → length list ≤ row
    → ArePairedBefore set list row column → HasPairsOf set list
before_end set list row column past before =
    All-from_zero (λ p. All (λ q. set p q ≡ true) list) list
    (λ i less. All-from_zero (λ q. set (get_or list i 0) q ≡ true) list
    (λ j below. before.rows i j (omega arith) less below))

-- one atom more is among the news
pub news_more : (atoms : List ℕ) (count x k : ℕ) → count < length atoms → k < count + 1
    → ((k < count) × (get_or (set atoms count x) k 0 ≡ get_or atoms k 0))
    ⊎ ((k ≡ count) × (get_or (set atoms count x) k 0 ≡ x))
news_more atoms count x k less below =
    elim (cases_eq k count) [
      | inl same ↦ inr (same, get_or-set_at atoms count k x 0 same less)
      | inr other ↦ inl (omega arith, get_or-set_other atoms count k x 0 other)
    ]

-- the next flag is one of the flags
pub raised_within : (flags : List Bool) (from : ℕ) (next : Option ℕ)
    → IsNext (has_atom flags) from next → IfSome next (λ x. (from ≤ x) × (x < length flags))
raised_within flags from None is = tt
raised_within flags from (Some x) is = (is.0, within_state flags x is.1)

-- what is new before a place of the row, with one more
pub fresh_more : (row told : List Bool) (atoms : List ℕ) (count from x : ℕ)
    → count < length atoms
    → ((q : ℕ) → q < from → has_atom row q ≡ true → (has_atom told q ≡ true)
    ⊎ ((k : ℕ) × (k < count) × (get_or atoms k 0 ≡ q)))
    → IsNext (λ p. has_atom row p && not (has_atom told p)) from (Some x)
    → (q : ℕ) → q < x + 1 → has_atom row q ≡ true → (has_atom told q ≡ true)
    ⊎ ((k : ℕ) × (k < count + 1) × (get_or (set atoms count x) k 0 ≡ q))
fresh_more row told atoms count from x less before next q below held =
    elim (cases_lt q from) [
      | inl lt ↦ elim (before q lt held) [
        | inl known ↦ inl known
        | inr w ↦ inr (
          w.0,
          omega (arith, w.1),
          get_or-set_other atoms count w.0 x 0
              (λ e. let f = w.1 in omega arith) ∙ w.2,
        )
      ]
      | inr ge ↦ elim (cases_lt q x) [
        | inl lt ↦ inl (in_both _ _ (next.2 q ge lt) held)
        | inr past ↦
            let same : x ≡ q = omega arith in
            inr (count, omega arith, get_or-set_at atoms count count x 0 refl less ∙ same)
      ]
    ]

-- what is at a place of a list with one item written
pub got_other : {X : Type 0} (xs : List X) (i k : ℕ) (y : X) → (k ≡ i → ⊥)
    → slice_get (set xs i y) k ≡ slice_get xs k
got_other [] i k y other = refl
got_other (x ∷ xs) Prim.Native.Nat.zero Prim.Native.Nat.zero y other = absurd (other refl)
got_other (x ∷ xs) Prim.Native.Nat.zero (suc k) y other = refl
got_other (x ∷ xs) (suc i) Prim.Native.Nat.zero y other = refl
got_other (x ∷ xs) (suc i) (suc k) y other = got_other xs i k y (λ e. other (ap suc e))

pub got_here : {X : Type 0} (xs : List X) (i : ℕ) (y z : X)
    → slice_get (set xs i y) i ≡ Some z → y ≡ z
got_here [] i y z at = absurd (cc at)
got_here (x ∷ xs) Prim.Native.Nat.zero y z at = cc at
got_here (x ∷ xs) (suc i) y z at = got_here xs i y z at

-- how an action stands that was found to lack no pair
pub stands_entered : (told rows : List (List Bool)) (a : Action) (s : ActionStanding)
    → ((glance : Glance) → s ≡ S.Ready glance → IsGlance a.pre glance)
    → ((lack : Lack) → s ≡ S.Lacks lack → ⊥)
    → (0 < length a.pre → IsServed (λ q. ⊥) told rows a) → StandsSo (λ q. ⊥) told rows a s
stands_entered told rows a S.New glances lacks served = tt
stands_entered told rows a (S.Lacks lack) glances lacks served = absurd (lacks lack refl)
stands_entered told rows a (S.Ready glance) glances lacks served =
    let g = glances glance refl in
    (g, served (let less = g.0.1 in omega arith))

-- a table is square
pub square : (n : ℕ) (rows : List (List Bool)) → IsPairTable n rows → IsSquare n rows
square n rows table = record { size = table.size; each = table.each }

-- what a search leaves is space for the next one
pub space_left : (task : Strips) (search : PairSearch) → IsPairSearch task search
    → IsSpaceFor (atoms task) search
space_left task search is = record {
  rows = square (atoms task) search.rows.items is.table;
  flags = is.size;
  course = record {
    told = record { size = is.told.size; each = is.told.each };
    mask = is.sized.mask;
    seen = is.sized.seen;
  };
}

-- where nothing is known
pub stand_new : (actions : List Action) (told rows : List (List Bool))
    (standing : List ActionStanding)
    → length standing ≡ length actions
    → ((k : ℕ) → k < length actions → slice_get standing k ≡ Some S.New)
    → StandAll (λ q. ⊥) actions told rows standing
stand_new actions told rows standing size new k a s is at =
    let e : S.New ≡ s = let f = new k (slice_get_within actions k a is) in cc in
    subst (StandsSo (λ q. ⊥) told rows a) e tt

-- the atoms of a pair that is missing are of the list
pub lack_below : (n : ℕ) (set : ℕ → ℕ → Bool) (list : List ℕ) (lack : Lack) → AreBelow n list
    → IsLack set list lack → (lack.first < n) × (lack.second < n)
lack_below n set list lack below is = (
  subst (λ p. p < n) is.first (below lack.row 0 is.row),
  subst (λ p. p < n) is.second (below lack.column 0 is.column),
)

-- what a row has are the pairs of its atom
pub row_pair : (n : ℕ) (rows : List (List Bool)) (row : List Bool) (p q : ℕ) (b : Bool)
    → IsPairTable n rows → p < n → row ≡ get_or rows p row → has_atom row q ≡ b
    → has_pair rows p q ≡ b
row_pair n rows row p q b table less at out =
    let size = table.size in
    ap (λ (r : List Bool). has_atom r q) (get_or_default rows p [] row (omega arith) ∙ sym at) ∙ out

pub row_size : (n : ℕ) (rows : List (List Bool)) (row : List Bool) (p : ℕ) → IsPairTable n rows
    → p < n → row ≡ get_or rows p row → length row ≡ n
row_size n rows row p table less at =
    let size = table.size in
    ap (λ (r : List Bool). length r) at ∙ table.each p row (omega arith)
