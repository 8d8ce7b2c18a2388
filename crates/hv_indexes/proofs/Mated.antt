-- What is tried of a formula for a listed state decides whether the state is in the formula.
use Rattle.std.proofs.Common.{◌≡◌, ◌∙◌, ◌+◌, ◌-◌, ◌<◌, ◌≤◌, ◌++◌, ◌⊎◌, ◌↔◌, ℕ, Bool}
use Rattle.std.proofs.Common.{true, false, not}
use Rattle.std.proofs.Common.{List, [], ◌∷◌, Option, None, Some, IfSome, length, get_or, map}
use Rattle.std.proofs.Common.{refl, sym, ap, arith, subst, inl, inr}
use Rattle.std.proofs.lemmas.Bool.{cases_lt}
use Rattle.std.proofs.lemmas.List.{get_or_default}
use Rattle.std.proofs.lemmas.List.{get_or-map, get_or_append_left, get_or_push, length-map}
use Rattle.std.proofs.lemmas.List.{length_push}
use Rattle.std.proofs.lemmas.List.Edits.{get_or-between, length-between}
use Rattle.std.proofs.lemmas.List.Elements.{All-contains, Contains-append_left, Contains-get_or}
use Rattle.std.proofs.lemmas.List.Elements.{Contains-push, Contains-push_cases}
use Rattle.std.specs.List.{All, Contains}
use Rattle.std.specs.List.Sorted.{IsNonDecreasingBy, IsStrictlyIncreasing}
use Rattle.std.specs.Prelude.{slice_range}
use Rattle.hv_task.specs.State.{AreBelow, has_atom, state_of}
use Rattle.hv_task.proofs.Places.{has_atom-state_of, names_atom-Decides}
use Rattle.hv_sets.specs.declared.literal.Literal.{Literal}
use Rattle.hv_sets.specs.Cubes.{SpeakBelow}
use Rattle.hv_sets.specs.Truth.{in_clause, in_clauses, in_literal}
use Rattle.hv_indexes.specs.declared.clusters.Cluster.{Cluster}
use Rattle.hv_indexes.specs.declared.clusters.ClusterList.{ClusterList}
use Rattle.hv_indexes.specs.declared.clusters.Clusters.{Clusters}
use Rattle.hv_indexes.specs.declared.mates.Mates.{Mates}
use Rattle.hv_indexes.specs.declared.put_clauses.PutClauses.{PutClauses}
use Rattle.hv_indexes.specs.declared.rows.RowHead.{RowHead}
use Rattle.hv_indexes.specs.declared.rows.RowRange.{RowRange}
use Rattle.hv_indexes.specs.declared.screens.Screen.{Screen}
use Rattle.hv_indexes.specs.Places.{clause_at}
use Rattle.hv_indexes.specs.Mates.{AreClusters, AreMates, IsCluster, IsPutUnder, IsPutUnderOwn}
use Rattle.hv_indexes.specs.Mates.{IsExact, IsScreened, cluster_places, AreTried}
use Rattle.hv_indexes.specs.Working.Mates.{AreClustersUpto, ArePut, IsDecidedAs, IsDue}
use Rattle.hv_indexes.specs.Working.Mates.{IsPutBy, PutsCluster}
use Rattle.hv_indexes.specs.Rows.{AreCoded, AreHeads, IsPartOf, code, key_of, place_of_code}
use Rattle.hv_indexes.proofs.Keyed.{code_is, key_of-code, number_of-code, row_from}
use Rattle.hv_indexes.proofs.Truths.{clause_has, clauses_by, one_false}

-- a literal is true where its atom has its sign
pub true_as : (sign : Bool) (p : ℕ) (s : List Bool) → has_atom s p ≡ sign
    → in_literal (record { atom = p; positive = sign }) s ≡ true
true_as true p s e = e
true_as false p s e = ap not e

pub sign_or : (sign b : Bool) → (b ≡ sign) ⊎ (b ≡ not sign)
sign_or true true = inl refl
sign_or true false = inr refl
sign_or false true = inr refl
sign_or false false = inl refl

pub not_both : (sign b : Bool) → b ≡ sign → b ≡ not sign → ⊥
not_both true true e f = let g : true ≡ false = f in absurd cc
not_both true false e f = let g : false ≡ true = e in absurd cc
not_both false true e f = let g : true ≡ false = e in absurd cc
not_both false false e f = let g : false ≡ true = f in absurd cc

-- a part of a list has items of the list alone
pub part_contains : (xs : List ℕ) (from upto x : ℕ) → upto ≤ length xs
    → Contains (slice_range xs from upto) x → Contains xs x
part_contains xs from upto x ends (k, less, is) =
    let size = length-between xs from upto ends in
    let in_part : k < upto - from = omega (arith, less, size) in (
      from + k,
      omega arith,
      sym (get_or-between xs from upto k x (omega arith)) ∙ is,
    )

-- what all items are below, those of a part are below, too
pub part_inside : (xs : List ℕ) (from upto n : ℕ) → upto ≤ length xs
    → ((k : ℕ) → k < length xs → get_or xs k 0 < n)
    → (k : ℕ) → k < length (slice_range xs from upto) → get_or (slice_range xs from upto) k 0 < n
part_inside xs from upto n ends all k less =
    let size = length-between xs from upto ends in
    let in_part : k < upto - from = omega (arith, less, size) in
    subst (λ x. x < n) (sym (get_or-between xs from upto k 0 (omega arith)))
    (all (from + k) (omega arith))

-- one item more is inside, too
pub push_inside : (xs : List ℕ) (y n : ℕ) → y < n → ((k : ℕ) → k < length xs → get_or xs k 0 < n)
    → (k : ℕ) → k < length (xs ++ y ∷ []) → get_or (xs ++ y ∷ []) k 0 < n
push_inside xs y n less all k early =
    let long = length_push xs y in
    elim (cases_lt k (length xs)) [
      | inl before ↦ subst (λ x. x < n) (sym (get_or_append_left xs (y ∷ []) 0 k before))
          (all k before)
      | inr late ↦ subst (λ x. x < n)
          (sym (get_or_push xs y 0 k (omega (arith, early, late, long)))) less
    ]

-- one clause more has a literal of a screen
pub screens_more : (clauses : List (List Literal)) (places : List ℕ) (at : ℕ) (old new : Screen)
    → ((clause : List Literal) → IsScreened old clause → IsScreened new clause)
    → ((k : ℕ) → k < at → IsScreened old (clause_at clauses (get_or places k 0)))
    → IsScreened new (clause_at clauses (get_or places at 0))
    → (k : ℕ) → k < at + 1 → IsScreened new (clause_at clauses (get_or places k 0))
screens_more clauses places at old new keeps before here k less = elim (cases_lt k at) [
  | inl early ↦ keeps (clause_at clauses (get_or places k 0)) (before k early)
  | inr late ↦
      let e : at ≡ k = omega (arith, less, late) in
      subst (λ i. IsScreened new (clause_at clauses (get_or places i 0))) e here
]

pub screens_all : (clauses : List (List Literal)) (places : List ℕ) (at : ℕ) (screen : Screen)
    → length places ≤ at
    → ((k : ℕ) → k < at → IsScreened screen (clause_at clauses (get_or places k 0)))
    → (c : ℕ) → Contains places c → IsScreened screen (clause_at clauses c)
screens_all clauses places at screen past all c (k, less, is) =
    subst (λ n. IsScreened screen (clause_at clauses n)) (get_or_default places k 0 c less ∙ is)
    (all k (omega (arith, less, past)))

module _ (clauses : List (List Literal)) (place : ℕ) (less : place < length clauses)
    (few : length clauses ≤ 4294967295) (old : PutClauses) (is : ArePut clauses place old) where
  place_is : (p : ℕ) → place_of_code (code p place) ≡ place
  place_is p = number_of-code p place (omega (arith, less, few))

  codes_inside : (codes : List ℕ) (p : ℕ)
      → ((x : ℕ) → Contains codes x → place_of_code x < length clauses)
      → (x : ℕ) → Contains (codes ++ code p place ∷ []) x → place_of_code x < length clauses
  codes_inside codes p all x has = elim (Contains-push_cases codes (code p place) x has) [
    | inl was ↦ all x was
    | inr same ↦ subst (λ y. place_of_code y < length clauses) same
        (subst (λ n. n < length clauses) (sym (place_is p)) less)
  ]

  stays_by : (sign : Bool) (codes : List ℕ) (x c : ℕ) → IsPutBy sign clauses codes c
      → IsPutBy sign clauses (codes ++ x ∷ []) c
  stays_by sign codes x c (p, has, coded) =
      (p, has, Contains-append_left codes (x ∷ []) (code p c) coded)

  -- the next clause is among the others
  pub put_other : (new : PutClauses) → new.negative ≡ old.negative → new.positive ≡ old.positive
      → new.others.items ≡ old.others.items ++ place ∷ [] → ArePut clauses (place + 1) new
  put_other new negative positive others = record {
    negative = subst (λ v. (x : ℕ) → Contains v.items x → place_of_code x < length clauses)
        (sym negative) is.negative;
    positive = subst (λ v. (x : ℕ) → Contains v.items x → place_of_code x < length clauses)
        (sym positive) is.positive;
    others = subst (λ xs. (k : ℕ) → k < length xs → get_or xs k 0 < length clauses) (sym others)
        (push_inside old.others.items place (length clauses) less is.others);
    whole = λ c early. elim (cases_lt c place) [
      | inl before ↦ elim (is.whole c before) [
        | inl has ↦ inl (subst (λ xs. Contains xs c) (sym others)
            (Contains-append_left old.others.items (place ∷ []) c has))
        | inr else ↦ inr (elim else [
          | inl by ↦ inl (subst (λ v. IsPutBy false clauses v.items c) (sym negative) by)
          | inr by ↦ inr (subst (λ v. IsPutBy true clauses v.items c) (sym positive) by)
        ])
      ]
      | inr late ↦
          let e : place ≡ c = omega (arith, early, late) in
          inl (subst (λ xs. Contains xs c) (sym others)
          (subst (λ x. Contains (old.others.items ++ place ∷ []) x) e
          (Contains-push old.others.items place)))
    ];
  }

  module _ (own : Literal) (has : Contains (clause_at clauses place) own) where
    put_here : (sign : Bool) (codes : List ℕ) → own.positive ≡ sign
        → IsPutBy sign clauses (codes ++ code own.atom place ∷ []) place
    put_here sign codes same = (
      own.atom,
      subst (λ b. Contains (clause_at clauses place) (record { atom = own.atom; positive = b }))
          same has,
      Contains-push codes (code own.atom place),
    )

    here : (sign : Bool) (codes : List ℕ) → own.positive ≡ sign → (c : ℕ) → place ≡ c
        → IsPutBy sign clauses (codes ++ code own.atom place ∷ []) c
    here sign codes same c e =
        subst (λ x. IsPutBy sign clauses (codes ++ code own.atom place ∷ []) x) e
        (put_here sign codes same)

    -- the next clause is put under a negative literal
    pub put_negative : own.positive ≡ false → (new : PutClauses)
        → new.negative.items ≡ old.negative.items ++ code own.atom place ∷ []
        → new.positive ≡ old.positive → new.others ≡ old.others → ArePut clauses (place + 1) new
    put_negative sign new negative positive others = record {
      negative = subst (λ xs. (x : ℕ) → Contains xs x → place_of_code x < length clauses)
          (sym negative) (codes_inside old.negative.items own.atom is.negative);
      positive = subst (λ v. (x : ℕ) → Contains v.items x → place_of_code x < length clauses)
          (sym positive) is.positive;
      others = subst (λ v. (k : ℕ) → k < length v.items → get_or v.items k 0 < length clauses)
          (sym others) is.others;
      whole = λ c early. elim (cases_lt c place) [
        | inl before ↦ elim (is.whole c before) [
          | inl has ↦ inl (subst (λ v. Contains v.items c) (sym others) has)
          | inr else ↦ inr (elim else [
            | inl by ↦ inl (subst (λ xs. IsPutBy false clauses xs c) (sym negative)
                (stays_by false old.negative.items (code own.atom place) c by))
            | inr by ↦ inr (subst (λ v. IsPutBy true clauses v.items c) (sym positive) by)
          ])
        ]
        | inr late ↦ inr (inl (subst (λ xs. IsPutBy false clauses xs c) (sym negative)
            (here false old.negative.items sign c (omega (arith, early, late)))))
      ];
    }

    -- or under a positive one
    pub put_positive : own.positive ≡ true → (new : PutClauses)
        → new.positive.items ≡ old.positive.items ++ code own.atom place ∷ []
        → new.negative ≡ old.negative → new.others ≡ old.others → ArePut clauses (place + 1) new
    put_positive sign new positive negative others = record {
      positive = subst (λ xs. (x : ℕ) → Contains xs x → place_of_code x < length clauses)
          (sym positive) (codes_inside old.positive.items own.atom is.positive);
      negative = subst (λ v. (x : ℕ) → Contains v.items x → place_of_code x < length clauses)
          (sym negative) is.negative;
      others = subst (λ v. (k : ℕ) → k < length v.items → get_or v.items k 0 < length clauses)
          (sym others) is.others;
      whole = λ c early. elim (cases_lt c place) [
        | inl before ↦ elim (is.whole c before) [
          | inl has ↦ inl (subst (λ v. Contains v.items c) (sym others) has)
          | inr else ↦ inr (elim else [
            | inl by ↦ inl (subst (λ v. IsPutBy false clauses v.items c) (sym negative) by)
            | inr by ↦ inr (subst (λ xs. IsPutBy true clauses xs c) (sym positive)
                (stays_by true old.positive.items (code own.atom place) c by))
          ])
        ]
        | inr late ↦ inr (inr (subst (λ xs. IsPutBy true clauses xs c) (sym positive)
            (here true old.positive.items sign c (omega (arith, early, late)))))
      ];
    }

-- one screen more is exact, too
exact_screens : (clauses : List (List Literal)) (screens : List Screen) (screen : Screen)
    → ((k : ℕ) (d : Screen) → k < length screens → IsExact clauses (get_or screens k d))
    → IsExact clauses screen → (k : ℕ) (d : Screen) → k < length (screens ++ screen ∷ [])
    → IsExact clauses (get_or (screens ++ screen ∷ []) k d)
exact_screens clauses screens screen all exact k d early =
    let long = length_push screens screen in
    elim (cases_lt k (length screens)) [
      | inl before ↦ subst (IsExact clauses)
          (sym (get_or_append_left screens (screen ∷ []) d k before)) (all k d before)
      | inr late ↦ subst (IsExact clauses)
          (sym (get_or_push screens screen d k (omega (arith, early, late, long)))) exact
    ]

module _ (clauses : List (List Literal)) (heads : List RowHead) (places : List ℕ) (at : ℕ)
    (old new : ClusterList) (is : AreClustersUpto clauses heads places at old)
    (longer : length old.screens.items ≤ length new.screens.items)
    (same : (k : ℕ) (d : Screen) → k < length old.screens.items
    → get_or new.screens.items k d ≡ get_or old.screens.items k d) where
  screen_stays : (cluster : Cluster) (o : Option ℕ)
      → IfSome o (λ k. (k < length old.screens.items)
      × ((d : Screen) (c : ℕ) → Contains (cluster_places places cluster) c
      → IsScreened (get_or old.screens.items k d) (clause_at clauses c)))
      → IfSome o (λ k. (k < length new.screens.items)
      × ((d : Screen) (c : ℕ) → Contains (cluster_places places cluster) c
      → IsScreened (get_or new.screens.items k d) (clause_at clauses c)))
  screen_stays cluster None was = tt
  screen_stays cluster (Some k) (less, all) = (
    omega (arith, less, longer),
    λ d c has. subst (λ s. IsScreened s (clause_at clauses c)) (sym (same k d less)) (all d c has),
  )

  -- screens that are put behind change nothing
  kept_cluster : (cluster : Cluster) → IsCluster clauses places old.screens.items cluster
      → IsCluster clauses places new.screens.items cluster
  kept_cluster cluster was = record {
    starts = was.starts;
    ends = was.ends;
    screened = screen_stays cluster cluster.screen was.screened;
  }

  -- one cluster more
  pub clusters_more : (cluster : Cluster)
      → new.clusters.items ≡ old.clusters.items ++ cluster ∷ []
      → IsCluster clauses places new.screens.items cluster
      → ((codes : List ℕ) → AreHeads codes heads → length codes ≡ length places → (d : RowHead)
      → IsPartOf (get_or heads at d).key codes places (cluster_places places cluster))
      → ((k : ℕ) (d : Screen) → k < length new.screens.items
      → IsExact clauses (get_or new.screens.items k d))
      → AreClustersUpto clauses heads places (at + 1) new
  clusters_more cluster put here part exact = record {
    exact = exact;
    size = ap length put ∙ (length_push old.clusters.items cluster ∙ ap (λ n. n + 1) is.size);
    each = λ j e early. elim (cases_lt j at) [
      | inl before ↦ subst (λ x. IsCluster clauses places new.screens.items x)
          (sym (was j e before))
          (kept_cluster (get_or old.clusters.items j e) (is.each j e before))
      | inr late ↦ subst (λ x. IsCluster clauses places new.screens.items x)
          (sym (now j e (omega (arith, early, late)))) here
    ];
    parts = λ codes are size j d e early. elim (cases_lt j at) [
      | inl before ↦
          subst (λ x. IsPartOf (get_or heads j d).key codes places (cluster_places places x))
          (sym (was j e before)) (is.parts codes are size j d e before)
      | inr late ↦
          let one : j ≡ at = omega (arith, early, late) in
          subst (λ x. IsPartOf (get_or heads j d).key codes places (cluster_places places x))
          (sym (now j e one))
          (subst (λ i. IsPartOf (get_or heads i d).key codes places (cluster_places places cluster))
          (sym one) (part codes are size d))
    ];
  }
    where
      was : (j : ℕ) (e : Cluster) → j < at
          → get_or new.clusters.items j e ≡ get_or old.clusters.items j e
      was j e before = ap (λ xs. get_or xs j e) put
          ∙ get_or_append_left old.clusters.items (cluster ∷ []) e j
          (let size = is.size in omega arith)

      now : (j : ℕ) (e : Cluster) → j ≡ at → get_or new.clusters.items j e ≡ cluster
      now j e one = ap (λ xs. get_or xs j e) put
          ∙ get_or_push old.clusters.items cluster e j (is.size ∙ sym one)

-- where there are no clusters, none of the heads has one
pub clusters_none : (clauses : List (List Literal)) (heads : List RowHead) (places : List ℕ)
    (list : ClusterList) → list.clusters.items ≡ [] → list.screens.items ≡ []
    → AreClustersUpto clauses heads places 0 list
clusters_none clauses heads places list none bare = record {
  size = ap length none;
  each = λ j e less. absurd (omega (arith, less));
  parts = λ codes are size j d e less. absurd (omega (arith, less));
  exact = λ k d less.
      let size : length list.screens.items ≡ 0 = ap length bare in
      absurd (omega (arith, less, size));
}

-- a cluster was put of what is put under the next head
pub puts_cluster : (clauses : List (List Literal)) (heads : List RowHead) (places : List ℕ)
    (at : ℕ) (old new : ClusterList) → AreClustersUpto clauses heads places at old
    → (range : RowRange) (screen : Option Screen) → PutsCluster old range screen new
    → range.from ≤ range.upto → range.upto ≤ length places
    → IfSome screen (λ s. (c : ℕ) → Contains (slice_range places range.from range.upto) c
    → IsScreened s (clause_at clauses c))
    → IfSome screen (IsExact clauses)
    → ((codes : List ℕ) → AreHeads codes heads → length codes ≡ length places → (d : RowHead)
    → IsPartOf (get_or heads at d).key codes places (slice_range places range.from range.upto))
    → AreClustersUpto clauses heads places (at + 1) new
puts_cluster clauses heads places at old new is range None (put, same) starts ends screened exact
    part =
    clusters_more clauses heads places at old new is
    (let e = ap length same in omega arith) (λ k d less. ap (λ xs. get_or xs k d) same)
    (record { range = range; screen = None }) put
    (record { starts = starts; ends = ends; screened = tt }) part
    (subst (λ xs. (k : ℕ) (d : Screen) → k < length xs → IsExact clauses (get_or xs k d)) (sym same)
    is.exact)
puts_cluster clauses heads places at old new is range (Some screen) (put, more) starts ends screened
    exact part =
    let long : length new.screens.items ≡ length old.screens.items + 1 = ap length more
    ∙ length_push old.screens.items screen in
    clusters_more clauses heads places at old new is (omega arith)
    (λ k d less. ap (λ xs. get_or xs k d) more
    ∙ get_or_append_left old.screens.items (screen ∷ []) d k less)
    (record { range = range; screen = Some (length old.screens.items) }) put
    (record {
      starts = starts;
      ends = ends;
      screened = (
        omega (arith, long),
        λ d c has. subst (λ s. IsScreened s (clause_at clauses c))
            (sym (ap (λ xs. get_or xs (length old.screens.items) d) more
            ∙ get_or_push old.screens.items screen d (length old.screens.items) refl))
            (screened c has),
      );
    }) part
    (subst (λ xs. (k : ℕ) (d : Screen) → k < length xs → IsExact clauses (get_or xs k d)) (sym more)
    (exact_screens clauses old.screens.items screen is.exact exact))

-- the clauses of sorted codes are among the clauses
pub places_inside : (codes sorted places : List ℕ) (n : ℕ) → places ≡ map place_of_code sorted
    → ((c : ℕ) → Contains sorted c ↔ Contains codes c)
    → ((x : ℕ) → Contains codes x → place_of_code x < n)
    → (k : ℕ) → k < length places → get_or places k 0 < n
places_inside codes sorted places n numbers has inside k less =
    let size : length places ≡ length sorted = ap length numbers
    ∙ length-map sorted place_of_code in
    let in_sorted : k < length sorted = omega (arith, less, size) in
    subst (λ x. x < n)
    (sym (ap (λ xs. get_or xs k 0) numbers ∙ get_or-map place_of_code sorted k 0 0 in_sorted))
    (inside (get_or sorted k 0)
    ((has (get_or sorted k 0)).0 (Contains-get_or sorted k 0 in_sorted)))

-- the clusters of all heads
pub clusters_are : (clauses : List (List Literal)) (them : Clusters)
    → IsNonDecreasingBy (λ h. h.key) them.heads.items
    → ((k : ℕ) → k < length them.places.items → get_or them.places.items k 0 < length clauses)
    → AreClustersUpto clauses them.heads.items them.places.items (length them.heads.items) them.list
    → AreClusters clauses them
clusters_are clauses them rises inside are = record {
  rises = rises;
  size = are.size;
  inside = inside;
  each = are.each;
  exact = are.exact;
}

-- what codes are of is put under their keys
module _ (codes places : List ℕ) (rises : IsStrictlyIncreasing codes)
    (numbers : places ≡ map place_of_code codes) where
  abbrev Coded : ℕ → ℕ → Type 0
  Coded key number = Contains codes (code key number) × (number < 4294967296)

  coded : AreCoded Coded codes places
  coded = record {
    rises = rises;
    has = λ c. (
      λ has. (
        key_of c,
        place_of_code c,
        code_is c,
        omega arith,
        (subst (Contains codes) (code_is c) has, omega arith),
      ),
      λ found. subst (Contains codes) (sym found.2) found.4.0,
    );
    small = λ key number pair. pair.1;
    numbers_are = numbers;
  }

  pub owned_by : (clauses : List (List Literal)) (them : Clusters) → places ≡ them.places.items
      → AreHeads codes them.heads.items → length codes ≡ length places
      → AreClustersUpto clauses them.heads.items places (length them.heads.items) them.list
      → (p c : ℕ) → c < 4294967296 → Contains codes (code p c) → IsPutUnder them p c
  owned_by clauses them same heads size are p c few has = record {
    some =
        let found = heads.all has.0 has.1 in (
          found.0,
          found.1,
          λ d. found.2 d
              ∙ (ap key_of (get_or_default codes has.0 0 (code p c) has.1 ∙ has.2)
              ∙ key_of-code p c few),
        );
    all = λ j d e less is.
        let cluster = get_or them.list.clusters.items j e in
        subst (λ xs. Contains (cluster_places xs cluster) c) same
        (((row_from Coded codes places p (cluster_places places cluster) coded
        (subst (λ key. IsPartOf key codes places (cluster_places places cluster)) is
        (are.parts codes heads size j d e less))).has c).1 (has, few));
  }

module _ (state : List Bool) (held : List ℕ) (is_of : state ≡ state_of (length state) held)
    (below : AreBelow (length state) held) where
  pub is_held : (p : ℕ) → p < length state → has_atom state p ≡ true → Contains held p
  is_held p less has =
      (names_atom-Decides held p).0
      (sym (has_atom-state_of (length state) held p less)
      ∙ (ap (λ s. has_atom s p) (sym is_of) ∙ has))

module _ (clauses : List (List Literal)) (them : Clusters) (state : List Bool) where
  -- the clauses of one cluster more
  pub due_more : (sign : Bool) (at key : ℕ)
      → ((d : RowHead) → (get_or them.heads.items at d).key ≡ key)
      → ((j c : ℕ) (d : RowHead) (e : Cluster) → j < at
      → has_atom state (get_or them.heads.items j d).key ≡ not sign
      → Contains (cluster_places them.places.items (get_or them.list.clusters.items j e)) c
      → in_clause (clause_at clauses c) state ≡ true)
      → ((has_atom state key ≡ not sign) → (e : Cluster)
      → AreTried true clauses (Contains (cluster_places them.places.items
      (get_or them.list.clusters.items at e))) state)
      → (j c : ℕ) (d : RowHead) (e : Cluster) → j < at + 1
      → has_atom state (get_or them.heads.items j d).key ≡ not sign
      → Contains (cluster_places them.places.items (get_or them.list.clusters.items j e)) c
      → in_clause (clause_at clauses c) state ≡ true
  due_more sign at key is before here j c d e less out has = elim (cases_lt j at) [
    | inl early ↦ before j c d e early out has
    | inr late ↦
        let one : j ≡ at = omega (arith, less, late) in
        here (ap (λ n. has_atom state n) (sym (is d))
        ∙ (ap (λ i. has_atom state (get_or them.heads.items i d).key) (sym one) ∙ out)) e c
        (subst (λ i. Contains (cluster_places them.places.items
        (get_or them.list.clusters.items i e)) c) one has)
  ]

  none : Cluster
  none = record { range = record { from = 0; upto = 0 }; screen = None }

  head : RowHead
  head = record { key = 0; start = 0 }

  pub due_tried : (sign : Bool) (at : ℕ) → length them.heads.items ≤ at
      → ((j c : ℕ) (d : RowHead) (e : Cluster) → j < at
      → has_atom state (get_or them.heads.items j d).key ≡ not sign
      → Contains (cluster_places them.places.items (get_or them.list.clusters.items j e)) c
      → in_clause (clause_at clauses c) state ≡ true)
      → AreTried true clauses (IsDue sign them state) state
  due_tried sign at past all c (p, less, out, owned) =
      let j = owned.some.0 in
      let key = owned.some.2 in
      all j c head none (omega (arith, owned.some.1, past))
      (ap (λ n. has_atom state n) (key head) ∙ out)
      (owned.all j head none owned.some.1 (key head))

  -- the clauses that are put under the atoms of a state
  pub under_tried : (held : List ℕ) → state ≡ state_of (length state) held
      → AreBelow (length state) held
      → ((k c : ℕ) → k < length held → IsPutUnder them (get_or held k 0) c
      → in_clause (clause_at clauses c) state ≡ true)
      → AreTried true clauses (IsDue false them state) state
  under_tried held is_of below all c (p, less, out, owned) =
      let among = is_held state held is_of below p less out in
      all among.0 c among.1
      (subst (λ n. IsPutUnder them n c)
      (sym (get_or_default held among.0 0 p among.1 ∙ among.2)) owned)

  pub under_more : (held : List ℕ) (at : ℕ)
      → ((k c : ℕ) → k < at → IsPutUnder them (get_or held k 0) c
      → in_clause (clause_at clauses c) state ≡ true)
      → AreTried true clauses (IsPutUnder them (get_or held at 0)) state
      → (k c : ℕ) → k < at + 1 → IsPutUnder them (get_or held k 0) c
      → in_clause (clause_at clauses c) state ≡ true
  under_more held at before here k c less owned = elim (cases_lt k at) [
    | inl early ↦ before k c early owned
    | inr late ↦
        let e : k ≡ at = omega (arith, less, late) in
        here c (subst (λ n. IsPutUnder them (get_or held n 0) c) e owned)
  ]

  -- where no head is of an atom, nothing is put under it
  pub none_under : (atom : ℕ)
      → ((j : ℕ) (d : RowHead) → j < length them.heads.items
      → (get_or them.heads.items j d).key ≡ atom → ⊥)
      → AreTried true clauses (IsPutUnder them atom) state
  none_under atom never c owned =
      absurd (never owned.some.0 head owned.some.1 (owned.some.2 head))

  -- what is put under an atom is in its cluster
  pub cluster_under : (r : Bool) (atom j : ℕ) → j < length them.heads.items
      → ((d : RowHead) → (get_or them.heads.items j d).key ≡ atom)
      → ((e : Cluster) → AreTried r clauses (Contains (cluster_places them.places.items
      (get_or them.list.clusters.items j e))) state)
      → AreTried r clauses (IsPutUnder them atom) state
  cluster_under true atom j less is tried = λ c owned.
      tried none c (owned.all j head none less (is head))
  cluster_under false atom j less is tried = tried none

module _ (clauses : List (List Literal)) (mates : Mates) (state : List Bool)
    (is : AreMates clauses mates) (speak : All (SpeakBelow (length state)) clauses) where
  -- a clause that is false was found
  pub tried_false : (Tried : ℕ → Type 0) → AreTried false clauses Tried state
      → false ≡ in_clauses clauses state
  tried_false Tried (c, less, out) = sym (one_false state clauses c less out)

  -- a clause is true by its literal, or was tried
  by_owner : (sign : Bool) (them : Clusters) → AreTried true clauses (IsDue sign them state) state
      → (c : ℕ) → c < length clauses → IsPutUnderOwn sign clauses them c
      → in_clause (clause_at clauses c) state ≡ true
  by_owner sign them tried c less (p, has, owned) =
      let in_p : p < length state = All-contains (λ (l : Literal). l.atom < length state)
      (clause_at clauses c) (record { atom = p; positive = sign }) (speak c [] less) has in
      elim (sign_or sign (has_atom state p)) [
        | inl is_true ↦ clause_has state (clause_at clauses c)
            (record { atom = p; positive = sign }) has (true_as sign p state is_true)
        | inr is_false ↦ tried c (p, in_p, is_false, owned)
      ]

  pub all_decided : (r : Bool) → AreTried true clauses (Contains mates.others.items) state
      → AreTried true clauses (IsDue false mates.negative state) state
      → AreTried r clauses (IsDue true mates.positive state) state
      → r ≡ in_clauses clauses state
  all_decided true others negative positive = sym (clauses_by state clauses (λ c less.
      elim (is.whole c less) [
        | inl has ↦ others c has
        | inr else ↦ elim else [
          | inl owned ↦ by_owner false mates.negative negative c less owned
          | inr owned ↦ by_owner true mates.positive positive c less owned
        ]
      ]))
  all_decided false others negative positive =
      tried_false (IsDue true mates.positive state) positive

-- where nothing is put, there are clusters of no clauses
pub none_are : (them : Clusters) → them.heads.items ≡ [] → them.places.items ≡ []
    → them.list.clusters.items ≡ [] → them.list.screens.items ≡ [] → AreClusters [] them
none_are them heads places clusters screens =
    let few : length them.heads.items ≡ 0 = ap length heads in
    let none : length them.places.items ≡ 0 = ap length places in
    let bare : length them.list.screens.items ≡ 0 = ap length screens in
    record {
      rises = λ i j d upto less. absurd (omega (arith, less, few));
      size = ap length clusters ∙ sym (ap length heads);
      inside = λ k less. absurd (omega (arith, less, none));
      each = λ j e less. absurd (omega (arith, less, few));
      exact = λ k d less. absurd (omega (arith, less, bare));
    }

-- clauses that were put are tried
pub mates_are : (clauses : List (List Literal)) (put : PutClauses) (mates : Mates)
    → ArePut clauses (length clauses) put → length clauses ≤ 4294967295
    → AreClusters clauses mates.negative → AreClusters clauses mates.positive
    → mates.others ≡ put.others
    → ((p c : ℕ) → c < 4294967296 → Contains put.negative.items (code p c)
    → IsPutUnder mates.negative p c)
    → ((p c : ℕ) → c < 4294967296 → Contains put.positive.items (code p c)
    → IsPutUnder mates.positive p c)
    → AreMates clauses mates
mates_are clauses put mates is few negative positive same under over = record {
  negative = negative;
  positive = positive;
  others = subst (λ v. (k : ℕ) → k < length v.items → get_or v.items k 0 < length clauses)
      (sym same) is.others;
  whole = λ c less. elim (is.whole c less) [
    | inl has ↦ inl (subst (λ v. Contains v.items c) (sym same) has)
    | inr else ↦ inr (elim else [
      | inl by ↦ inl (by.0, by.1, under by.0 c (omega (arith, less, few)) by.2)
      | inr by ↦ inr (by.0, by.1, over by.0 c (omega (arith, less, few)) by.2)
    ])
  ];
}

-- where the screen of a cluster is true, so are the clauses there
pub cluster_screened : (clauses : List (List Literal)) (them : Clusters) (state : List Bool)
    → AreClusters clauses them → All (SpeakBelow (length state)) clauses → (at : ℕ)
    → at < length them.heads.items → (cluster : Cluster)
    → cluster ≡ get_or them.list.clusters.items at cluster → (k : ℕ) → cluster.screen ≡ Some k
    → (screen : Screen) → screen ≡ get_or them.list.screens.items k screen
    → ((clause : List Literal) → SpeakBelow (length state) clause → IsScreened screen clause
    → in_clause clause state ≡ true)
    → (e : Cluster)
    → AreTried true clauses (Contains (cluster_places them.places.items
    (get_or them.list.clusters.items at e))) state
cluster_screened clauses them state are speak at less cluster is k has screen same all e c in_it =
    let size = are.size in
    let one : cluster ≡ get_or them.list.clusters.items at e =
    is ∙ get_or_default them.list.clusters.items at cluster e (omega (arith, size, less)) in
    let own = subst (λ x. IsCluster clauses them.places.items them.list.screens.items x) (sym one)
    (are.each at e less) in
    let within : Contains (cluster_places them.places.items cluster) c =
    subst (λ x. Contains (cluster_places them.places.items x) c) (sym one) in_it in
    let found = part_contains them.places.items cluster.range.from cluster.range.upto c own.ends
    within in
    let in_clauses_of : c < length clauses =
    subst (λ n. n < length clauses)
    (get_or_default them.places.items found.0 0 c found.1 ∙ found.2) (are.inside found.0 found.1) in
    let named = subst (λ o. IfSome o (λ j. (j < length them.list.screens.items)
    × ((d : Screen) (x : ℕ) → Contains (cluster_places them.places.items cluster) x
    → IsScreened (get_or them.list.screens.items j d) (clause_at clauses x)))) has own.screened in
    all (clause_at clauses c) (speak c [] in_clauses_of)
    (subst (λ s. IsScreened s (clause_at clauses c)) (sym same) (named.1 screen c within))

-- a screen that is named is there
pub screen_less : (screens : List Screen) (places : List ℕ) (clauses : List (List Literal))
    (cluster : Cluster) (k : ℕ) → cluster.screen ≡ Some k → IsCluster clauses places screens cluster
    → k < length screens
screen_less screens places clauses cluster k has own =
    let named = subst (λ o. IfSome o (λ j. (j < length screens)
    × ((d : Screen) (x : ℕ) → Contains (cluster_places places cluster) x
    → IsScreened (get_or screens j d) (clause_at clauses x)))) has own.screened in
    named.0

-- the cluster that stands at a place is one
pub cluster_at : (clauses : List (List Literal)) (them : Clusters) → AreClusters clauses them
    → (at : ℕ) → at < length them.heads.items → (cluster : Cluster)
    → cluster ≡ get_or them.list.clusters.items at cluster
    → IsCluster clauses them.places.items them.list.screens.items cluster
cluster_at clauses them are at less cluster is =
    subst (λ x. IsCluster clauses them.places.items them.list.screens.items x) (sym is)
    (are.each at cluster less)

-- where the screen of a cluster decides, it is so
pub cluster_decided : (clauses : List (List Literal)) (them : Clusters) (state : List Bool)
    → AreClusters clauses them → All (SpeakBelow (length state)) clauses → (at : ℕ)
    → at < length them.heads.items → (cluster : Cluster)
    → cluster ≡ get_or them.list.clusters.items at cluster → (k : ℕ) → cluster.screen ≡ Some k
    → (screen : Screen) → screen ≡ get_or them.list.screens.items k screen → (r : Bool)
    → IsDecidedAs r screen state
    → (e : Cluster)
    → AreTried r clauses (Contains (cluster_places them.places.items
    (get_or them.list.clusters.items at e))) state
cluster_decided clauses them state are speak at less cluster is k has screen same true all e =
    cluster_screened clauses them state are speak at less cluster is k has screen same all e
cluster_decided clauses them state are speak at less cluster is k has screen same false one e =
    let own = subst (λ x. IsCluster clauses them.places.items them.list.screens.items x) (sym is)
    (are.each at cluster less) in
    one clauses (subst (IsExact clauses) (sym same)
    (are.exact k screen
    (screen_less them.list.screens.items them.places.items clauses cluster k has own)))
