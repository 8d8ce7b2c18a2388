-- The sweep through live tuples: what one more tuple changes, what one more place does, and what is
-- known at the end.
use Rattle.std.proofs.Common.{◌≡◌, ℕ, zero, suc, ◌<◌, ◌≤◌, ◌+◌, ◌∙◌, ◌⊎◌, Bool, true, false, List}
use Rattle.std.proofs.Common.{[], ◌∷◌, ◌++◌, Option, None, Some, cond, eqb, length, get_or, map}
use Rattle.std.proofs.Common.{take, refl, sym, ap, arith, inl, inr, subst}
use Rattle.std.proofs.lemmas.Bool.{cases_eq, cond-true, eq-eqb}
use Rattle.std.proofs.lemmas.Bool.Decides.{Decides-eqb}
use Rattle.std.proofs.lemmas.List.{get_or-take, get_or_default, length-append, length-take-le}
use Rattle.std.proofs.lemmas.List.{map_push, take_more}
use Rattle.std.proofs.lemmas.List.Elements.{All-append, All-contains, All-contains_itself}
use Rattle.std.proofs.lemmas.List.Elements.{All-filter, All-push, All-take, All-weaker}
use Rattle.std.proofs.lemmas.List.Elements.{Contains-append_cases, Contains-append_left}
use Rattle.std.proofs.lemmas.List.Elements.{Contains-append_right, Contains-push}
use Rattle.std.proofs.lemmas.List.Elements.{Contains-push_cases, filter_passes}
use Rattle.std.specs.List.{All, Contains, filter}
use Rattle.smallvec.specs.SmallVec.{SmallVec}
use Rattle.hv_bdd.specs.Tuples.{IsReached, Moves, TuplesPass, least, next}
use Rattle.hv_bdd.specs.Working.Search.{tuple_at}
use Rattle.hv_bdd.specs.Working.Sweeping.{AreMany, IsSwept, IsSweptPlace, IsTupleAdded}
use Rattle.hv_bdd.specs.Working.Sweeping.{TuplesDiffer}
use Rattle.hv_bdd.specs.Working.Sweeping.{asking_for}
use Rattle.hv_bdd.proofs.Moved.{reached_in, reached_next}

contains_more : (x : List ℕ) (ts : List (List ℕ)) (t : List ℕ) → Contains ts t
    → Contains (x ∷ ts) t
contains_more x ts t c = let less = c.1 in (suc c.0, omega arith, c.2)

-- lists that are mapped, by one item more
pub map_more : {A B : Type 0} (f : A → B) (xs : List A) (k : ℕ) (v : A) → k < length xs
    → get_or xs k v ≡ v → map f (take (k + 1) xs) ≡ map f (take k xs) ++ f v ∷ []
map_more f xs k v less is =
    ap (map f) (take_more xs k v less)
    ∙ (map_push f (take k xs) (get_or xs k v) ∙ ap (λ x. map f (take k xs) ++ f x ∷ []) is)

pub map_items : (f : List ℕ → ℕ) (keys : List (SmallVec ℕ))
    → map (λ (v : SmallVec ℕ). f v.items) keys ≡ map f (map (λ (v : SmallVec ℕ). v.items) keys)
map_items f [] = refl
map_items f (v ∷ keys) = ap (λ xs. f v.items ∷ xs) (map_items f keys)

one_asks : {A B : Type 0} (b : Bool) (x : A) (y : B) (xs : List A) (ys : List B)
    → length xs ≡ length ys → length (cond b (x ∷ xs) xs) ≡ length (cond b (y ∷ ys) ys)
one_asks true x y xs ys e = ap suc e
one_asks false x y xs ys e = e

-- how many places are this one: so many tuples ask for it
pub count_asking : (f : List ℕ → ℕ) (v : ℕ) (ts : List (List ℕ))
    → length (filter (λ n. eqb n v) (map f ts)) ≡ length (filter (λ t. eqb (f t) v) ts)
count_asking f v [] = refl
count_asking f v (t ∷ ts) =
    one_asks (eqb (f t) v) (f t) t (filter (λ n. eqb n v) (map f ts))
    (filter (λ x. eqb (f x) v) ts) (count_asking f v ts)

-- a tuple that asks for no place before this one and not for it asks for a later one
pub later_by : (v n : ℕ) → v ≤ n → eqb n v ≡ false → v < n
later_by v n upto differ =
    elim (cases_eq n v) [
      | inl e ↦ let clash : true ≡ false = sym (eq-eqb n v e) ∙ differ in absurd cc
      | inr other ↦ omega (arith, other)
    ]

-- lists of tuples that differ
pub differ_push : (ts : List (List ℕ)) (t : List ℕ) → TuplesDiffer ts → (Contains ts t → ⊥)
    → TuplesDiffer (ts ++ t ∷ [])
differ_push [] t d new = (λ c. let less = c.1 in absurd (omega arith), tt)
differ_push (x ∷ ts) t d new = (
  λ c.
      elim (Contains-push_cases ts t x c) [
        | inl old ↦ d.0 old
        | inr same ↦ new (0, omega arith, sym same)
      ],
  differ_push ts t d.1 (λ c. new (contains_more x ts t c)),
)

differ_append : (xs ys : List (List ℕ)) → TuplesDiffer xs → TuplesDiffer ys
    → ((t : List ℕ) → Contains xs t → Contains ys t → ⊥) → TuplesDiffer (xs ++ ys)
differ_append [] ys left right apart = right
differ_append (x ∷ xs) ys left right apart = (
  λ c.
      elim (Contains-append_cases xs ys x c) [
        | inl old ↦ left.0 old
        | inr other ↦ apart x (0, omega arith, refl) other
      ],
  differ_append xs ys left.1 right (λ t c. apart t (contains_more x xs t c)),
)

either_differ : (b : Bool) (x : List ℕ) (ts : List (List ℕ)) → (Contains ts x → ⊥)
    → TuplesDiffer ts → TuplesDiffer (cond b (x ∷ ts) ts)
either_differ true x ts new d = (new, d)
either_differ false x ts new d = d

either_has : (b : Bool) (x : List ℕ) (ts : List (List ℕ)) (t : List ℕ) → Contains ts t
    → Contains (cond b (x ∷ ts) ts) t
either_has true x ts t c = contains_more x ts t c
either_has false x ts t c = c

module _ (p : List ℕ → Bool) where
  -- what a filter keeps
  kept_is : (ts : List (List ℕ)) (t : List ℕ) → Contains (filter p ts) t
      → Contains ts t × (p t ≡ true)
  kept_is ts t c = (
    All-contains (Contains ts) (filter p ts) t
        (All-filter p (Contains ts) ts (All-contains_itself ts)) c,
    All-contains (λ x. p x ≡ true) (filter p ts) t (filter_passes p ts) c,
  )

  is_kept : (ts : List (List ℕ)) (t : List ℕ) → p t ≡ true → (k : ℕ) → k < length ts
      → get_or ts k t ≡ t → Contains (filter p ts) t
  is_kept [] t e k less is = absurd (omega arith)
  is_kept (x ∷ ts) t e zero less is =
      subst (λ l. Contains l t)
      (sym (cond-true (p x) (x ∷ filter p ts) (filter p ts) (ap p is ∙ e)))
      (0, omega arith, is)
  is_kept (x ∷ ts) t e (suc k) less is =
      either_has (p x) x (filter p ts) t (is_kept ts t e k (omega arith) is)

  differ_kept : (ts : List (List ℕ)) → TuplesDiffer ts → TuplesDiffer (filter p ts)
  differ_kept [] d = tt
  differ_kept (x ∷ ts) d =
      either_differ (p x) x (filter p ts) (λ c. d.0 (kept_is ts x c).0) (differ_kept ts d.1)

differ_at : (ts : List (List ℕ)) → TuplesDiffer ts → (i j : ℕ) → i < j → j < length ts
    → tuple_at ts i ≡ tuple_at ts j → ⊥
differ_at [] d i j less within e = absurd (omega arith)
differ_at (x ∷ ts) d i zero less within e = absurd (omega arith)
differ_at (x ∷ ts) d zero (suc j) less within e =
    d.0 (j, omega arith, get_or_default ts j x [] (omega arith) ∙ sym e)
differ_at (x ∷ ts) d (suc i) (suc j) less within e =
    differ_at ts d.1 i j (omega arith) (omega arith) e

-- a tuple that may be none is put in
module _ (ts ts' : List (List ℕ)) where
  added_has : (o : Option (List ℕ)) → IsTupleAdded ts o ts' → (u : List ℕ) → Contains ts u
      → Contains ts' u
  added_has None put u c = subst (λ l. Contains l u) (sym put) c
  added_has (Some t) put u c =
      elim put [
        | inl old ↦ subst (λ l. Contains l u) (sym old.1) c
        | inr new ↦ subst (λ l. Contains l u) (sym new.1) (Contains-append_left ts (t ∷ []) u c)
      ]

  pub added_new : (o : Option (List ℕ)) → IsTupleAdded ts o ts' → (u : List ℕ) → o ≡ Some u
      → Contains ts' u
  added_new None put u e = let f : ◌≡◌ {A = Option (List ℕ)} None (Some u) = e in absurd cc
  added_new (Some t) put u e =
      let same : t ≡ u = cc in
      subst (Contains ts') same (elim put [
        | inl old ↦ subst (λ l. Contains l t) (sym old.1) old.0
        | inr new ↦ subst (λ l. Contains l t) (sym new.1) (Contains-push ts t)
      ])

  pub added_all : (P : List ℕ → Type 0) (o : Option (List ℕ)) → IsTupleAdded ts o ts' → All P ts
      → ((u : List ℕ) → o ≡ Some u → P u) → All P ts'
  added_all P None put all here = subst (All P) (sym put) all
  added_all P (Some t) put all here =
      elim put [
        | inl old ↦ subst (All P) (sym old.1) all
        | inr new ↦ subst (All P) (sym new.1) (All-push P ts t all (here t refl))
      ]

  pub added_differ : (o : Option (List ℕ)) → IsTupleAdded ts o ts' → TuplesDiffer ts
      → TuplesDiffer ts'
  added_differ None put d = subst TuplesDiffer (sym put) d
  added_differ (Some t) put d =
      elim put [
        | inl old ↦ subst TuplesDiffer (sym old.1) d
        | inr new ↦ subst TuplesDiffer (sym new.1) (differ_push ts t d new.0)
      ]

module _ {O : Type 0} (m : Moves O) (os : List O) (root : List ℕ) where
  abbrev pub Reached : List ℕ → Type 0
  Reached t = IsReached m os root t

  abbrev at : List ℕ → ℕ
  at t = least m os t

  module _ (v : ℕ) (ts later : List (List ℕ)) (t : List ℕ)
      (swept : IsSweptPlace m os root v ts later) (reached : Reached t) where
    -- one tuple more that waits on
    pub waits_on : (later' : List (List ℕ)) → v < at t → IsTupleAdded later (Some t) later'
        → IsSweptPlace m os root v (ts ++ t ∷ []) later'
    waits_on later' past put = record {
      reached = added_all later later' Reached (Some t) put swept.reached
          (λ u e. let same : t ≡ u = cc in subst Reached same reached);
      differ = added_differ later later' (Some t) put swept.differ;
      after = added_all later later' (λ x. v < at x) (Some t) put swept.after
          (λ u e. let same : t ≡ u = cc in subst (λ x. v < at x) same past);
      moved = λ u w b c here e.
          elim (Contains-push_cases ts t u c) [
            | inl old ↦ added_has later later' (Some t) put w (swept.moved u w b old here e)
            | inr same ↦ let f = ap at same in absurd (omega arith)
          ];
      kept = λ u c less.
          elim (Contains-push_cases ts t u c) [
            | inl old ↦ added_has later later' (Some t) put u (swept.kept u old less)
            | inr same ↦ added_new later later' (Some t) put u (ap Some same)
          ];
    }

    -- one more that moves
    pub moves_on : (middle later' : List (List ℕ)) → at t ≡ v
        → ((u : List ℕ) (b : Bool) → next m os t b ≡ Some u → v < at u)
        → IsTupleAdded later (next m os t false) middle
        → IsTupleAdded middle (next m os t true) later'
        → IsSweptPlace m os root v (ts ++ t ∷ []) later'
    moves_on middle later' here rises low high = record {
      reached = both Reached swept.reached
          (λ u b e. reached_next m os root t u b reached e);
      differ = added_differ middle later' (next m os t true) high
          (added_differ later middle (next m os t false) low swept.differ);
      after = both (λ x. v < at x) swept.after rises;
      moved = λ u w b c is e.
          elim (Contains-push_cases ts t u c) [
            | inl old ↦ has w (swept.moved u w b old is e)
            | inr same ↦ led b w (ap (λ x. next m os x b) same ∙ e)
          ];
      kept = λ u c less.
          elim (Contains-push_cases ts t u c) [
            | inl old ↦ has u (swept.kept u old less)
            | inr same ↦ let f = ap at same in absurd (omega arith)
          ];
    }
      where
        both : (P : List ℕ → Type 0) → All P later
            → ((u : List ℕ) (b : Bool) → next m os t b ≡ Some u → P u) → All P later'
        both P all leads = added_all middle later' P (next m os t true) high
            (added_all later middle P (next m os t false) low all (λ u e. leads u false e))
            (λ u e. leads u true e)

        has : (u : List ℕ) → Contains later u → Contains later' u
        has u c = added_has middle later' (next m os t true) high u
            (added_has later middle (next m os t false) low u c)

        led : (b : Bool) (u : List ℕ) → next m os t b ≡ Some u → Contains later' u
        led false u e = added_has middle later' (next m os t true) high u
            (added_new later middle (next m os t false) low u e)
        led true u e = added_new middle later' (next m os t true) high u e

  module _ (from : ℕ) (gone waiting : List (List ℕ))
      (swept : IsSwept m os root from gone waiting) where
    -- all that wait have moved or wait on
    module _ (v : ℕ) (later : List (List ℕ)) (upto : All (λ t. v ≤ at t) waiting)
        (past : from ≤ v) (passed : IsSweptPlace m os root v waiting later) where
      abbrev asks : List ℕ → Bool
      asks t = eqb (at t) v

      asks_is : (t : List ℕ) → asks t ≡ true → at t ≡ v
      asks_is t e = (Decides-eqb (at t) v).0 e

      onwards : (u : List ℕ) → Contains gone u ⊎ Contains waiting u
          → Contains (gone ++ asking_for m os root v waiting) u ⊎ Contains later u
      onwards u either =
          elim either [
            | inl old ↦ inl (Contains-append_left gone (filter asks waiting) u old)
            | inr new ↦ elim (cases_eq (at u) v) [
              | inl e ↦ inl (Contains-append_right gone (filter asks waiting) u
                  (is_kept asks waiting u (eq-eqb (at u) v e) new.0 new.1 new.2))
              | inr other ↦
                  let less = All-contains (λ t. v ≤ at t) waiting u upto new in
                  inr (passed.kept u new (omega (arith, other)))
            ]
          ]

      pub place_passed : IsSwept m os root (v + 1) (gone ++ asking_for m os root v waiting) later
      place_passed = record {
        gone_reached = All-append Reached gone (filter asks waiting) swept.gone_reached
            (All-filter asks Reached waiting swept.waiting_reached);
        waiting_reached = passed.reached;
        gone_differ = differ_append gone (filter asks waiting) swept.gone_differ
            (differ_kept asks waiting swept.waiting_differ)
            (λ t old new.
            let before = All-contains (λ x. at x < from) gone t swept.before old in
            let is = asks_is t (kept_is asks waiting t new).1 in
            absurd (omega arith));
        waiting_differ = passed.differ;
        before = All-append (λ x. at x < v + 1) gone (filter asks waiting)
            (All-weaker (λ x. at x < from) (λ x. at x < v + 1) (λ x less. omega arith) gone
            swept.before)
            (All-weaker (λ x. asks x ≡ true) (λ x. at x < v + 1)
            (λ x e. let is = asks_is x e in omega arith)
            (filter asks waiting) (filter_passes asks waiting));
        upto = All-weaker (λ x. v < at x) (λ x. v + 1 ≤ at x) (λ x less. omega arith) later
            passed.after;
        roots = λ u e. onwards u (swept.roots u e);
        closed = λ t u b c e.
            elim (Contains-append_cases gone (filter asks waiting) t c) [
              | inl old ↦ onwards u (swept.closed t u b old e)
              | inr new ↦
                  let is = kept_is asks waiting t new in
                  inr (passed.moved t u b is.0 (asks_is t is.1) e)
            ];
      }

    before_later : (v : ℕ) (later : List (List ℕ)) → from ≤ v → All (λ t. v ≤ at t) later
        → (t : List ℕ) → Contains gone t → Contains later t → ⊥
    before_later v later past upto t old new =
        let before = All-contains (λ x. at x < from) gone t swept.before old in
        let less = All-contains (λ x. v ≤ at x) later t upto new in
        absurd (omega arith)

    -- more than the budget are gone or ask for no place before one
    over_by : (v : ℕ) (later : List (List ℕ)) → from ≤ v → All Reached later → TuplesDiffer later
        → All (λ t. v ≤ at t) later → (budget : ℕ) → budget < length gone + length later
        → TuplesPass m os root budget
    over_by v later past reached differ upto budget over =
        let all = gone ++ later in
        let count = length-append gone later in
        let size = length-take-le (budget + 1) all (omega arith) in (
          take (budget + 1) all,
          size,
          All-take Reached (budget + 1) all
              (All-append Reached gone later swept.gone_reached reached),
          λ i j less within same.
              differ_at all
              (differ_append gone later swept.gone_differ differ (before_later v later past upto))
              i j less (omega arith)
              (sym (get_or-take (budget + 1) all i [] (omega arith))
              ∙ (same ∙ get_or-take (budget + 1) all j [] (omega arith))),
        )

    -- more than the budget are gone or wait
    pub sweep_over : (budget : ℕ) → budget < length gone + length waiting
        → TuplesPass m os root budget
    sweep_over budget over =
        over_by from waiting (omega arith) swept.waiting_reached swept.waiting_differ swept.upto
        budget over

    -- more than the budget are gone or wait for later places
    pub place_over : (v most : ℕ) (later : List (List ℕ)) → from ≤ v
        → AreMany m os root v most later → TuplesPass m os root (length gone + most)
    place_over v most later past are =
        let many = are.many in
        over_by v later past are.reached are.differ
        (All-weaker (λ t. v < at t) (λ t. v ≤ at t) (λ t less. omega arith) later are.after)
        (length gone + most) (omega arith)

  -- where none waits, all that are reached are gone
  pub all_gone : (from : ℕ) (gone : List (List ℕ)) → IsSwept m os root from gone []
      → (u : List ℕ) → IsReached m os root u → Contains gone u
  all_gone from gone swept u reached =
      reached_in m (Contains gone) os root u
      (λ n e. only n (swept.roots n e))
      (λ n w b c e. only w (swept.closed n w b c e))
      reached
    where
      only : (n : List ℕ) → Contains gone n ⊎ Contains [] n → Contains gone n
      only n either = elim either [
        | inl c ↦ c
        | inr c ↦ let less = c.1 in absurd (omega arith)
      ]
