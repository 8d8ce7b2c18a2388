-- The search through live tuples: what one more tuple changes, and what is known at the end.
use Rattle.std.proofs.Common.{◌≡◌, ℕ, ◌<◌, ◌≤◌, ◌+◌, ◌∙◌, Bool, true, false, not, List, [], ◌∷◌}
use Rattle.std.proofs.Common.{◌++◌, Option, None, Some, eqb, length, map, get_or, take}
use Rattle.std.proofs.Common.{if◌then◌else◌, refl, sym, ap, arith, inl, inr, subst}
use Rattle.std.proofs.lemmas.Bool.{cases_lt, false_from_ne_true}
use Rattle.std.proofs.lemmas.Bool.Decides.{Decides-eqb}
use Rattle.std.proofs.lemmas.List.{get_or-map, get_or-take, get_or_append_left, get_or_at}
use Rattle.std.proofs.lemmas.List.{get_or_default, length-append, length-map, length-take-le}
use Rattle.std.proofs.lemmas.List.{map_push, take_more}
use Rattle.std.proofs.lemmas.List.Elements.{All-cons, All-contains, All-get_or, All-head, All-nil}
use Rattle.std.proofs.lemmas.List.Elements.{All-push, All-tail, All-take, Contains-append_left}
use Rattle.std.proofs.lemmas.List.Elements.{Contains-get_or, Contains-push}
use Rattle.std.proofs.lemmas.List.Folds.{Any-from_list_any, list_any_at}
use Rattle.std.proofs.lemmas.Map.Keys.{IsDistinct-from_apart}
use Rattle.std.proofs.lemmas.Map.Made.{length-le_from_is_member}
use Rattle.std.proofs.lemmas.Map.Views.{Contains-from_any}
use Rattle.std.proofs.lemmas.Slice.Eq.{slice_eq-Decides}
use Rattle.std.specs.Bool.{Decides}
use Rattle.std.specs.Cmp.Lexicographic.{nat_list_eq_equiv, pointwise}
use Rattle.std.specs.List.{All, Contains, list_any}
use Rattle.smallvec.specs.SmallVec.{SmallVec}
use Rattle.hv_bdd.specs.declared.tuple_search.Link.{Link}
use Rattle.hv_bdd.specs.Working.Search.{IsExplored, IsPut, IsPutSome, link_at, tuple_at}
use Rattle.hv_bdd.specs.Working.Sweeping.{IsTupleAdded}
use Rattle.hv_bdd.specs.Tuples.{IsReached, Moves, TuplesPass, if_live, next}
use Rattle.hv_bdd.proofs.Moved.{reached_in, reached_next}

-- what holds of each of two lists one after the other
pub first_and_second : {X : Type 0} (P : X → Type 0) (xs ys : List X) → All P (xs ++ ys)
    → All P xs × All P ys
first_and_second P [] ys all = (All-nil P, all)
first_and_second P (x ∷ xs) ys all =
    let rest = first_and_second P xs ys (All-tail P x (xs ++ ys) all) in
    (All-cons P x xs (All-head P x (xs ++ ys) all) rest.0, rest.1)

-- whether two tuples are one
abbrev pub same : List ℕ → List ℕ → Bool
same = pointwise eqb

pub same_Decides : (a b : List ℕ) → Decides (same a b) (a ≡ b)
same_Decides a b = slice_eq-Decides Decides-eqb a b (same a b) refl

abbrev pub items : List (SmallVec ℕ) → List (List ℕ)
items keys = map (λ (v : SmallVec ℕ). v.items) keys

pub item_at : (keys : List (SmallVec ℕ)) (k : ℕ) (v : SmallVec ℕ) → k < length keys
    → get_or keys k v ≡ v → tuple_at (items keys) k ≡ v.items
item_at keys k v within is = get_or-map (λ (v : SmallVec ℕ). v.items) keys k v [] within
    ∙ ap (λ (v : SmallVec ℕ). v.items) is

-- what holds of all tuples holds of their lists of nodes
pub all_items : (P : List ℕ → Type 0) (keys : List (SmallVec ℕ)) → All P (items keys)
    → All (λ (v : SmallVec ℕ). P v.items) keys
all_items P keys all = λ k d less.
    let size = length-map keys (λ (v : SmallVec ℕ). v.items) in
    subst P (item_at keys k (get_or keys k d) less (get_or_default keys k (get_or keys k d) d less))
    (all k [] (omega arith))

-- one tuple more
pub taken_more : (keys : List (SmallVec ℕ)) (k : ℕ) (v : SmallVec ℕ) (t : List ℕ)
    → k < length keys → get_or keys k v ≡ v → t ≡ v.items
    → take (k + 1) (items keys) ≡ take k (items keys) ++ t ∷ []
taken_more keys k v t within is same =
    let size = length-map keys (λ (v : SmallVec ℕ). v.items) in
    take_more (items keys) k [] (omega arith)
    ∙ ap (λ (x : List ℕ). take k (items keys) ++ x ∷ []) (item_at keys k v within is ∙ sym same)

-- an insert puts the tuple last, or it is there
module _ (keys : List (SmallVec ℕ)) (v : SmallVec ℕ) where
  abbrev pub finds : Bool
  finds = list_any (λ (k : SmallVec ℕ). same v.items k.items) keys

  there : finds ≡ true → Contains (items keys) v.items
  there e =
      let found = Any-from_list_any (λ (k : SmallVec ℕ). same v.items k.items) keys e in
      let size = length-map keys (λ (k : SmallVec ℕ). k.items) in (
        found.0,
        omega (arith, found.2),
        get_or-map (λ (k : SmallVec ℕ). k.items) keys found.0 found.1 v.items found.2
            ∙ (ap (λ (k : SmallVec ℕ). k.items) found.3
            ∙ sym ((same_Decides v.items found.1.items).0 found.4)),
      )

  absent : finds ≡ false → Contains (items keys) v.items → ⊥
  absent e c =
      let size = length-map keys (λ (k : SmallVec ℕ). k.items) in
      let within : c.0 < length keys = omega (arith, c.1) in
      let at = get_or-map (λ (k : SmallVec ℕ). k.items) keys c.0 v v.items within in
      let is : v.items ≡ (get_or keys c.0 v).items = sym c.2 ∙ at in
      let found = list_any_at (λ (k : SmallVec ℕ). same v.items k.items) keys c.0 v within
      ((same_Decides v.items (get_or keys c.0 v).items).1 is) in
      let clash : true ≡ false = sym found ∙ e in absurd cc

  pub put_is : (keys' : List (SmallVec ℕ)) (links links' : List Link) (link : Link) (added : Bool)
      → added ≡ not finds
      → keys' ≡ (if finds then keys else keys ++ v ∷ [])
      → (added ≡ true → links' ≡ links ++ link ∷ []) → (added ≡ false → links' ≡ links)
      → IsPut (items keys) links v.items link (items keys') links'
  put_is keys' links links' link added is new pushed kept = by finds refl is new
    where
      by : (b : Bool) → finds ≡ b → added ≡ not b → keys' ≡ (if b then keys else keys ++ v ∷ [])
          → IsPut (items keys) links v.items link (items keys') links'
      by true e a n = inl (there e, ap items n, kept a)
      by false e a n = inr (
        absent e,
        ap items n
            ∙ map_push (λ (k : SmallVec ℕ). k.items) keys v,
        pushed a,
      )

  -- the same where no link is put
  pub added_is : (keys' : List (SmallVec ℕ)) → keys' ≡ (if finds then keys else keys ++ v ∷ [])
      → IsTupleAdded (items keys) (Some v.items) (items keys')
  added_is keys' new = by finds refl new
    where
      by : (b : Bool) → finds ≡ b → keys' ≡ (if b then keys else keys ++ v ∷ [])
          → IsTupleAdded (items keys) (Some v.items) (items keys')
      by true e n = inl (there e, ap items n)
      by false e n = inr (absent e, ap items n ∙ map_push (λ (k : SmallVec ℕ). k.items) keys v)

-- what one list of tuples keeps of another
pub record ExploredGrows (old new : List (List ℕ)) : Type 0 where
  pub longer : length old ≤ length new
  pub at : (k : ℕ) → k < length old → tuple_at new k ≡ tuple_at old k
  pub has : (u : List ℕ) → Contains old u → Contains new u

grows_same : (old new : List (List ℕ)) → new ≡ old → ExploredGrows old new
grows_same old new e = record {
  longer = let size = ap length e in omega arith;
  at = λ k less. ap (λ ts. tuple_at ts k) e;
  has = λ u c. subst (λ ts. Contains ts u) (sym e) c;
}

grows_push : (old new : List (List ℕ)) (t : List ℕ) → new ≡ old ++ t ∷ [] → ExploredGrows old new
grows_push old new t e = record {
  longer = let size = ap length e ∙ length-append old (t ∷ []) in omega arith;
  at = λ k less. ap (λ ts. tuple_at ts k) e ∙ get_or_append_left old (t ∷ []) [] k less;
  has = λ u c. subst (λ ts. Contains ts u) (sym e) (Contains-append_left old (t ∷ []) u c);
}

module _ {O : Type 0} (m : Moves O) (os : List O) (root : List ℕ) where
  abbrev pub Known : ℕ → List (List ℕ) → List Link → Type 0
  Known done ts ls = IsExplored m os root done ts ls

  abbrev pub default : Link
  default = record { parent = 0; bit = false }

  -- one tuple more
  pushed : (done : ℕ) (ts : List (List ℕ)) (ls : List Link) (t : List ℕ) (link : Link)
      → Known done ts ls → (Contains ts t → ⊥)
      → IsReached m os root t → link.parent < length ts
      → next m os (tuple_at ts link.parent) link.bit ≡ Some t
      → Known done (ts ++ t ∷ []) (ls ++ link ∷ [])
  pushed done ts ls t link known new reached parent leads =
      let size = length-append ts (t ∷ []) in
      let sizes = length-append ls (link ∷ []) in
      let same_size = known.size in
      let grows = grows_push ts (ts ++ t ∷ []) t refl in
      let last = get_or_at ts t [] [] (length ts) refl in
      let last_link = get_or_at ls link [] default (length ts) same_size in
      let links_kept : (k : ℕ) → k < length ts
      → link_at (ls ++ link ∷ []) k ≡ link_at ls k = λ k less. get_or_append_left ls (link ∷ [])
      default k (omega arith) in
      record {
        size = omega arith;
        upto = let old = known.upto in omega arith;
        reached = All-push (IsReached m os root) ts t known.reached reached;
        apart = λ i j less within same_tuple.
            elim (cases_lt j (length ts)) [
              | inl old ↦ known.apart i j less old
                  (sym (grows.at i (omega arith)) ∙ (same_tuple ∙ grows.at j old))
              | inr end ↦
                  let at : j ≡ length ts = omega arith in
                  let is : tuple_at ts i ≡ t = sym (grows.at i (omega arith))
                  ∙ (same_tuple ∙ (ap (tuple_at (ts ++ t ∷ [])) at ∙ last)) in
                  new (subst (Contains ts) is (Contains-get_or ts i [] (omega arith)))
            ];
        roots = λ u e. grows.has u (known.roots u e);
        first = λ _. known.first (omega arith) ∙ ap Some (sym (grows.at 0 (omega arith)));
        closed = λ k b u less e.
            let old = known.upto in
            grows.has u (known.closed k b u less
            (ap (λ n. next m os n b) (sym (grows.at k (omega arith))) ∙ e));
        parent = λ k some within.
            elim (cases_lt k (length ts)) [
              | inl old ↦ let before = known.parent k some old in
                  let e = ap (λ (l : Link). l.parent) (links_kept k old) in omega arith
              | inr end ↦
                  let at : k ≡ length ts = omega arith in
                  let e = ap (λ (l : Link). l.parent)
                  (ap (link_at (ls ++ link ∷ [])) at ∙ last_link) in omega arith
            ];
        linked = λ k some within.
            elim (cases_lt k (length ts)) [
              | inl old ↦
                  let before = known.parent k some old in
                  ap (λ (l : Link). next m os (tuple_at (ts ++ t ∷ []) l.parent) l.bit)
                  (links_kept k old)
                  ∙ (ap (λ n. next m os n (link_at ls k).bit)
                  (grows.at (link_at ls k).parent (omega arith))
                  ∙ (known.linked k some old ∙ ap Some (sym (grows.at k old))))
              | inr end ↦
                  let at : k ≡ length ts = omega arith in
                  ap (λ (l : Link). next m os (tuple_at (ts ++ t ∷ []) l.parent) l.bit)
                  (ap (link_at (ls ++ link ∷ [])) at ∙ last_link)
                  ∙ (ap (λ n. next m os n link.bit) (grows.at link.parent parent)
                  ∙ (leads ∙ ap Some (sym (ap (tuple_at (ts ++ t ∷ [])) at ∙ last))))
            ];
      }

  -- what a bit leads to is put in
  pub put_in : (done : ℕ) (ts ts' : List (List ℕ)) (ls ls' : List Link) (o : Option (List ℕ))
      (parent : ℕ) (bit : Bool) → Known done ts ls
      → parent < length ts → next m os (tuple_at ts parent) bit ≡ o
      → IsPutSome ts ls o (record { parent = parent; bit = bit }) ts' ls'
      → Known done ts' ls' × ExploredGrows ts ts' × ((u : List ℕ) → o ≡ Some u → Contains ts' u)
  put_in done ts ts' ls ls' None parent bit known within leads put = (
    subst (λ a. Known done a ls') (sym put.0) (subst (Known done ts) (sym put.1) known),
    grows_same ts ts' put.0,
    λ u e. let f : ◌≡◌ {A = Option (List ℕ)} None (Some u) = e in absurd cc,
  )
  put_in done ts ts' ls ls' (Some t) parent bit known within leads put =
      elim put [
        | inl old ↦ (
          subst (λ a. Known done a ls') (sym old.1) (subst (Known done ts) (sym old.2) known),
          grows_same ts ts' old.1,
          λ u e. let is : t ≡ u = cc in subst (Contains ts') is
              (subst (λ a. Contains a t) (sym old.1) old.0),
        )
        | inr new ↦
            let reached = reached_next m os root (tuple_at ts parent) t bit
            (All-get_or (IsReached m os root) ts parent [] within known.reached) leads in (
              subst (λ a. Known done a ls') (sym new.1)
                  (subst (Known done (ts ++ t ∷ [])) (sym new.2)
                  (pushed done ts ls t (record { parent = parent; bit = bit }) known new.0 reached
                  within leads)),
              grows_push ts ts' t new.1,
              λ u e. let is : t ≡ u = cc in subst (Contains ts') is
                  (subst (λ a. Contains a t) (sym new.1) (Contains-push ts t)),
            )
      ]

  -- the first tuple is put in, where there was none
  pub first_put : (ts : List (List ℕ)) (ls : List Link) (o : Option (List ℕ)) (link : Link)
      → o ≡ if_live m os root → IsPutSome [] [] o link ts ls → Known 0 ts ls
  first_put ts ls None link is put =
      subst (λ a. Known 0 a ls) (sym put.0) (subst (Known 0 []) (sym put.1) (record {
        size = refl;
        upto = omega arith;
        reached = All-nil (IsReached m os root);
        apart = λ i j less within same_tuple. absurd (omega arith);
        roots = λ u e.
            let f : ◌≡◌ {A = Option (List ℕ)} None (Some u) = is ∙ e in absurd cc;
        first = λ some. absurd (omega arith);
        closed = λ k b u less e. absurd (omega arith);
        parent = λ k some within. absurd (omega arith);
        linked = λ k some within. absurd (omega arith);
      }))
  first_put ts ls (Some t) link is put = elim put [
    | inl old ↦ let less = old.0.1 in absurd (omega arith)
    | inr new ↦
        subst (λ a. Known 0 a ls) (sym new.1) (subst (Known 0 (t ∷ [])) (sym new.2) (record {
          size = refl;
          upto = omega arith;
          reached = All-push (IsReached m os root) [] t (All-nil (IsReached m os root))
              ([], sym is);
          apart = λ i j less within same_tuple. absurd (omega arith);
          roots = λ u e. let same_tuple : t ≡ u = cc in (0, omega arith, same_tuple);
          first = λ some. sym is;
          closed = λ k b u less e. absurd (omega arith);
          parent = λ k some within. absurd (omega arith);
          linked = λ k some within. absurd (omega arith);
        }))
  ]

  -- the moves of one more tuple were put in
  pub explored_more : (done : ℕ) (ts : List (List ℕ)) (ls : List Link) → Known done ts ls
      → done < length ts
      → ((b : Bool) (u : List ℕ) → next m os (tuple_at ts done) b ≡ Some u → Contains ts u)
      → Known (done + 1) ts ls
  explored_more done ts ls known within here = record {
    size = known.size;
    upto = omega arith;
    reached = known.reached;
    apart = known.apart;
    roots = known.roots;
    first = known.first;
    closed = λ k b u less e.
        elim (cases_lt k done) [
          | inl before ↦ known.closed k b u before e
          | inr upto ↦
              let at : k ≡ done = omega arith in
              here b u (ap (λ n. next m os (tuple_at ts n) b) (sym at) ∙ e)
        ];
    parent = known.parent;
    linked = known.linked;
  }

  -- both bits of a tuple
  pub expanded : (done : ℕ) (ts ts₁ ts₂ : List (List ℕ)) (ls ls₁ ls₂ : List Link)
      (low high : Option (List ℕ)) → Known done ts ls → done < length ts
      → low ≡ next m os (tuple_at ts done) false → high ≡ next m os (tuple_at ts done) true
      → IsPutSome ts ls low (record { parent = done; bit = false }) ts₁ ls₁
      → IsPutSome ts₁ ls₁ high (record { parent = done; bit = true }) ts₂ ls₂
      → Known (done + 1) ts₂ ls₂
  expanded done ts ts₁ ts₂ ls ls₁ ls₂ low high known within is_low is_high put_low put_high =
      let one = put_in done ts ts₁ ls ls₁ low done false known within (sym is_low) put_low in
      let longer = one.1.longer in
      let same_at = one.1.at done within in
      let two = put_in done ts₁ ts₂ ls₁ ls₂ high done true one.0 (omega arith)
      (ap (λ n. next m os n true) same_at ∙ sym is_high) put_high in
      let longer_too = two.1.longer in
      let back = two.1.at done (omega arith) ∙ same_at in
      explored_more done ts₂ ls₂ two.0 (omega arith)
      (λ b u e. by b u (ap (λ n. next m os n b) (sym back) ∙ e)
      (λ v f. two.1.has v (one.2 v f)) two.2)
    where
      by : (b : Bool) (u : List ℕ) → next m os (tuple_at ts done) b ≡ Some u
          → ((v : List ℕ) → low ≡ Some v → Contains ts₂ v)
          → ((v : List ℕ) → high ≡ Some v → Contains ts₂ v) → Contains ts₂ u
      by false u e lows highs = lows u (is_low ∙ e)
      by true u e lows highs = highs u (is_high ∙ e)

  -- more tuples than the budget pass it
  pub passes : (done budget : ℕ) (ts : List (List ℕ)) (ls : List Link) → Known done ts ls
      → budget < length ts → TuplesPass m os root budget
  passes done budget ts ls known over =
      let size = length-take-le (budget + 1) ts (omega arith) in (
        take (budget + 1) ts,
        size,
        All-take (IsReached m os root) (budget + 1) ts known.reached,
        λ i j less within same_tuple.
            known.apart i j less (omega arith)
            (sym (get_or-take (budget + 1) ts i [] (omega arith))
            ∙ (same_tuple ∙ get_or-take (budget + 1) ts j [] (omega arith))),
      )

  -- where all moves were put in, all that is reached is there
  pub all_there : (done : ℕ) (ts : List (List ℕ)) (ls : List Link) → Known done ts ls
      → length ts ≤ done → (u : List ℕ) → IsReached m os root u
      → Contains ts u
  all_there done ts ls known past u reached =
      reached_in m (Contains ts) os root u known.roots
      (λ n w b c e.
      known.closed c.0 b w (let within = c.1 in omega arith)
      (ap (λ x. next m os x b) (get_or_default ts c.0 [] n c.1 ∙ c.2) ∙ e))
      reached

  -- where all that are reached are among no more tuples than the budget, they don't pass it
  pub few_hold : (budget : ℕ) (ts : List (List ℕ))
      → ((u : List ℕ) → IsReached m os root u → Contains ts u) → length ts ≤ budget
      → TuplesPass m os root budget → ⊥
  few_hold budget ts there few passes =
      let fewer = length-le_from_is_member nat_list_eq_equiv passes.0 ts
      (IsDistinct-from_apart same passes.0
      (λ i j d less within.
      differ (get_or passes.0 i d) (get_or passes.0 j d)
      (λ e. passes.3 i j less within (get_or_default passes.0 i [] d (omega arith)
      ∙ (e ∙ get_or_default passes.0 j d [] within)))))
      (λ q found.
      let c = Contains-from_any {eq = same} (λ x y. (same_Decides x y).0) q passes.0 found in
      let here = there q (All-contains (IsReached m os root) passes.0 q passes.2 c) in
      list_any_at (same q) ts here.0 q here.1
      ((same_Decides q (get_or ts here.0 q)).1 (sym here.2))) in
      let size = passes.1 in omega arith
    where
      differ : (a b : List ℕ) → (a ≡ b → ⊥) → same a b ≡ false
      differ a b f = false_from_ne_true (same a b) (λ e. f ((same_Decides a b).0 e))

  pub within_budget : (done budget : ℕ) (ts : List (List ℕ)) (ls : List Link) → Known done ts ls
      → length ts ≤ done → length ts ≤ budget
      → TuplesPass m os root budget → ⊥
  within_budget done budget ts ls known past few passes =
      few_hold budget ts (all_there done ts ls known past) few passes
