-- Searches of the same operands for actions that mark none of the places for which tuples ask: they
-- reach the same tuples.
use Rattle.std.proofs.Common.{◌≡◌, ℕ, zero, suc, ◌<◌, ◌≤◌, ◌∙◌, ◌&&◌, Bool, true, false, List, []}
use Rattle.std.proofs.Common.{◌∷◌, Option, None, Some, cond, get_or, length, min, refl, sym, ap, ap₂}
use Rattle.std.proofs.Common.{◌+◌, arith, inl, inr, not, set, subst, take}
use Rattle.std.proofs.lemmas.Bool.{cases_eq, cases_lt, ltb-true}
use Rattle.std.proofs.lemmas.Bool.Decides.{Decides-eqb}
use Rattle.std.proofs.lemmas.List.{get_or-set_other, get_or-set_same, get_or_default, length-map}
use Rattle.std.proofs.lemmas.List.{take_more}
use Rattle.std.proofs.lemmas.List.Elements.{All-push}
use Rattle.std.specs.List.{All, Contains}
use Rattle.std.specs.Prelude.{◌==◌, IfSome, MatchOption, nat_eq, nat_lt}
use Rattle.smallvec.specs.SmallVec.{SmallVec}
use Rattle.hv_task.specs.State.{has_atom}
use Rattle.hv_sets.specs.declared.finding.Finding.TheVariants as F
use Rattle.hv_sets.specs.declared.literal.Literal.{Literal}
use Rattle.hv_sets.specs.declared.operand.Which.{Which}
use Rattle.hv_sets.specs.declared.operand.Which.TheVariants as W
use Rattle.hv_bdd.specs.declared.asked.Asked.{Asked}
use Rattle.hv_bdd.specs.declared.reach.Reached.{Reached}
use Rattle.hv_bdd.specs.declared.tuple_search.Link.{Link}
use Rattle.hv_bdd.specs.declared.untouched.Untouched.{Untouched}
use Rattle.hv_bdd.specs.Live.{TupleSetting, bit_mark_of, bit_or, graph_child, graph_top, is_marked}
use Rattle.hv_bdd.specs.Live.{moves, root, roots}
use Rattle.hv_bdd.specs.Nodes.{NodeList}
use Rattle.hv_bdd.specs.Order.{atom_at, place}
use Rattle.hv_bdd.specs.Reduced.{IsReduced}
use Rattle.hv_bdd.specs.Tuples.{IsReached, Moves, if_live, is_live, least, move_all, move_at}
use Rattle.hv_bdd.specs.Tuples.{move_one, next}
use Rattle.hv_bdd.specs.Working.Marked.{listed_marks}
use Rattle.hv_bdd.specs.Working.Ordered.{order_of}
use Rattle.hv_bdd.specs.Working.Search.{Explored, IsAskable, IsExplored, IsEndTuple}
use Rattle.hv_bdd.specs.Working.Search.{TupleSearch, link_at, tuple_at}
use Rattle.hv_bdd.specs.Working.Sets.{mark_literals}
use Rattle.hv_bdd.specs.Working.Graphs.{IsLiveAnswer}
use Rattle.hv_bdd.specs.Working.Untouched.{AsksAmong, FindNothing, IsFruitless, IsKeptTruly, MarksNone}
use Rattle.hv_bdd.proofs.Explored.{item_at, items}
use Rattle.hv_bdd.proofs.Found.{no_state, not_over}
use Rattle.hv_bdd.proofs.Listed.{is_unmarked, read_listed}
use Rattle.hv_bdd.proofs.Moved.{reached_next}

-- where the moves from each tuple that was found are the same, the same was found
module _ {O : Type 0} (m m' : Moves O) (os : List O) (root root' : List ℕ)
    (first : if_live m os root ≡ if_live m' os root') where
  module _ (done : ℕ) (ts : List (List ℕ)) (ls : List Link)
      (known : IsExplored m os root done ts ls)
      (same : (k : ℕ) (b : Bool) → k < length ts
      → next m os (tuple_at ts k) b ≡ next m' os (tuple_at ts k) b) where
    reached_too : (bound k : ℕ) → k < bound → k < length ts → IsReached m' os root' (tuple_at ts k)
    reached_too zero k less within = absurd (omega arith)
    reached_too (suc bound) zero less within = ([], sym first ∙ known.first within)
    reached_too (suc bound) (suc k) less within =
        let before = known.parent (suc k) (omega arith) within in
        let parent = (link_at ls (suc k)).parent in
        let bit = (link_at ls (suc k)).bit in
        reached_next m' os root' (tuple_at ts parent) (tuple_at ts (suc k)) bit
        (reached_too bound parent (omega arith) (omega arith))
        (sym (same parent bit (omega arith)) ∙ known.linked (suc k) (omega arith) within)

    explored_alike : IsExplored m' os root' done ts ls
    explored_alike = record {
      size = known.size;
      upto = known.upto;
      reached = λ k d less. subst (IsReached m' os root') (get_or_default ts k [] d less)
          (reached_too (suc k) k (omega arith) less);
      apart = known.apart;
      roots = λ u e. known.roots u (first ∙ e);
      first = λ some. sym first ∙ known.first some;
      closed = λ k b u less e.
          let upto = known.upto in known.closed k b u less (same k b (omega arith) ∙ e);
      parent = known.parent;
      linked = λ k some within.
          let before = known.parent k some within in
          sym (same (link_at ls k).parent (link_at ls k).bit (omega arith))
          ∙ known.linked k some within;
    }

module _ (list : NodeList) (start goal : List Bool) where
  -- the setting by these marks
  abbrev pub by_marks : List (Option Bool) → List (Option Bool) → TupleSetting
  by_marks needed changed = record {
    list = list;
    start = start;
    goal = goal;
    needed = needed;
    changed = changed;
  }

  module _ (n c n' c' : List (Option Bool)) where
    abbrev m : Moves Asked
    m = moves (by_marks n c)

    abbrev m' : Moves Asked
    m' = moves (by_marks n' c')

    root_same : (w : Which) → root (by_marks n c) w ≡ root (by_marks n' c') w
    root_same W.Empty = refl
    root_same W.Start = refl
    root_same W.Goal = refl
    root_same (W.Set number) = refl

    pub roots_same : (os : List Asked) → roots (by_marks n c) os ≡ roots (by_marks n' c') os
    roots_same [] = refl
    roots_same (o ∷ os) = ap₂ (λ i ts. i ∷ ts) (root_same o.which) (roots_same os)

    top_same : (w : Which) (i : ℕ) → graph_top (by_marks n c) w i ≡ graph_top (by_marks n' c') w i
    top_same W.Empty i = refl
    top_same W.Start i = refl
    top_same W.Goal i = refl
    top_same (W.Set number) i = refl

    child_same : (w : Which) (i : ℕ) (b : Bool)
        → graph_child (by_marks n c) w i b ≡ graph_child (by_marks n' c') w i b
    child_same W.Empty i b = refl
    child_same W.Start i b = refl
    child_same W.Goal i b = refl
    child_same (W.Set number) i b = refl

    pub least_same : (os : List Asked) (ts : List ℕ) → least m os ts ≡ least m' os ts
    least_same [] ts = refl
    least_same (o ∷ os) [] = refl
    least_same (o ∷ os) (i ∷ ts) = ap₂ min (top_same o.which i) (least_same os ts)

    live_same : (os : List Asked) (ts : List ℕ) → is_live m os ts ≡ is_live m' os ts
    live_same [] ts = refl
    live_same (o ∷ os) [] = refl
    live_same (o ∷ os) (i ∷ ts) =
        ap (λ b. not (nat_eq i (cond o.positive 0 1)) && b) (live_same os ts)

    pub if_live_same : (os : List Asked) (ts : List ℕ) → if_live m os ts ≡ if_live m' os ts
    if_live_same os ts = ap (λ b. cond b (Some ts) None) (live_same os ts)

    module _ (v : ℕ) (needs : bit_mark_of n (atom_at list v) ≡ bit_mark_of n' (atom_at list v))
        (changes : bit_mark_of c (atom_at list v) ≡ bit_mark_of c' (atom_at list v)) where
      one_same : (b : Bool) (o : Asked) (i : ℕ) → move_one m v b o i ≡ move_one m' v b o i
      one_same b o i =
          ap (λ t. cond (nat_eq t v) (m.child o i (m.seen o v b)) i) (top_same o.which i)
          ∙ ap (λ j. cond (nat_eq (m'.top o i) v) j i)
          (child_same o.which i (m.seen o v b)
          ∙ ap (λ mark. m'.child o i (cond o.after (bit_or mark b) b)) changes)

      all_same : (b : Bool) (os : List Asked) (ts : List ℕ)
          → move_all m v b os ts ≡ move_all m' v b os ts
      all_same b [] ts = refl
      all_same b (o ∷ os) [] = refl
      all_same b (o ∷ os) (i ∷ ts) = ap₂ (λ j us. j ∷ us) (one_same b o i) (all_same b os ts)

      move_same : (b : Bool) (os : List Asked) (ts : List ℕ)
          → cond (m.allows v b) (if_live m os (move_all m v b os ts)) None
          ≡ cond (m'.allows v b) (if_live m' os (move_all m' v b os ts)) None
      move_same b os ts =
          ap₂ (λ mark us. cond (is_marked mark b) (if_live m os us) None) needs (all_same b os ts)
          ∙ ap (λ o. cond (m'.allows v b) o None) (if_live_same os (move_all m' v b os ts))

    -- the moves are the same where the marks are at the place for which the tuple asks
    pub next_same : (os : List Asked) (ts : List ℕ) (b : Bool)
        → (least m os ts < list.atoms
        → bit_mark_of n (atom_at list (least m os ts))
        ≡ bit_mark_of n' (atom_at list (least m os ts)))
        → (least m os ts < list.atoms
        → bit_mark_of c (atom_at list (least m os ts))
        ≡ bit_mark_of c' (atom_at list (least m os ts)))
        → next m os ts b ≡ next m' os ts b
    next_same os ts b needs changes =
        by (nat_lt (least m os ts) list.atoms) refl
        ∙ ap (λ v. move_at m' os ts v b) (least_same os ts)
      where
        by : (t : Bool) → nat_lt (least m os ts) list.atoms ≡ t
            → cond (t && m.allows (least m os ts) b)
            (if_live m os (move_all m (least m os ts) b os ts)) None
            ≡ cond (t && m'.allows (least m os ts) b)
            (if_live m' os (move_all m' (least m os ts) b os ts)) None
        by true e =
            let less = ltb-true (least m os ts) list.atoms e in
            move_same (least m os ts) (needs less) (changes less) b os ts
        by false e = refl

    pub askable_same : (w : Which) → IsAskable (by_marks n c) w → IsAskable (by_marks n' c') w
    askable_same W.Empty a = a
    askable_same W.Start a = a
    askable_same W.Goal a = a
    askable_same (W.Set number) a = a

-- a search that finds nothing, and marks none of the places for which its tuples ask
module _ (s : TupleSearch) (done : ℕ) (reached : Reached) (e : Explored s done reached)
    (past : length reached.tuples.keys ≤ done) (places : List Bool)
    (needs : MarksNone s.setting.list s.setting.needed places)
    (changes : MarksNone s.setting.list s.setting.changed places)
    (noted : All (λ (t : SmallVec ℕ). AsksAmong s places t.items) reached.tuples.keys) where
  abbrev keys : List (SmallVec ℕ)
  keys = reached.tuples.keys

  abbrev ours : NodeList
  ours = s.setting.list

  abbrev at : ℕ → ℕ
  at k = least (moves s.setting) s.asked (tuple_at (items keys) k)

  noted_at : (k : ℕ) → k < length keys → (at k < ours.atoms) × (has_atom places (at k) ≡ true)
  noted_at k less =
      let v : SmallVec ℕ = record { items = []; capacity = 0 } in
      subst (AsksAmong s places)
      (sym (item_at keys k (get_or keys k v) less
      (get_or_default keys k (get_or keys k v) v less)))
      (noted k v less)

  module _ (needed changed : List (Option Bool)) (size : length needed ≡ ours.atoms)
      (sizes : length changed ≡ ours.atoms) (needs' : MarksNone ours needed places)
      (changes' : MarksNone ours changed places) where
    abbrev other : TupleSearch
    other = record {
      setting = by_marks ours s.setting.start s.setting.goal needed changed;
      asked = s.asked;
    }

    same_next : (k : ℕ) (b : Bool) → k < length (items keys)
        → next (moves s.setting) s.asked (tuple_at (items keys) k) b
        ≡ next (moves other.setting) s.asked (tuple_at (items keys) k) b
    same_next k b less =
        let count = length-map keys (λ (v : SmallVec ℕ). v.items) in
        let here = noted_at k (omega arith) in
        next_same ours s.setting.start s.setting.goal s.setting.needed s.setting.changed
        needed changed s.asked (tuple_at (items keys) k) b
        (λ less. needs (at k) here.0 here.1 ∙ sym (needs' (at k) here.0 here.1))
        (λ less. changes (at k) here.0 here.1 ∙ sym (changes' (at k) here.0 here.1))

    first_same : if_live (moves s.setting) s.asked (roots s.setting s.asked)
        ≡ if_live (moves other.setting) s.asked (roots other.setting s.asked)
    first_same =
        if_live_same ours s.setting.start s.setting.goal s.setting.needed s.setting.changed
        needed changed s.asked (roots s.setting s.asked)
        ∙ ap (if_live (moves other.setting) s.asked)
        (roots_same ours s.setting.start s.setting.goal s.setting.needed s.setting.changed
        needed changed s.asked)

    explored_other : Explored other done reached
    explored_other = record {
      search = record {
        reduced = e.search.reduced;
        needed = size;
        changed = sizes;
        asked = λ k d less.
            askable_same ours s.setting.start s.setting.goal s.setting.needed s.setting.changed
            needed changed (get_or s.asked k d).which (e.search.asked k d less);
      };
      known = explored_alike (moves s.setting) (moves other.setting) s.asked
          (roots s.setting s.asked) (roots other.setting s.asked) first_same done
          (items keys) reached.links.items e.known same_next;
    }

    none_ends : All (λ (t : SmallVec ℕ). IsEndTuple other t.items → ⊥) keys
    none_ends k d less ends =
        let within = (noted k d less).0 in
        let same = least_same ours s.setting.start s.setting.goal s.setting.needed
        s.setting.changed needed changed s.asked (get_or keys k d).items in
        omega (arith, within, same, ends)

  pub finds_nothing : FindNothing ours s.setting.start s.setting.goal s.asked places (length keys)
  finds_nothing needed changed budget state size sizes needs' changes' few =
      let it = explored_other needed changed size sizes needs' changes' in (
        not_over (other needed changed size sizes needs' changes') done reached it budget
            few (inr past),
        no_state (other needed changed size sizes needs' changes') done reached it past
            (none_ends needed changed size sizes needs' changes'),
      )

-- what is kept tells the answer
pub fruitless : (list : NodeList) (start goal : List Bool) (asked : List Asked)
    (needed changed : List (Option Bool)) (budget : ℕ) (state : List Bool)
    (known : Option Untouched) → IfSome known (λ k. k.asked.items ≡ asked)
    → IfSome known (IsKeptTruly list start goal)
    → length needed ≡ list.atoms → length changed ≡ list.atoms
    → IsFruitless list needed changed budget known
    → IsLiveAnswer F.Empty (by_marks list start goal needed changed) asked budget state
fruitless list start goal asked needed changed budget state None same known size sizes says =
    absurd says
fruitless list start goal asked needed changed budget state (Some k) same known size sizes says =
    by k.count known.nothing says
  where
    by : (o : Option ℕ)
        → IfSome o (λ count. FindNothing list start goal k.asked.items k.places count)
        → MatchOption o ⊥ (λ count.
        MarksNone list needed k.places × MarksNone list changed k.places × (count ≤ budget))
        → IsLiveAnswer F.Empty (by_marks list start goal needed changed) asked budget state
    by None nothing found = absurd found
    by (Some count) nothing found =
        subst (λ os. IsLiveAnswer F.Empty (by_marks list start goal needed changed) os budget state)
        same (nothing needed changed budget state size sizes found.0 found.1 found.2)

-- a place more
pub kept_flag : (places : List Bool) (p q : ℕ) → p < length places → has_atom places q ≡ true
    → has_atom (set places p true) q ≡ true
kept_flag places p q less here =
    elim (cases_eq q p) [
      | inl e ↦ ap (has_atom (set places p true)) e ∙ get_or-set_same places p true false less
      | inr other ↦ get_or-set_other places p q true false other ∙ here
    ]

pub asked_more : (s : TupleSearch) (places : List Bool) (keys : List (SmallVec ℕ)) (k place : ℕ)
    (v : SmallVec ℕ) → length places ≡ s.setting.list.atoms
    → All (λ (t : SmallVec ℕ). AsksAmong s places t.items) (take k keys) → k < length keys
    → get_or keys k v ≡ v → place ≡ least (moves s.setting) s.asked v.items
    → place < s.setting.list.atoms
    → All (λ (t : SmallVec ℕ). AsksAmong s (set places place true) t.items) (take (k + 1) keys)
asked_more s places keys k place v size all less is asks within =
    subst (All (λ (t : SmallVec ℕ). AsksAmong s (set places place true) t.items))
    (sym (take_more keys k v less))
    (All-push (λ (t : SmallVec ℕ). AsksAmong s (set places place true) t.items) (take k keys)
    (get_or keys k v)
    (λ j d before.
    let old = all j d before in (
      old.0,
      kept_flag places place (least (moves s.setting) s.asked (get_or (take k keys) j d).items)
          (omega arith) old.1,
    ))
    (subst (λ (t : SmallVec ℕ). AsksAmong s (set places place true) t.items) (sym is) (
      omega (arith, asks, within),
      ap (has_atom (set places place true)) (sym asks)
          ∙ get_or-set_same places place true false (omega arith),
    )))

-- marks that are read off lists, none of whose atoms is at these places
pub none_listed : (list : NodeList) → IsReduced list → (places : List Bool) (ls : List Literal)
    (atoms : ℕ) (ones zeros : List ℕ) → ls ≡ []
    → length (mark_literals ls (listed_marks atoms ones zeros)) ≡ list.atoms
    → ((v : ℕ) → v < list.atoms → has_atom places v ≡ true → Contains ones (atom_at list v) → ⊥)
    → ((v : ℕ) → v < list.atoms → has_atom places v ≡ true → Contains zeros (atom_at list v) → ⊥)
    → MarksNone list (mark_literals ls (listed_marks atoms ones zeros)) places
none_listed list reduced places ls atoms ones zeros empty size apart too v less here =
    let within = (order_of list reduced).atom_in v less in
    read_listed ls atoms (atom_at list v) ones zeros (omega arith)
    (λ k inside same. let count = ap length empty in omega arith)
    ∙ is_unmarked ones zeros (atom_at list v) (apart v less here) (too v less here)

-- atoms none of whose places is among these
pub apart_from : (list : NodeList) → IsReduced list → (places : List Bool) (held : List ℕ)
    → All (λ a. (a < list.atoms) × (has_atom places (place list a) ≡ false)) held
    → (v : ℕ) → v < list.atoms → has_atom places v ≡ true → Contains held (atom_at list v) → ⊥
apart_from list reduced places held all v less here there =
    let out = all there.0 (atom_at list v) there.1 in
    let back = (order_of list reduced).back v less in
    let false_here : has_atom places v ≡ false =
    ap (has_atom places) (sym back)
    ∙ (ap (λ a. has_atom places (place list a)) (sym there.2) ∙ out.1) in
    let clash : true ≡ false = sym here ∙ false_here in absurd cc

-- a list without items
pub no_items : {X : Type 0} (xs : List X) → (length xs == 0) ≡ true → xs ≡ []
no_items [] none = refl
no_items (x ∷ xs) none =
    let some = (Decides-eqb (length (x ∷ xs)) 0).0 none in absurd (omega arith)

-- lists of operands that are compared one by one
one_asked : (a b : Asked) → a.which ≡ b.which → a.after ≡ b.after → a.positive ≡ b.positive → a ≡ b
one_asked a b which after positive = λ k.
    record { which = which k; after = after k; positive = positive k }

pub same_more : (xs ys : List Asked) (k : ℕ) (p q : Asked) → k < length xs → k < length ys
    → (get_or xs k p).which ≡ (get_or ys k q).which
    → (get_or xs k p).after ≡ (get_or ys k q).after
    → (get_or xs k p).positive ≡ (get_or ys k q).positive
    → ((j : ℕ) (d e : Asked) → j < k → get_or xs j d ≡ get_or ys j e)
    → (j : ℕ) (d e : Asked) → j < k + 1 → get_or xs j d ≡ get_or ys j e
same_more xs ys k p q within inside which after positive before j d e less =
    elim (cases_lt j k) [
      | inl early ↦ before j d e early
      | inr late ↦
          let at : j ≡ k = omega arith in
          ap (λ i. get_or xs i d) at
          ∙ (get_or_default xs k d p within
          ∙ (one_asked (get_or xs k p) (get_or ys k q) which after positive
          ∙ (get_or_default ys k q e inside ∙ ap (λ i. get_or ys i e) (sym at))))
    ]
