-- What the search through live tuples knows when it answers.
use Rattle.std.proofs.Common.{◌≡◌, ℕ, ◌<◌, ◌≤◌, ◌∙◌, ◌⊎◌, Bool, true, false, List, [], Some}
use Rattle.std.proofs.Common.{length, get_or, set, refl, sym, ap, arith, inl, inr, subst}
use Rattle.std.proofs.lemmas.List.{get_or_default, length-map}
use Rattle.std.proofs.lemmas.List.Elements.{All-get_or}
use Rattle.std.specs.List.{All}
use Rattle.smallvec.specs.SmallVec.{SmallVec}
use Rattle.hv_bdd.specs.declared.asked.Asked.{Asked}
use Rattle.hv_bdd.specs.declared.reach.Reached.{Reached}
use Rattle.hv_bdd.specs.declared.tuple_search.Link.{Link}
use Rattle.hv_bdd.specs.Working.Graphs.{AgreesWithNodes, FitsBits, Suits, in_asked}
use Rattle.hv_bdd.specs.Live.{moves, roots}
use Rattle.hv_bdd.specs.Order.{atom_at}
use Rattle.hv_bdd.specs.Working.Search.{Explored, IsEndTuple, IsTuple, TupleSearch, link_at}
use Rattle.hv_bdd.specs.Working.Search.{tuple_at}
use Rattle.hv_bdd.specs.Tuples.{IsReached, TuplesPass, is_live, least, move_all, next}
use Rattle.hv_bdd.proofs.Explored.{all_there, item_at, items, passes, within_budget}
use Rattle.hv_bdd.proofs.Moved.{back, back_fits, complete_from, ended, next_is}
use Rattle.hv_bdd.specs.Working.Ordered.{order_of}
use Rattle.hv_bdd.proofs.Steps.{least_below}
use Rattle.hv_bdd.proofs.Tupled.{lim, nodes_of, reached_live, reached_tuple, roots_nodes, truths}

module _ (s : TupleSearch) (done : ℕ) (reached : Reached) (e : Explored s done reached) where
  abbrev pub keys : List (SmallVec ℕ)
  keys = reached.tuples.keys

  abbrev pub ls : List Link
  ls = reached.links.items

  abbrev pub agrees : List Bool → List ℕ → Type 0
  agrees state ts = AgreesWithNodes (in_asked s.setting)
      (λ (o : Asked). o.positive) state s.asked ts

  pub len : length (items keys) ≡ length keys
  len = length-map keys (λ (v : SmallVec ℕ). v.items)

  reached_at : (k : ℕ) → k < length keys → IsReached (moves s.setting) s.asked
      (roots s.setting s.asked) (tuple_at (items keys) k)
  reached_at k within =
      let size = len in
      All-get_or (IsReached (moves s.setting) s.asked (roots s.setting s.asked))
      (items keys) k [] (omega arith) e.known.reached

  tuple_here : (k : ℕ) → k < length keys → IsTuple s (tuple_at (items keys) k)
  tuple_here k within = reached_tuple s e.search (tuple_at (items keys) k) (reached_at k within)

  -- a tuple that is read
  pub tuple_read : (k : ℕ) (v : SmallVec ℕ) (ts : List ℕ) → k < length keys → get_or keys k v ≡ v
      → ts ≡ v.items → IsTuple s ts
  tuple_read k v ts within is same = subst (IsTuple s) (item_at keys k v within is ∙ sym same)
      (tuple_here k within)

  -- and it is live
  pub live_read : (k : ℕ) (v : SmallVec ℕ) (ts : List ℕ) → k < length keys → get_or keys k v ≡ v
      → ts ≡ v.items → is_live (moves s.setting) s.asked ts ≡ true
  live_read k v ts within is same =
      subst (λ us. is_live (moves s.setting) s.asked us ≡ true)
      (item_at keys k v within is ∙ sym same)
      (reached_live s e.search (tuple_at (items keys) k) (reached_at k within))

  pub all_tuples : All (λ (t : SmallVec ℕ). IsTuple s t.items) keys
  all_tuples k d within = tuple_read k (get_or keys k d) (get_or keys k d).items within
      (get_or_default keys k (get_or keys k d) d within) refl

  -- a step back along a link
  module _ (at : ℕ) (some : 0 < at) (within : at < length keys) (link : Link)
      (is : link ≡ get_or ls at link) where
    link_is : link_at ls at ≡ link
    link_is =
        let size = e.known.size in
        let sizes = len in
        get_or_default ls at (record { parent = 0; bit = false }) link (omega arith) ∙ sym is

    pub parent_less : link.parent < at
    parent_less =
        let size = len in
        let less = e.known.parent at some (omega arith) in
        let same = ap (λ (l : Link). l.parent) link_is in omega arith

    leads : next (moves s.setting) s.asked (tuple_at (items keys) link.parent) link.bit
        ≡ Some (tuple_at (items keys) at)
    leads =
        let size = len in
        ap (λ (l : Link). next (moves s.setting) s.asked (tuple_at (items keys) l.parent)
        l.bit) (sym link_is)
        ∙ e.known.linked at some (omega arith)

    module _ (v : SmallVec ℕ) (place atom : ℕ) (read : get_or keys link.parent v ≡ v)
        (place_is : place ≡ least (moves s.setting) s.asked v.items)
        (atom_is : atom ≡ atom_at s.setting.list place) where
      item : tuple_at (items keys) link.parent ≡ v.items
      item = let less = parent_less in item_at keys link.parent v (omega arith) read

      says : (least (moves s.setting) s.asked v.items < s.setting.list.atoms)
          × ((moves s.setting).allows (least (moves s.setting) s.asked v.items) link.bit
          ≡ true)
          × (is_live (moves s.setting) s.asked (tuple_at (items keys) at) ≡ true)
          × (move_all (moves s.setting) (least (moves s.setting) s.asked v.items) link.bit
          s.asked v.items ≡ tuple_at (items keys) at)
      says =
          next_is (moves s.setting) (lim s) (in_asked s.setting) (truths s e.search) s.asked
          v.items (tuple_at (items keys) at) link.bit
          (ap (λ ts. next (moves s.setting) s.asked ts link.bit) (sym item) ∙ leads)

      atom_here : atom ≡ atom_at s.setting.list (least (moves s.setting) s.asked v.items)
      atom_here = atom_is ∙ ap (atom_at s.setting.list) place_is

      pub atom_less : atom < s.setting.list.atoms
      atom_less =
          let place = least (moves s.setting) s.asked v.items in
          let less = (order_of s.setting.list e.search.reduced).atom_in place says.0 in
          let same = atom_here in omega arith

      pub fits_back : (state new : List Bool) → new ≡ set state atom link.bit
          → FitsBits (moves s.setting) state → FitsBits (moves s.setting) new
      fits_back state new is_new fits =
          subst (FitsBits (moves s.setting))
          (sym (is_new ∙ ap (λ a. set state a link.bit) atom_here))
          (back_fits (moves s.setting) (lim s) (in_asked s.setting) (truths s e.search) state
          (least (moves s.setting) s.asked v.items) link.bit says.0 says.1 fits)

      pub agrees_back : (state new : List Bool) → new ≡ set state atom link.bit
          → FitsBits (moves s.setting) state → agrees state (tuple_at (items keys) at)
          → agrees new (tuple_at (items keys) link.parent)
      agrees_back state new is_new fits old =
          let less = parent_less in
          subst (λ ts. agrees new ts) (sym item)
          (subst (λ x. agrees x v.items) (sym (is_new ∙ ap (λ a. set state a link.bit) atom_here))
          (back (moves s.setting) (lim s) (in_asked s.setting) (truths s e.search) state
          (least (moves s.setting) s.asked v.items) link.bit
          s.asked v.items fits.0 says.0
          (nodes_of s v.items (subst (IsTuple s) item (tuple_here link.parent (omega arith))))
          (omega arith)
          (subst (λ ts. agrees state ts) (sym says.3) old)))

  -- each state is in a live tuple of ends
  pub end_agrees : (k : ℕ) (state : List Bool) → k < length keys
      → IsEndTuple s (tuple_at (items keys) k) → agrees state (tuple_at (items keys) k)
  end_agrees k state within end =
      ended (moves s.setting) (lim s) (in_asked s.setting) (truths s e.search) state s.asked
      (tuple_at (items keys) k)
      (nodes_of s (tuple_at (items keys) k) (tuple_here k within)) (omega arith)
      (reached_live s e.search (tuple_at (items keys) k) (reached_at k within))

  -- where no tuple ends, no state suits the operands
  pub no_state : length keys ≤ done → All (λ (t : SmallVec ℕ). IsEndTuple s t.items → ⊥) keys
      → (state : List Bool) → Suits s.setting s.asked state → ⊥
  no_state past none state suits =
      let size = len in
      let found = complete_from (moves s.setting) (lim s) (in_asked s.setting) (truths s e.search)
      state s.asked (roots s.setting s.asked)
      suits.0 (roots_nodes s e.search) suits.1 in
      let there = all_there (moves s.setting) s.asked (roots s.setting s.asked) done
      (items keys) ls e.known (omega arith) found.0 found.1 in
      let below = least_below (moves s.setting) s.asked found.0 in
      let end : IsEndTuple s found.0 = omega (arith, found.2) in
      let v : SmallVec ℕ = record { items = []; capacity = 0 } in
      let inside : there.0 < length keys = omega (arith, there.1) in
      let same = sym there.2 ∙ get_or_default (items keys) there.0 found.0 [] there.1
      ∙ item_at keys there.0 (get_or keys there.0 v) inside
      (get_or_default keys there.0 (get_or keys there.0 v) v inside) in
      none there.0 v inside (subst (IsEndTuple s) same end)

  pub over_budget : (budget : ℕ) → budget < length keys
      → TuplesPass (moves s.setting) s.asked (roots s.setting s.asked) budget
  over_budget budget over =
      let size = len in
      passes (moves s.setting) s.asked (roots s.setting s.asked) done budget
      (items keys) ls e.known (omega arith)

  pub not_over : (budget : ℕ) → length keys ≤ budget → (budget < length keys) ⊎ (length keys ≤ done)
      → TuplesPass (moves s.setting) s.asked (roots s.setting s.asked) budget → ⊥
  not_over budget few either pass =
      let size = len in
      elim either [
        | inl over ↦ absurd (omega arith)
        | inr past ↦
            within_budget (moves s.setting) s.asked (roots s.setting s.asked) done
            budget (items keys) ls e.known (omega arith) (omega arith) pass
      ]

  pub is_past : (budget : ℕ) → length keys ≤ budget → (budget < length keys) ⊎ (length keys ≤ done)
      → length keys ≤ done
  is_past budget few either = elim either [ inl over ↦ absurd (omega arith) | inr past ↦ past ]
