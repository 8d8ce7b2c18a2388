-- What a sweep through live tuples tells: of its own search, and of others of the same operands
-- whose actions mark none of the places for which tuples asked.
use Rattle.std.proofs.Common.{◌≡◌, ℕ, ◌<◌, ◌≤◌, ◌+◌, ◌++◌, ◌∷◌, ◌∙◌, ◌⊎◌, Bool, true, List, []}
use Rattle.std.proofs.Common.{Option, None, Some, length, eqb, get_or, map, refl, sym, ap, arith}
use Rattle.std.proofs.Common.{inl, inr, subst}
use Rattle.std.proofs.lemmas.Bool.Decides.{Decides-eqb}
use Rattle.std.proofs.lemmas.List.{get_or-map, length-append, length-map}
use Rattle.std.proofs.lemmas.List.Elements.{All-append, All-contains, All-map, All-nil, All-push}
use Rattle.std.proofs.lemmas.List.Elements.{All-weaker, Contains-append_left, Contains-push}
use Rattle.std.proofs.lemmas.List.Elements.{filter_passes}
use Rattle.std.proofs.lemmas.List.Sums.{count_by-le-length, length-filter}
use Rattle.std.specs.List.{All, Contains, filter}
use Rattle.std.specs.Prelude.{IfSome}
use Rattle.smallvec.specs.SmallVec.{SmallVec}
use Rattle.hv_task.specs.State.{has_atom}
use Rattle.hv_sets.specs.declared.finding.Finding.TheVariants as F
use Rattle.hv_bdd.specs.Live.{moves, roots}
use Rattle.hv_bdd.specs.declared.asked.Asked.{Asked}
use Rattle.hv_bdd.specs.Nodes.{NodeList}
use Rattle.hv_bdd.specs.Tuples.{IsReached, TuplesPass, if_live, least, next}
use Rattle.hv_bdd.specs.Working.Graphs.{IsLiveAnswer, Suits, in_asked}
use Rattle.hv_bdd.specs.Working.Search.{IsTupleSearch, TupleSearch}
use Rattle.hv_bdd.specs.Working.Sweeping.{AreMany, IsSweptPlace, IsTupleAdded, SweptSoFar}
use Rattle.hv_bdd.specs.Working.Sweeping.{asking_for}
use Rattle.hv_bdd.specs.Working.Untouched.{FindNothing, IsKeptTruly, IsKeptTrulyFor, MarksNone}
use Rattle.hv_bdd.specs.declared.untouched.Untouched.{Untouched}
use Rattle.hv_bdd.proofs.Alike.{askable_same, by_marks, if_live_same, least_same, next_same}
use Rattle.hv_bdd.proofs.Alike.{roots_same}
use Rattle.hv_bdd.proofs.Explored.{few_hold, items}
use Rattle.hv_bdd.proofs.Moved.{complete_from, reached_in}
use Rattle.hv_bdd.proofs.Swept.{added_all, added_differ, added_new, all_gone, count_asking}
use Rattle.hv_bdd.proofs.Swept.{map_items, place_over, place_passed}
use Rattle.hv_bdd.proofs.Tupled.{lim, roots_nodes, truths}

-- where all that are reached are among tuples of which none ends, no state suits the operands
none_suits : (s : TupleSearch) → IsTupleSearch s → (ts : List (List ℕ))
    → ((u : List ℕ) → IsReached (moves s.setting) s.asked (roots s.setting s.asked) u
    → Contains ts u)
    → All (λ t. least (moves s.setting) s.asked t < s.setting.list.atoms) ts
    → (state : List Bool) → Suits s.setting s.asked state → ⊥
none_suits s search ts there below state suits =
    let found = complete_from (moves s.setting) (lim s) (in_asked s.setting) (truths s search)
    state s.asked (roots s.setting s.asked) suits.0 (roots_nodes s search) suits.1 in
    let less = All-contains (λ t. least (moves s.setting) s.asked t < s.setting.list.atoms) ts
    found.0 below (there found.0 found.1) in
    let end : s.setting.list.atoms ≤ least (moves s.setting) s.asked found.0 = found.2 in
    absurd (omega arith)

-- no tuple is gone at first
pub sweep_begun : (s : TupleSearch) → IsTupleSearch s → (places : List ℕ) → places ≡ []
    → (here : List (List ℕ)) (root : Option (List ℕ))
    → root ≡ if_live (moves s.setting) s.asked (roots s.setting s.asked)
    → IsTupleAdded [] root here → SweptSoFar s 0 places here
sweep_begun s search places none here root is put =
    let reached : List ℕ → Type 0 = IsReached (moves s.setting) s.asked
    (roots s.setting s.asked) in
    record {
      search = search;
      from = 0;
      upto = omega arith;
      gone = [];
      size = refl;
      swept = record {
        gone_reached = All-nil reached;
        waiting_reached = added_all [] here reached root put (All-nil reached)
            (λ u e. ([], sym is ∙ e));
        gone_differ = tt;
        waiting_differ = added_differ [] here root put tt;
        before = All-nil (λ t. least (moves s.setting) s.asked t < 0);
        upto = λ k d less. omega arith;
        roots = λ u e. inr (added_new [] here root put u (is ∙ e));
        closed = λ t u b c. let less = c.1 in absurd (omega arith);
      };
      asked_for = All-nil (λ t. Contains places (least (moves s.setting) s.asked t));
      within = subst (All (λ v. v < s.setting.list.atoms)) (sym none)
          (All-nil (λ v. v < s.setting.list.atoms));
    }

-- those that ask for one more place are gone
pub sweep_further : (s : TupleSearch) (count : ℕ) (places places' : List ℕ)
    (waiting later : List (List ℕ)) (v n : ℕ) → SweptSoFar s count places waiting
    → v < s.setting.list.atoms
    → All (λ t. v ≤ least (moves s.setting) s.asked t) waiting
    → ((w : ℕ) → w ≤ s.setting.list.atoms
    → All (λ t. w ≤ least (moves s.setting) s.asked t) waiting → w ≤ v)
    → IsSweptPlace (moves s.setting) s.asked (roots s.setting s.asked) v waiting later
    → places' ≡ places ++ v ∷ []
    → n ≡ length (asking_for (moves s.setting) s.asked (roots s.setting s.asked) v waiting)
    → SweptSoFar s (count + n) places' later
sweep_further s count places places' waiting later v n so within upto great passed pushed count_is =
    let at : List ℕ → ℕ = least (moves s.setting) s.asked in
    let root = roots s.setting s.asked in
    let asking = asking_for (moves s.setting) s.asked root v waiting in
    record {
      search = so.search;
      from = v + 1;
      upto = omega arith;
      gone = so.gone ++ asking;
      size = let size = so.size in let both = length-append so.gone asking in omega arith;
      swept = place_passed (moves s.setting) s.asked root so.from so.gone waiting so.swept v later
          upto (great so.from so.upto so.swept.upto) passed;
      asked_for = All-append (λ t. Contains places' (at t)) so.gone asking
          (All-weaker (λ t. Contains places (at t)) (λ t. Contains places' (at t))
          (λ t c. subst (λ l. Contains l (at t)) (sym pushed)
          (Contains-append_left places (v ∷ []) (at t) c)) so.gone so.asked_for)
          (All-weaker (λ t. eqb (at t) v ≡ true) (λ t. Contains places' (at t))
          (λ t e. subst (Contains places') (sym ((Decides-eqb (at t) v).0 e))
          (subst (λ l. Contains l v) (sym pushed) (Contains-push places v)))
          asking (filter_passes (λ t. eqb (at t) v) waiting));
      within = subst (All (λ x. x < s.setting.list.atoms)) (sym pushed)
          (All-push (λ x. x < s.setting.list.atoms) places v so.within within);
    }

-- the same by the places for which the tuples ask
pub place_done : (s : TupleSearch) (count : ℕ) (places places' : List ℕ)
    (keys : List (SmallVec ℕ)) (later : List (List ℕ)) (tops : List ℕ) (v n : ℕ)
    → SweptSoFar s count places (items keys) → v < s.setting.list.atoms
    → tops ≡ map (λ (t : SmallVec ℕ). least (moves s.setting) s.asked t.items) keys
    → All (λ x. v ≤ x) tops
    → ((w : ℕ) → w ≤ s.setting.list.atoms → All (λ x. w ≤ x) tops → w ≤ v)
    → IsSweptPlace (moves s.setting) s.asked (roots s.setting s.asked) v (items keys) later
    → places' ≡ places ++ v ∷ [] → n ≡ length (filter (λ x. eqb x v) tops)
    → SweptSoFar s (count + n) places' later
place_done s count places places' keys later tops v n so within read upto great passed pushed is =
    let at : List ℕ → ℕ = least (moves s.setting) s.asked in
    let tops_are = read ∙ map_items at keys in
    sweep_further s count places places' (items keys) later v n so within
    (λ k d less.
    let size = length-map (items keys) at in
    subst (λ x. v ≤ x) (get_or-map at (items keys) k d 0 less)
    (subst (All (λ x. v ≤ x)) tops_are upto k 0 (omega arith)))
    (λ w below all.
    great w below (subst (All (λ x. w ≤ x)) (sym tops_are)
    (All-map (λ x. w ≤ x) at (items keys) all)))
    passed pushed
    (is ∙ (ap (λ l. length (filter (λ x. eqb x v) l)) tops_are ∙ count_asking at v (items keys)))

-- more are reached than are left
pub place_many : (s : TupleSearch) (count left : ℕ) (places : List ℕ) (keys : List (SmallVec ℕ))
    (later : List (List ℕ)) (tops : List ℕ) (v : ℕ) → SweptSoFar s count places (items keys)
    → tops ≡ map (λ (t : SmallVec ℕ). least (moves s.setting) s.asked t.items) keys
    → ((w : ℕ) → w ≤ s.setting.list.atoms → All (λ x. w ≤ x) tops → w ≤ v)
    → AreMany (moves s.setting) s.asked (roots s.setting s.asked) v left later
    → TuplesPass (moves s.setting) s.asked (roots s.setting s.asked) (count + left)
place_many s count left places keys later tops v so read great are =
    let at : List ℕ → ℕ = least (moves s.setting) s.asked in
    let root = roots s.setting s.asked in
    let past = great so.from so.upto (subst (All (λ x. so.from ≤ x))
    (sym (read ∙ map_items at keys))
    (All-map (λ x. so.from ≤ x) at (items keys) so.swept.upto)) in
    subst (λ n. TuplesPass (moves s.setting) s.asked root (n + left)) so.size
    (place_over (moves s.setting) s.asked root so.from so.gone (items keys) so.swept v left later
    past are)

-- no more of them than wait
pub few_ask : (s : TupleSearch) (keys : List (SmallVec ℕ)) (tops : List ℕ) (v n : ℕ)
    → tops ≡ map (λ (t : SmallVec ℕ). least (moves s.setting) s.asked t.items) keys
    → n ≡ length (filter (λ x. eqb x v) tops) → n ≤ length keys
few_ask s keys tops v n read is =
    let size = ap length read ∙ length-map keys
    (λ (t : SmallVec ℕ). least (moves s.setting) s.asked t.items) in
    let count = length-filter (λ x. eqb x v) tops in
    let few = count_by-le-length (λ x. eqb x v) tops in
    omega arith

module _ (s : TupleSearch) (count : ℕ) (places : List ℕ) (so : SweptSoFar s count places []) where
  abbrev at : List ℕ → ℕ
  at t = least (moves s.setting) s.asked t

  abbrev ours : NodeList
  ours = s.setting.list

  place_of : (t : List ℕ) → Contains so.gone t → Contains places (at t)
  place_of t c = All-contains (λ x. Contains places (at x)) so.gone t so.asked_for c

  below : All (λ t. at t < ours.atoms) so.gone
  below = All-weaker (λ t. Contains places (at t)) (λ t. at t < ours.atoms)
      (λ t c. All-contains (λ v. v < ours.atoms) places (at t) so.within c) so.gone so.asked_for

  only : (n : List ℕ) → Contains so.gone n ⊎ Contains [] n → Contains so.gone n
  only n either = elim either [
    | inl c ↦ c
    | inr c ↦ let less = c.1 in absurd (omega arith)
  ]

  pub swept_empty : (budget : ℕ) → count ≤ budget → (state : List Bool)
      → IsLiveAnswer F.Empty s.setting s.asked budget state
  swept_empty budget few state =
      let there = all_gone (moves s.setting) s.asked (roots s.setting s.asked) so.from so.gone
      so.swept in
      let size = so.size in (
        few_hold (moves s.setting) s.asked (roots s.setting s.asked) budget so.gone there
            (omega arith),
        none_suits s so.search so.gone there below,
      )

  module _ (flags : List Bool) (needs : MarksNone ours s.setting.needed flags)
      (changes : MarksNone ours s.setting.changed flags)
      (noted : All (λ v. has_atom flags v ≡ true) places) where
    module _ (needed changed : List (Option Bool)) (size : length needed ≡ ours.atoms)
        (sizes : length changed ≡ ours.atoms) (needs' : MarksNone ours needed flags)
        (changes' : MarksNone ours changed flags) where
      abbrev other : TupleSearch
      other = record {
        setting = by_marks ours s.setting.start s.setting.goal needed changed;
        asked = s.asked;
      }

      other_search : IsTupleSearch other
      other_search = record {
        reduced = so.search.reduced;
        needed = size;
        changed = sizes;
        asked = λ k d less.
            askable_same ours s.setting.start s.setting.goal s.setting.needed s.setting.changed
            needed changed (get_or s.asked k d).which (so.search.asked k d less);
      }

      same_moves : (t : List ℕ) (b : Bool) → Contains so.gone t
          → next (moves s.setting) s.asked t b ≡ next (moves other.setting) s.asked t b
      same_moves t b c =
          let flag = All-contains (λ v. has_atom flags v ≡ true) places (at t) noted
          (place_of t c) in
          next_same ours s.setting.start s.setting.goal s.setting.needed s.setting.changed
          needed changed s.asked t b
          (λ less. needs (at t) less flag ∙ sym (needs' (at t) less flag))
          (λ less. changes (at t) less flag ∙ sym (changes' (at t) less flag))

      same_root : if_live (moves s.setting) s.asked (roots s.setting s.asked)
          ≡ if_live (moves other.setting) s.asked (roots other.setting s.asked)
      same_root =
          if_live_same ours s.setting.start s.setting.goal s.setting.needed s.setting.changed
          needed changed s.asked (roots s.setting s.asked)
          ∙ ap (if_live (moves other.setting) s.asked)
          (roots_same ours s.setting.start s.setting.goal s.setting.needed s.setting.changed
          needed changed s.asked)

      there : (u : List ℕ)
          → IsReached (moves other.setting) s.asked (roots other.setting s.asked) u
          → Contains so.gone u
      there u reached =
          reached_in (moves other.setting) (Contains so.gone) s.asked
          (roots other.setting s.asked) u
          (λ n e. only n (so.swept.roots n (same_root ∙ e)))
          (λ n w b c e. only w (so.swept.closed n w b c (same_moves n b c ∙ e)))
          reached

      below_too : All (λ t. least (moves other.setting) s.asked t < ours.atoms) so.gone
      below_too = All-weaker (λ t. at t < ours.atoms)
          (λ t. least (moves other.setting) s.asked t < ours.atoms)
          (λ t less.
          let same = least_same ours s.setting.start s.setting.goal s.setting.needed
          s.setting.changed needed changed s.asked t in
          omega arith) so.gone below

    pub sweep_finds_nothing : FindNothing ours s.setting.start s.setting.goal s.asked flags count
    sweep_finds_nothing needed changed budget state size sizes needs' changes' few =
        let total = so.size in (
          few_hold (moves (other needed changed size sizes needs' changes').setting) s.asked
              (roots (other needed changed size sizes needs' changes').setting s.asked) budget
              so.gone (there needed changed size sizes needs' changes') (omega arith),
          none_suits (other needed changed size sizes needs' changes')
              (other_search needed changed size sizes needs' changes') so.gone
              (there needed changed size sizes needs' changes')
              (below_too needed changed size sizes needs' changes'),
        )

-- what is kept of a search is kept of its setting
pub kept_of : (s : TupleSearch) (list : NodeList) (start goal : List Bool)
    (known : Option Untouched) → s.setting.list ≡ list → s.setting.start ≡ start
    → s.setting.goal ≡ goal → IsKeptTrulyFor s known
    → IfSome known (IsKeptTruly list start goal)
kept_of s list start goal None is_list is_start is_goal kept = tt
kept_of s list start goal (Some k) is_list is_start is_goal kept =
    subst (λ (x : NodeList). IsKeptTruly x start goal k) is_list
    (subst (λ (x : List Bool). IsKeptTruly s.setting.list x goal k) is_start
    (subst (λ (x : List Bool). IsKeptTruly s.setting.list s.setting.start x k) is_goal kept.1))

-- and what is kept of its setting and its operands is kept of it
pub kept_for : (s : TupleSearch) (asked : List Asked) (known : Option Untouched)
    → asked ≡ s.asked → IfSome known (λ k. k.asked.items ≡ asked)
    → IfSome known (IsKeptTruly s.setting.list s.setting.start s.setting.goal)
    → IsKeptTrulyFor s known
kept_for s asked None is same kept = tt
kept_for s asked (Some k) is same kept = (same ∙ is, kept)
