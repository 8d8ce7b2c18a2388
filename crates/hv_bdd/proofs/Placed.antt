-- The flags of a state, each at the place of its atom.
use Rattle.std.proofs.Common.{◌≡◌, ℕ, ◌<◌, ◌≤◌, ◌+◌, ◌∙◌, Bool, true, false, List, [], ◌∷◌, Option}
use Rattle.std.proofs.Common.{None, Some, length, map, eqb, ◌||◌, refl, sym, ap, ap₂, arith, inl, inr}
use Rattle.std.proofs.Common.{get_or, subst, take}
use Rattle.std.proofs.lemmas.Bool.{cases_eq, cases_lt, eq-eqb, ne_eqb}
use Rattle.std.proofs.lemmas.Grind.{get_or_default_zero}
use Rattle.std.proofs.lemmas.List.{get_or_past}
use Rattle.std.proofs.lemmas.List.Elements.{All-contains, All-head, All-more, All-tail, All-weaker}
use Rattle.std.proofs.lemmas.List.Elements.{Contains-get_or}
use Rattle.std.specs.List.{All}
use Rattle.hv_task.specs.State.{has_atom, names_atom, state_of}
use Rattle.hv_task.proofs.Listing.{within_state}
use Rattle.hv_task.proofs.Places.{has_atom-state_of, has_atom_past, length-state_of}
use Rattle.hv_task.proofs.Places.{names_atom-Decides}
use Rattle.hv_bdd.specs.Nodes.{NodeList}
use Rattle.hv_bdd.specs.Order.{IsOrder, atom_at, atom_by, place}
use Rattle.hv_bdd.specs.Working.Search.{ArePlaced}

-- past the last place there is no atom
past_by : (order : Option (List ℕ)) (atoms v : ℕ)
    → ((o : List ℕ) → order ≡ Some o → length o ≡ atoms) → atoms ≤ v → atoms ≤ atom_by order v
past_by None atoms v size upto = upto
past_by (Some o) atoms v size upto =
    let n = size o refl in
    let e = get_or_past o v (length o) (omega arith) in
    omega arith

pub atom_past : (list : NodeList) → IsOrder list → (v : ℕ) → list.atoms ≤ v
    → list.atoms ≤ atom_at list v
unfolding atom_at
atom_past list is v upto = past_by list.order list.atoms v is.size upto

-- the place is that of the atom exactly where the atom is the one at the place
same_place : (list : NodeList) → IsOrder list → (a v : ℕ) → a < list.atoms → v < list.atoms
    → eqb (place list a) v ≡ eqb a (atom_at list v)
same_place list is a v within less =
    elim (cases_eq a (atom_at list v)) [
      | inl same ↦
          eq-eqb (place list a) v (ap (place list) same ∙ is.back v less)
          ∙ sym (eq-eqb a (atom_at list v) same)
      | inr other ↦
          ne_eqb (place list a) v
          (λ at. other (sym (is.there a within) ∙ ap (atom_at list) at))
          ∙ sym (ne_eqb a (atom_at list v) other)
    ]

-- so the places of atoms name the places at which these stand
pub places_name : (list : NodeList) → IsOrder list → (named : List ℕ)
    → All (λ a. a < list.atoms) named → (v : ℕ) → v < list.atoms
    → names_atom (map (place list) named) v ≡ names_atom named (atom_at list v)
places_name list is [] below v less = refl
places_name list is (a ∷ named) below v less =
    ap₂ (λ s t. s || t)
    (same_place list is a v (All-head (λ a. a < list.atoms) a named below) less)
    (places_name list is named (All-tail (λ a. a < list.atoms) a named below) v less)

-- The least of the places of the atoms that are held.

module _ (list : NodeList) (is : IsOrder list) (held : List Bool) (size : length held ≡ list.atoms)
    (named : List ℕ) (names : (a : ℕ) → names_atom named a ≡ has_atom held a) where
  -- an atom that is named is held
  listed_held : (i : ℕ) → i < length named → has_atom held (get_or named i 0) ≡ true
  listed_held i within =
      sym (names (get_or named i 0))
      ∙ (names_atom-Decides named (get_or named i 0)).1 (Contains-get_or named i 0 within)

  pub listed_less : (i : ℕ) → i < length named → get_or named i 0 < list.atoms
  listed_less i within =
      let less = within_state held (get_or named i 0) (listed_held i within) in omega arith

  listed_below : All (λ a. a < list.atoms) named
  listed_below = λ i d less.
      subst (λ a. a < list.atoms) (sym (get_or_default_zero named i d less)) (listed_less i less)

  -- the state of their places has their flags
  pub placed_state : ArePlaced list held (state_of list.atoms (map (place list) named))
  placed_state = record {
    size = length-state_of list.atoms (map (place list) named);
    has = λ v. elim (cases_lt v list.atoms) [
      | inl less ↦
          has_atom-state_of list.atoms (map (place list) named) v less
          ∙ places_name list is named listed_below v less
          ∙ names (atom_at list v)
      | inr past ↦
          let beyond = atom_past list is v past in
          let few = length-state_of list.atoms (map (place list) named) in
          has_atom_past (state_of list.atoms (map (place list) named)) v (omega arith)
          ∙ sym (get_or_past held (atom_at list v) false (omega arith))
    ];
  }

  pub placed_held : (i : ℕ) → i < length named
      → has_atom held (atom_at list (place list (get_or named i 0))) ≡ true
  placed_held i within =
      ap (λ a. has_atom held a) (is.there (get_or named i 0) (listed_less i within))
      ∙ listed_held i within

  module _ (from least : ℕ) (each : All (λ a. from ≤ place list a → least ≤ place list a) named)
    where
      held_from : (v : ℕ) → from ≤ v → has_atom held (atom_at list v) ≡ true → least ≤ v
      held_from v upto t =
          let a = atom_at list v in
          let less = within_state held a t in
          let there = (names_atom-Decides named a).0 (names a ∙ t) in
          let least_upto = All-contains (λ a. from ≤ place list a → least ≤ place list a) named a
          each there in
          elim (cases_lt v list.atoms) [
            | inl below ↦
                let back = is.back v below in
                let more = least_upto (omega arith) in
                omega arith
            | inr past ↦ let beyond = atom_past list is v past in absurd (omega arith)
          ]

      none_by : (v : ℕ) (t : Bool) → has_atom held (atom_at list v) ≡ t → from ≤ v → v < least
          → has_atom held (atom_at list v) ≡ false
      none_by v true e upto less = let more = held_from v upto e in absurd (omega arith)
      none_by v false e upto less = e

      -- none is before it
      pub none_before : (v : ℕ) → from ≤ v → v < least → has_atom held (atom_at list v) ≡ false
      none_before v upto less = none_by v (has_atom held (atom_at list v)) refl upto less

      -- and none at all where it is past the last place
      pub none_placed : list.atoms ≤ least → (v : ℕ) → from ≤ v
          → has_atom held (atom_at list v) ≡ false
      none_placed all v upto =
          elim (cases_lt v least) [
            | inl less ↦ none_before v upto less
            | inr more ↦
                let past = atom_past list is v (omega arith) in
                get_or_past held (atom_at list v) false (omega arith)
          ]

-- the place of one more atom was seen
pub each_more : (list : NodeList) (named : List ℕ) (from least new i : ℕ) → i < length named
    → new ≤ least
    → (from ≤ place list (get_or named i 0) → new ≤ place list (get_or named i 0))
    → All (λ a. from ≤ place list a → least ≤ place list a) (take i named)
    → All (λ a. from ≤ place list a → new ≤ place list a) (take (i + 1) named)
each_more list named from least new i within less here each =
    All-more (λ a. from ≤ place list a → new ≤ place list a) named i 0 within
    (All-weaker (λ a. from ≤ place list a → least ≤ place list a)
    (λ a. from ≤ place list a → new ≤ place list a)
    (λ a upto later. let old = upto later in omega arith) (take i named) each) here
