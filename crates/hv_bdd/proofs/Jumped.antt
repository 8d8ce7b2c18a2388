-- Jumps along the low children of nodes, and walks by them.
use Rattle.std.proofs.Common.{◌≡◌, ℕ, ◌<◌, ◌≤◌, ◌∙◌, Bool, true, false, List, length}
use Rattle.std.proofs.Common.{◌++◌, ◌∷◌, [], get_or, refl, sym, ap, subst, arith, inl, inr, eqb}
use Rattle.std.proofs.Common.{map}
use Rattle.std.proofs.lemmas.Bool.{cases_lt, false_from_ne_true}
use Rattle.std.proofs.Math.ListN.{get_or-append}
use Rattle.std.proofs.lemmas.List.{get_or_default, get_or_push, length_push}
use Rattle.std.proofs.lemmas.List.Elements.{All-map, All-weaker, Contains-get_or}
use Rattle.std.proofs.lemmas.List.Sorted.{All-permutation, IsNonDecreasingBy-from_sort}
use Rattle.std.proofs.lemmas.List.Sorted.{list_any-IsPermutation}
use Rattle.std.specs.List.{All}
use Rattle.std.specs.List.Sorted.{IsPermutation, IsSorted}
use Rattle.std.specs.Ordering.{nat_cmp}
use Rattle.hv_task.specs.State.{has_atom, names_atom, state_of}
use Rattle.hv_task.proofs.Places.{has_atom-state_of, names_atom-Decides}
use Rattle.hv_bdd.specs.Jumps.{AreJumps, HoldsNone, IsJump, PassesAlong, StandsAtNode}
use Rattle.hv_bdd.specs.Nodes.{NodeList, in_node, node_count}
use Rattle.hv_bdd.specs.Order.{IsOrder, atom_at, place}
use Rattle.hv_bdd.specs.Reduced.{IsReduced, child, top}
use Rattle.hv_bdd.specs.Working.Jumping.{HoldsAt, TurnsAt}
use Rattle.hv_bdd.specs.Working.Walking.{atom_at_top, child_later, child_less, in_end, in_inner}
use Rattle.hv_bdd.specs.Working.Walking.{top_end, top_less}
use Rattle.hv_bdd.proofs.Placed.{places_name}

module _ (list : NodeList) where
  -- a node is passed to itself
  pub passes_none : (node place : ℕ) → PassesAlong list node node place
  passes_none node place = record {
    upto = omega arith;
    later = omega arith;
    same = λ s none. refl;
  }

  -- one passage after the other
  pub passes_on : (a b c near far : ℕ) → near ≤ far → PassesAlong list a b near
      → PassesAlong list b c far → PassesAlong list a c far
  passes_on a b c near far le first second =
      let upto = first.upto in
      let more = second.upto in
      let later = first.later in
      let further = second.later in
      record {
        upto = omega arith;
        later = omega arith;
        same = λ s none.
            first.same s (λ v from less. none v from (omega arith))
            ∙ second.same s (λ v from less. none v (omega arith) less);
      }

  -- a jump from a node is there too
  pub jump_is : (node to place : ℕ) → IsJump list node to → top list to ≤ place
      → PassesAlong list node to place
  jump_is node to place jump le = passes_on node to to (top list to) place le jump.passes
      (passes_none to place)

  -- an end has no other
  pub jump_none : (node : ℕ) → node < 2 → IsJump list node node
  jump_none node end = record {
    passes = passes_none node (top list node);
    less = λ inner. absurd (omega arith);
  }

  -- the jump of the next node is put behind those that are there
  pub jumps_more : (jumps new : List ℕ) (jump : ℕ) → length jumps < node_count list
      → AreJumps list jumps → IsJump list (length jumps) jump → new ≡ jumps ++ jump ∷ []
      → AreJumps list new
  jumps_more jumps new jump within are one is =
      let size = ap length is ∙ length_push jumps jump in
      record {
        few = omega arith;
        each = λ i less. elim (cases_lt i (length jumps)) [
          | inl before ↦
              subst (IsJump list i)
              (sym (ap (λ xs. get_or xs i 0) is ∙ get_or-append jumps (jump ∷ []) 0 i before))
              (are.each i before)
          | inr behind ↦
              let last : length jumps ≡ i = omega arith in
              subst (λ k. IsJump list k (get_or new k 0)) last
              (subst (IsJump list (length jumps))
              (sym (ap (λ xs. get_or xs (length jumps) 0) is
              ∙ get_or_push jumps jump 0 (length jumps) refl)) one)
        ];
      }

  module _ (reduced : IsReduced list) where
    -- a state without the atom of a node goes to the low child
    pub passes_low : (node place : ℕ) → 2 ≤ node → node < node_count list → top list node < place
        → PassesAlong list node (child list node false) place
    passes_low node place inner within less =
        let below = child_less list reduced node false inner within in
        let later = child_later list reduced node false inner within in
        record {
          upto = omega arith;
          later = omega arith;
          same = λ s none.
              in_inner list reduced s node inner within
              ∙ ap (λ b. in_node list (child list node b) s)
              (ap (has_atom s) (sym (atom_at_top list reduced node inner within))
              ∙ none (top list node) (omega arith) less);
        }

    -- the jump to the low child
    pub jump_low : (node : ℕ) → 2 ≤ node → node < node_count list
        → IsJump list node (child list node false)
    jump_low node inner within =
        let below = child_less list reduced node false inner within in
        let later = child_later list reduced node false inner within in
        record {
          passes = passes_low node (top list (child list node false)) inner within later;
          less = λ _. below;
        }

    -- and over two jumps behind it
    pub jump_far : (node : ℕ) (jumps : List ℕ) → 2 ≤ node → node < node_count list
        → length jumps ≡ node → AreJumps list jumps
        → IsJump list node (get_or jumps (get_or jumps (child list node false) 0) 0)
    jump_far node jumps inner within size are =
        let low = child list node false in
        let below = child_less list reduced node false inner within in
        let later = child_later list reduced node false inner within in
        let first = are.each low (omega arith) in
        let next = get_or jumps low 0 in
        let upto = first.passes.upto in
        let second = are.each next (omega arith) in
        let last = get_or jumps next 0 in
        let more = second.passes.upto in
        let on = first.passes.later in
        let further = second.passes.later in
        record {
          passes = passes_on node low last (top list low) (top list last) (omega arith)
              (passes_low node (top list low) inner within later)
              (passes_on low next last (top list next) (top list last) further first.passes
              second.passes);
          less = λ _. omega arith;
        }

    -- a node before a place is no end
    pub inner_before : (node place : ℕ) → top list node < place → place ≤ list.atoms → 2 ≤ node
    inner_before node place less le = elim (cases_lt node 2) [
      | inl end ↦ let e = top_end list node end in absurd (omega arith)
      | inr inner ↦ inner
    ]

    -- and one past all places is one
    pub outer_past : (node : ℕ) → node < node_count list → list.atoms ≤ top list node → node < 2
    outer_past node within past = elim (cases_lt node 2) [
      | inl end ↦ end
      | inr inner ↦ let less = top_less list reduced node inner within in absurd (omega arith)
    ]

    -- the end of a walk
    pub ends : (node : ℕ) (s : List Bool) → node < node_count list → list.atoms ≤ top list node
        → in_node list node s ≡ eqb node 1
    ends node s within past = in_end list reduced s node (outer_past node within past)

    -- to a node that asks for a later atom
    pub turns_past : (node first place : ℕ) → PassesAlong list node first place
        → place < top list first → TurnsAt list node first place
    turns_past node first place passes less = record {
      upto = passes.upto;
      further = passes.later;
      later = less;
      same = λ s none held. passes.same s none;
    }

    -- or by the high child of the node that asks for the atom
    pub turns_high : (node first place : ℕ) → first < node_count list → place < list.atoms
        → PassesAlong list node first place → top list first ≡ place
        → TurnsAt list node (child list first true) place
    turns_high node first place within under passes at =
        let inner : 2 ≤ first = elim (cases_lt first 2) [
          | inl end ↦ let e = top_end list first end in absurd (omega arith)
          | inr inner ↦ inner
        ] in
        let below = child_less list reduced first true inner within in
        let later = child_later list reduced first true inner within in
        let upto = passes.upto in
        let on = passes.later in
        record {
          upto = omega arith;
          further = omega arith;
          later = omega arith;
          same = λ s none held.
              passes.same s none
              ∙ (in_inner list reduced s first inner within
              ∙ ap (λ b. in_node list (child list first b) s)
              (ap (has_atom s) (sym (atom_at_top list reduced first inner within)
              ∙ ap (atom_at list) at)
              ∙ held));
        }

  -- What a state holds, from a node on whose place is past those of its first so many atoms.
  module _ (s : List Bool) (places : List ℕ) (holds : HoldsAt list s places) (from i : ℕ)
      (past : (k : ℕ) → k < i → k < length places → get_or places k 0 < from) where
    nothing : (v to : ℕ) → from ≤ v → v < to → v < list.atoms
        → ((k : ℕ) → i ≤ k → k < length places → to ≤ get_or places k 0)
        → has_atom s (atom_at list v) ≡ false
    nothing v to upto less under later =
        false_from_ne_true (has_atom s (atom_at list v)) (λ held.
        let there = (names_atom-Decides places v).0 (holds.names v under ∙ held) in
        let k = there.0 in
        let within = there.1 in
        let at : get_or places k 0 ≡ v = sym (get_or_default places k v 0 within) ∙ there.2 in
        elim (cases_lt k i) [
          | inl before ↦ let gone = past k before within in absurd (omega arith)
          | inr behind ↦ let more = later k behind within in absurd (omega arith)
        ])

    -- none before the next of them
    pub none_to_next : i < length places → get_or places i 0 ≤ list.atoms
        → HoldsNone list s from (get_or places i 0)
    none_to_next within under = λ v upto less.
        nothing v (get_or places i 0) upto less (omega arith)
        (λ k behind in_k. holds.rises i k 0 behind in_k)

    -- and none at all behind the last one
    pub none_to_end : length places ≤ i → HoldsNone list s from list.atoms
    none_to_end all = λ v upto less.
        nothing v list.atoms upto less less (λ k behind in_k. absurd (omega arith))

  pub holds_next : (s : List Bool) (places : List ℕ) → HoldsAt list s places → (i : ℕ)
      → i < length places → get_or places i 0 < list.atoms
      → has_atom s (atom_at list (get_or places i 0)) ≡ true
  holds_next s places holds i within under =
      sym (holds.names (get_or places i 0) under)
      ∙ (names_atom-Decides places (get_or places i 0)).1 (Contains-get_or places i 0 within)

-- the same question about the node, with other jumps
pub at_node_same : (list : NodeList) (inside : Bool) (wanted new : List Bool → Bool)
    (node : ℕ) (old jumps : List ℕ) → ((s : List Bool) → new s ≡ wanted s)
    → StandsAtNode list inside wanted node old → AreJumps list jumps
    → StandsAtNode list inside new node jumps
at_node_same list inside wanted new node old jumps same at are = record {
  within = at.within;
  side = λ s want. at.side s (sym (same s) ∙ want);
  known = are;
}

-- The places of the atoms that are listed, sorted.
module _ (list : NodeList) (is : IsOrder list) (held places sorted : List ℕ)
    (below : All (λ a. a < list.atoms) held) (placed : places ≡ map (place list) held)
    (moved : IsPermutation places sorted) where
  pub sorted_below : All (λ v. v < list.atoms) sorted
  sorted_below = All-permutation (λ v. v < list.atoms) places sorted moved
      (subst (All (λ v. v < list.atoms)) (sym placed)
      (All-map (λ v. v < list.atoms) (place list) held
      (All-weaker (λ a. a < list.atoms) (λ a. place list a < list.atoms)
      (λ a less. is.place_in a less) held below)))

  pub sorted_held : IsSorted nat_cmp sorted → HoldsAt list (state_of list.atoms held) sorted
  sorted_held rises = record {
    rises = IsNonDecreasingBy-from_sort (λ v. v) sorted rises;
    names = λ v less.
        sym (list_any-IsPermutation (λ p. eqb p v) places sorted moved)
        ∙ (ap (λ ps. names_atom ps v) placed
        ∙ (places_name list is held below v less
        ∙ sym (has_atom-state_of list.atoms held (atom_at list v) (is.atom_in v less))));
  }
