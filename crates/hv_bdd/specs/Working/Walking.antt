-- The walk of a state through a reduced ordered list.
use Rattle.std.proofs.Common.{◌≡◌, ℕ, zero, suc, ◌<◌, ◌≤◌, ◌+◌, ◌-◌, ◌∙◌, Bool, true, false, List}
use Rattle.std.proofs.Common.{eqb, ltb, length, set, refl, sym, ap, arith, inl, inr}
use Rattle.std.proofs.lemmas.Bool.{cases_lt, cond-false, cond-true, le-ltb, lt-ltb}
use Rattle.std.proofs.lemmas.List.{get_or-set_other, get_or-set_same}
use Rattle.std.proofs.lemmas.Option.{slice_get-get_or}
use Rattle.std.specs.List.{slice_get}
use Rattle.hv_task.specs.State.{has_atom}
use Rattle.hv_bdd.specs.Nodes.{NodeList, child_of, in_node, next_node, node_count, walk}
use Rattle.hv_bdd.specs.Order.{atom_at, place}
use Rattle.hv_bdd.specs.Reduced.{IsReduced, child, node_at, top}
use Rattle.hv_bdd.specs.Working.Ordered.{order_of}

-- the ends have the place past all atoms
pub top_end : (list : NodeList) (i : ℕ) → i < 2 → top list i ≡ list.atoms
top_end list i less =
    cond-true (ltb i 2) list.atoms (place list (node_at list i).atom) (lt-ltb i 2 less)

-- and the others that of their atoms
pub top_inner : (list : NodeList) (i : ℕ) → 2 ≤ i → top list i ≡ place list (node_at list i).atom
top_inner list i le =
    cond-false (ltb i 2) list.atoms (place list (node_at list i).atom) (le-ltb i 2 le)

module _ (list : NodeList) (reduced : IsReduced list) where
  pub child_less : (i : ℕ) (b : Bool) → 2 ≤ i → i < node_count list → child list i b < i
  child_less i true le within = reduced.high i le within
  child_less i false le within = reduced.low i le within

  pub child_later : (i : ℕ) (b : Bool) → 2 ≤ i → i < node_count list
      → top list i < top list (child list i b)
  child_later i true le within = reduced.high_later i le within
  child_later i false le within = reduced.low_later i le within

  pub top_less : (i : ℕ) → 2 ≤ i → i < node_count list → top list i < list.atoms
  top_less i le within =
      let e = top_inner list i le in
      let under = reduced.atom i le within in
      let less = (order_of list reduced).place_in (node_at list i).atom under in omega arith

  pub top_upto : (i : ℕ) → i < node_count list → top list i ≤ list.atoms
  top_upto i within =
      elim (cases_lt i 2) [
        | inl end ↦ let e = top_end list i end in omega arith
        | inr inner ↦ let less = top_less i inner within in omega arith
      ]

  -- the atom at the place of a node is the one for which it asks
  pub atom_at_top : (i : ℕ) → 2 ≤ i → i < node_count list
      → atom_at list (top list i) ≡ (node_at list i).atom
  atom_at_top i le within = ap (atom_at list) (top_inner list i le)
      ∙ (order_of list reduced).there (node_at list i).atom (reduced.atom i le within)

  module _ (s : List Bool) where
    next_end : (i : ℕ) → i < 2 → next_node list s i ≡ i
    next_end i less =
        cond-true (ltb i 2) i (child_of (slice_get list.nodes (i - 2)) s) (lt-ltb i 2 less)

    next_is : (i : ℕ) → 2 ≤ i → i < node_count list
        → next_node list s i ≡ child list i (has_atom s (node_at list i).atom)
    next_is i le within =
        cond-false (ltb i 2) i (child_of (slice_get list.nodes (i - 2)) s) (le-ltb i 2 le)
        ∙ ap (λ o. child_of o s)
        (slice_get-get_or list.nodes (i - 2) (record { atom = 0; low = 0; high = 0 })
        (omega arith))

    next_less : (i : ℕ) → 2 ≤ i → i < node_count list → next_node list s i < i
    next_less i le within =
        let e = next_is i le within in
        let less = child_less i (has_atom s (node_at list i).atom) le within in omega arith

    walk_end : (k i : ℕ) → i < 2 → walk list s k i ≡ i
    walk_end zero i less = refl
    walk_end (suc k) i less = ap (walk list s k) (next_end i less) ∙ walk_end k i less

    -- one step more than enough changes nothing
    walk_enough : (k i : ℕ) → i < 2 + k → i < node_count list
        → walk list s (suc k) i ≡ walk list s k i
    walk_enough zero i few within = next_end i (omega arith)
    walk_enough (suc k) i few within =
        elim (cases_lt i 2) [
          | inl end ↦ walk_end (suc (suc k)) i end ∙ sym (walk_end (suc k) i end)
          | inr inner ↦ let less = next_less i inner within in walk_enough k (next_node list s i)
              (omega arith) (omega arith)
        ]

    -- the ends are false and true
    pub in_end : (i : ℕ) → i < 2 → in_node list i s ≡ eqb i 1
    in_end i less = ap (λ n. eqb n 1) (walk_end (length list.nodes) i less)

    -- a node is what its child is
    pub in_inner : (i : ℕ) → 2 ≤ i → i < node_count list
        → in_node list i s ≡ in_node list (child list i (has_atom s (node_at list i).atom)) s
    in_inner i le within =
        ap (λ n. eqb n 1)
        (sym (walk_enough (length list.nodes) i (omega arith) within)
        ∙ ap (walk list s (length list.nodes)) (next_is i le within))

  -- a node asks for no atom of an earlier place
  free_by : (bound i v : ℕ) (b : Bool) (s : List Bool) → i < bound → i < node_count list
      → v < top list i
      → in_node list i (set s (atom_at list v) b) ≡ in_node list i s
  free_by zero i v b s few within less = absurd (omega arith)
  free_by (suc bound) i v b s few within less =
      elim (cases_lt i 2) [
        | inl end ↦ in_end (set s (atom_at list v) b) i end ∙ sym (in_end s i end)
        | inr inner ↦
            let upto = top_upto i within in
            let other : (node_at list i).atom ≡ atom_at list v → ⊥ = λ same.
            let e = ap (place list) same ∙ (order_of list reduced).back v (omega arith) in
            let f = top_inner list i inner in omega arith in
            let bit = get_or-set_other s (atom_at list v) (node_at list i).atom b false other in
            let below = child_less i (has_atom s (node_at list i).atom) inner within in
            let later = child_later i (has_atom s (node_at list i).atom) inner within in
            in_inner (set s (atom_at list v) b) i inner within
            ∙ (ap (λ x. in_node list (child list i x) (set s (atom_at list v) b)) bit
            ∙ (free_by bound (child list i (has_atom s (node_at list i).atom)) v b s (omega arith)
            (omega arith) (omega arith)
            ∙ sym (in_inner s i inner within)))
      ]

  pub free : (i v : ℕ) (b : Bool) (s : List Bool) → i < node_count list → v < top list i
      → in_node list i (set s (atom_at list v) b) ≡ in_node list i s
  free i v b s within less = free_by (suc i) i v b s (omega arith) within less

  -- with a bit written at its place a node is its child
  pub cofactor : (i : ℕ) (b : Bool) (s : List Bool) → 2 ≤ i → i < node_count list
      → length s ≡ list.atoms
      → in_node list i (set s (atom_at list (top list i)) b) ≡ in_node list (child list i b) s
  cofactor i b s le within size =
      let same = atom_at_top i le within in
      let below = child_less i b le within in
      let asked = reduced.atom i le within in
      let there : (node_at list i).atom < length s = omega arith in
      in_inner (set s (atom_at list (top list i)) b) i le within
      ∙ (ap (λ x. in_node list (child list i x) (set s (atom_at list (top list i)) b))
      (ap (λ a. has_atom (set s a b) (node_at list i).atom) same
      ∙ get_or-set_same s (node_at list i).atom b false there)
      ∙ free (child list i b) (top list i) b s (omega arith) (child_later i b le within))
