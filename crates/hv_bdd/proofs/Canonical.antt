-- In a reduced ordered list different nodes are different sets (Bryant, 1986).
use Rattle.std.proofs.Common.{◌≡◌, ℕ, zero, suc, ◌<◌, ◌≤◌, ◌+◌, ◌∙◌, ◌↔◌, Bool, true, false, List}
use Rattle.std.proofs.Common.{IsTrue, eqb, length, replicate, set, sym, ap, arith, inl, inr}
use Rattle.std.proofs.lemmas.Bool.{cases_lt, cases_order, eq-eqb, eqb-true}
use Rattle.std.proofs.lemmas.List.{length-replicate, length-set}
use Rattle.hv_task.proofs.Flags.{bit_from_flag}
use Rattle.hv_bdd.specs.Nodes.{NodeList, in_node, node_count}
use Rattle.hv_bdd.specs.Order.{atom_at}
use Rattle.hv_bdd.specs.Reduced.{AreOneSet, IsReduced, child, node_at, top}
use Rattle.hv_bdd.specs.Working.Walking.{atom_at_top, child_less, cofactor, free, in_end, top_end}
use Rattle.hv_bdd.specs.Working.Walking.{top_less}

module _ (list : NodeList) (reduced : IsReduced list) where
  one_back : (i j : ℕ) → AreOneSet list i j → AreOneSet list j i
  one_back i j one s size = sym (one s size)

  -- a bit at the place of a node, written into both sides
  sized : (s : List Bool) (a : ℕ) (b : Bool) → length s ≡ list.atoms
      → length (set s a b) ≡ list.atoms
  sized s a b size = length-set s a b ∙ size

  child_other : (i j : ℕ) (b : Bool) → 2 ≤ i → i < node_count list → j < node_count list
      → top list i < top list j
      → AreOneSet list i j → AreOneSet list (child list i b) j
  child_other i j b le in_i in_j less one s size =
      sym (cofactor list reduced i b s le in_i size)
      ∙ (one (set s (atom_at list (top list i)) b) (sized s (atom_at list (top list i)) b size)
      ∙ free list reduced j (top list i) b s in_j less)

  child_child : (i j : ℕ) (b : Bool) → 2 ≤ i → 2 ≤ j → i < node_count list → j < node_count list
      → top list i ≡ top list j
      → AreOneSet list i j → AreOneSet list (child list i b) (child list j b)
  child_child i j b le_i le_j in_i in_j same one s size =
      sym (cofactor list reduced i b s le_i in_i size)
      ∙ (one (set s (atom_at list (top list i)) b) (sized s (atom_at list (top list i)) b size)
      ∙ (ap (λ v. in_node list j (set s (atom_at list v) b)) same
      ∙ cofactor list reduced j b s le_j in_j size))

  -- so nodes with different places differ, if lesser nodes do
  apart_by : (i j : ℕ) → ((l r : ℕ) → l + r < i + j → l < node_count list → r < node_count list
      → AreOneSet list l r → l ≡ r)
      → 2 ≤ i → i < node_count list → j < node_count list → top list i < top list j
      → AreOneSet list i j → ⊥
  apart_by i j lesser le in_i in_j less one =
      let low = child_less list reduced i false le in_i in
      let high = child_less list reduced i true le in_i in
      let e = lesser (child list i false) j (omega arith) (omega arith) in_j
      (child_other i j false le in_i in_j less one) in
      let f = lesser (child list i true) j (omega arith) (omega arith) in_j
      (child_other i j true le in_i in_j less one) in
      reduced.apart i le in_i (e ∙ sym f)

  twins_by : (i j : ℕ) → ((l r : ℕ) → l + r < i + j → l < node_count list → r < node_count list
      → AreOneSet list l r → l ≡ r)
      → 2 ≤ i → 2 ≤ j → i < node_count list → j < node_count list → top list i ≡ top list j
      → AreOneSet list i j → i ≡ j
  twins_by i j lesser le_i le_j in_i in_j same one =
      let low_i = child_less list reduced i false le_i in_i in
      let high_i = child_less list reduced i true le_i in_i in
      let low_j = child_less list reduced j false le_j in_j in
      let high_j = child_less list reduced j true le_j in_j in
      let e = lesser (child list i false) (child list j false) (omega arith) (omega arith)
      (omega arith) (child_child i j false le_i le_j in_i in_j same one) in
      let f = lesser (child list i true) (child list j true) (omega arith) (omega arith)
      (omega arith) (child_child i j true le_i le_j in_i in_j same one) in
      let a : (node_at list i).atom ≡ (node_at list j).atom =
      sym (atom_at_top list reduced i le_i in_i)
      ∙ (ap (atom_at list) same ∙ atom_at_top list reduced j le_j in_j) in
      reduced.twinless i j le_i in_i le_j in_j (λ k. record { atom = a k; low = e k; high = f k })

  one_by : (bound i j : ℕ) → i + j < bound → i < node_count list → j < node_count list
      → AreOneSet list i j → i ≡ j
  one_by zero i j few in_i in_j one = absurd (omega arith)
  one_by (suc bound) i j few in_i in_j one =
      elim (cases_lt i 2) [
        | inl end_i ↦
            elim (cases_lt j 2) [
              | inl end_j ↦
                  let s = replicate list.atoms false in
                  bit_from_flag i j end_i end_j
                  (sym (in_end list reduced s i end_i)
                  ∙ (one s (length-replicate list.atoms false) ∙ in_end list reduced s j end_j))
              | inr inner_j ↦
                  let e = top_end list i end_i in
                  let less = top_less list reduced j inner_j in_j in
                  absurd (apart_by j i (λ l r fewer. one_by bound l r (omega arith)) inner_j in_j
                  in_i (omega arith) (one_back i j one))
            ]
        | inr inner_i ↦
            elim (cases_lt j 2) [
              | inl end_j ↦
                  let e = top_end list j end_j in
                  let less = top_less list reduced i inner_i in_i in
                  absurd (apart_by i j (λ l r fewer. one_by bound l r (omega arith)) inner_i in_i
                  in_j (omega arith) one)
              | inr inner_j ↦
                  elim (cases_order (top list i) (top list j)) [
                    | inl same ↦ twins_by i j (λ l r fewer. one_by bound l r (omega arith)) inner_i
                        inner_j in_i in_j same one
                    | inr (inl less) ↦ absurd (apart_by i j
                        (λ l r fewer. one_by bound l r (omega arith)) inner_i in_i in_j less one)
                    | inr (inr more) ↦
                        absurd (apart_by j i (λ l r fewer. one_by bound l r (omega arith)) inner_j
                        in_j in_i more (one_back i j one))
                  ]
            ]
      ]

  pub one_set_one_node : (i j : ℕ) → i < node_count list → j < node_count list → AreOneSet list i j
      → i ≡ j
  one_set_one_node i j in_i in_j one = one_by (suc (i + j)) i j (omega arith) in_i in_j one

  -- a test of the numbers tells whether two nodes are one set
  pub same_is : (i j : ℕ) → i < node_count list → j < node_count list
      → IsTrue (eqb i j) ↔ AreOneSet list i j
  same_is i j in_i in_j = (
    λ e s size. ap (λ n. in_node list n s) (eqb-true i j e),
    λ one. eq-eqb i j (one_set_one_node i j in_i in_j one),
  )
