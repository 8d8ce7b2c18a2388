-- A reduced ordered list stays one with a further node that has no fault.
use Rattle.std.proofs.Common.{◌≡◌, ℕ, zero, suc, ◌<◌, ◌≤◌, ◌+◌, ◌-◌, ◌∙◌, ◌&&◌, Bool, true, false}
use Rattle.std.proofs.Common.{List, [], ◌∷◌, ◌++◌, Option, None, Some, ap, arith, cond, eqb}
use Rattle.std.proofs.Common.{inl, inr, length, ltb, refl, subst, sym}
use Rattle.std.proofs.lemmas.Bool.{and_from, and_parts, cases_lt, eq-eqb, eqb-false, ltb-true}
use Rattle.std.proofs.lemmas.List.{get_or_append_left, get_or_at, length-append}
use Rattle.std.proofs.lemmas.List.Folds.{list_any_at}
use Rattle.std.specs.List.{list_any}
use Rattle.hv_bdd.specs.declared.node.Node.{Node}
use Rattle.hv_bdd.specs.declared.fault.NodeKind.{NodeKind}
use Rattle.hv_bdd.specs.declared.fault.NodeKind.TheVariants as N
use Rattle.hv_bdd.specs.Building.{fault_of, is_later, or_twin, same_node}
use Rattle.hv_bdd.specs.Working.Building.{with_node}
use Rattle.hv_bdd.specs.Working.NodeText.{list_over}
use Rattle.hv_bdd.specs.Nodes.{NodeList, node_count}
use Rattle.hv_bdd.specs.Order.{IsOrder, place}
use Rattle.hv_bdd.specs.Reduced.{IsReduced, node_at, top}
use Rattle.hv_bdd.specs.Working.Ordered.{rising_order, same_order, same_place as place_alike}
use Rattle.hv_bdd.specs.Working.Walking.{top_inner}

-- what a node without faults passes
pub record Passes (list : NodeList) (node : Node) : Type 0 where
  pub atom : node.atom < list.atoms
  pub low : node.low < node_count list
  pub high : node.high < node_count list
  pub low_later : place list node.atom < top list node.low
  pub high_later : place list node.atom < top list node.high
  pub apart : node.low ≡ node.high → ⊥
  pub new : list_any (same_node node) list.nodes ≡ false

none_some : (f : NodeKind) → ◌≡◌ {A = Option NodeKind} (Some f) None → ⊥
none_some f e = absurd cc

module _ (list : NodeList) (node : Node) where
  passes : (a c l s t : Bool) → ltb node.atom list.atoms ≡ a
      → (ltb node.low (node_count list) && ltb node.high (node_count list)) ≡ c
      → (is_later list node.atom node.low && is_later list node.atom node.high) ≡ l
      → eqb node.low node.high ≡ s → list_any (same_node node) list.nodes ≡ t
      → or_twin list node (cond a (cond c (cond l (cond s (Some N.SameChildren) None)
      (Some N.Order)) (Some N.Child)) (Some N.Atom)) ≡ None → Passes list node
  passes true true true false false ea ec el es et none =
      let listed = and_parts (ltb node.low (node_count list)) (ltb node.high (node_count list))
      ec in
      let later = and_parts (is_later list node.atom node.low) (is_later list node.atom node.high)
      el in
      record {
        atom = ltb-true node.atom list.atoms ea;
        low = ltb-true node.low (node_count list) listed.0;
        high = ltb-true node.high (node_count list) listed.1;
        low_later = ltb-true (place list node.atom) (top list node.low) later.0;
        high_later = ltb-true (place list node.atom) (top list node.high) later.1;
        apart = eqb-false node.low node.high es;
        new = et;
      }
  passes true true true false true ea ec el es et none =
      absurd (none_some N.Twin (sym (ap (λ b. cond b (Some N.Twin) None) et) ∙ none))
  passes true true true true t ea ec el es et none = absurd (none_some N.SameChildren none)
  passes true true false s t ea ec el es et none = absurd (none_some N.Order none)
  passes true false l s t ea ec el es et none = absurd (none_some N.Child none)
  passes false c l s t ea ec el es et none = absurd (none_some N.Atom none)

  pub passes_from : fault_of list node ≡ None → Passes list node
  passes_from none =
      passes (ltb node.atom list.atoms) (ltb node.low (node_count list)
      && ltb node.high (node_count list))
      (is_later list node.atom node.low && is_later list node.atom node.high)
      (eqb node.low node.high) (list_any (same_node node) list.nodes)
      refl refl refl refl refl none

  module _ (reduced : IsReduced list) (good : Passes list node) (few : length list.nodes < 16777216)
    where
      size : length (list.nodes ++ node ∷ []) ≡ length list.nodes + 1
      size = length-append list.nodes (node ∷ [])

      old : (i : ℕ) → 2 ≤ i → i < node_count list → node_at (with_node list node) i ≡ node_at list i
      old i le within = get_or_append_left list.nodes (node ∷ [])
          (record { atom = 0; low = 0; high = 0 }) (i - 2) (omega arith)

      last : (i : ℕ) → i ≡ node_count list → node_at (with_node list node) i ≡ node
      last i e =
          get_or_at list.nodes node [] (record { atom = 0; low = 0; high = 0 }) (i - 2)
          (let f : length list.nodes ≡ i - 2 = omega arith in f)

      same_place : (a : ℕ) → place (with_node list node) a ≡ place list a
      same_place a = place_alike list.atoms list.order list.nodes (list.nodes ++ node ∷ []) a

      old_top : (i : ℕ) → i < node_count list → top (with_node list node) i ≡ top list i
      old_top i within =
          elim (cases_lt i 2) [
            | inl end ↦ ends i end
            | inr inner ↦
                top_inner (with_node list node) i inner
                ∙ (ap (λ (n : Node). place (with_node list node) n.atom) (old i inner within)
                ∙ (same_place (node_at list i).atom ∙ sym (top_inner list i inner)))
          ]
        where
          ends : (i : ℕ) → i < 2 → top (with_node list node) i ≡ top list i
          ends zero less = refl
          ends (suc zero) less = refl
          ends (suc (suc i)) less = absurd (omega arith)

      last_top : (i : ℕ) → i ≡ node_count list → top (with_node list node) i ≡ place list node.atom
      last_top i e =
          top_inner (with_node list node) i (omega arith)
          ∙ (ap (λ (n : Node). place (with_node list node) n.atom) (last i e)
          ∙ same_place node.atom)

      -- an old node or the new one
      either : (P : ℕ → Type 0) → ((i : ℕ) → 2 ≤ i → i < node_count list → P i)
          → ((i : ℕ) → i ≡ node_count list → P i)
          → (i : ℕ) → 2 ≤ i → i < node_count (with_node list node) → P i
      either P before end i le within =
          let n = size in
          elim (cases_lt i (node_count list)) [
            | inl less ↦ before i le less
            | inr upto ↦ end i
                (omega arith)
          ]

      new_apart : (j : ℕ) → 2 ≤ j → j < node_count list → node_at list j ≡ node → ⊥
      new_apart j le within same =
          let d : Node = record { atom = 0; low = 0; high = 0 } in
          let test : same_node node (node_at list j) ≡ true =
          subst (λ n. same_node node n ≡ true) (sym same)
          (and_from (eqb node.atom node.atom) (eqb node.low node.low && eqb node.high node.high)
          (eq-eqb node.atom node.atom refl)
          (and_from (eqb node.low node.low) (eqb node.high node.high)
          (eq-eqb node.low node.low refl)
          (eq-eqb node.high node.high refl))) in
          let found = list_any_at (same_node node) list.nodes (j - 2) d (omega arith) test in
          let clash : true ≡ false = sym found ∙ good.new in absurd cc

      pub reduced_more : IsReduced (with_node list node)
      reduced_more =
          let n = size in
          record {
            ordered = same_order list.atoms list.order list.nodes (list.nodes ++ node ∷ [])
                reduced.ordered;
            atom = either (λ i. (node_at (with_node list node) i).atom < list.atoms)
                (λ i le less. subst (λ (m : Node). m.atom < list.atoms) (sym (old i le less))
                (reduced.atom i le less))
                (λ i e. subst (λ (m : Node). m.atom < list.atoms) (sym (last i e)) good.atom);
            low = either (λ i. (node_at (with_node list node) i).low < i)
                (λ i le less. subst (λ (m : Node). m.low < i) (sym (old i le less))
                (reduced.low i le less))
                (λ i e. subst (λ (m : Node). m.low < i) (sym (last i e))
                (let l = good.low in omega arith));
            high = either (λ i. (node_at (with_node list node) i).high < i)
                (λ i le less. subst (λ (m : Node). m.high < i) (sym (old i le less))
                (reduced.high i le less))
                (λ i e. subst (λ (m : Node). m.high < i) (sym (last i e))
                (let h = good.high in omega arith));
            low_later = either (λ i. top (with_node list node) i
                < top (with_node list node) (node_at (with_node list node) i).low)
                (λ i le less.
                let below = reduced.low i le less in
                subst (λ (m : Node). top (with_node list node) i < top (with_node list node) m.low)
                (sym (old i le less))
                (let a = old_top i less in let b = old_top (node_at list i).low (omega arith) in
                let c = reduced.low_later i le less in omega arith))
                (λ i e. subst (λ (m : Node). top (with_node list node) i
                < top (with_node list node) m.low) (sym (last i e))
                (let a = last_top i e in let b = old_top node.low good.low in
                let c = good.low_later in omega arith));
            high_later = either (λ i. top (with_node list node) i
                < top (with_node list node) (node_at (with_node list node) i).high)
                (λ i le less.
                let below = reduced.high i le less in
                subst (λ (m : Node). top (with_node list node) i < top (with_node list node) m.high)
                (sym (old i le less))
                (let a = old_top i less in let b = old_top (node_at list i).high (omega arith) in
                let c = reduced.high_later i le less in omega arith))
                (λ i e. subst (λ (m : Node). top (with_node list node) i
                < top (with_node list node) m.high) (sym (last i e))
                (let a = last_top i e in let b = old_top node.high good.high in
                let c = good.high_later in omega arith));
            apart = either (λ i. (node_at (with_node list node) i).low
                ≡ (node_at (with_node list node) i).high → ⊥)
                (λ i le less. subst (λ (m : Node). m.low ≡ m.high → ⊥) (sym (old i le less))
                (reduced.apart i le less))
                (λ i e. subst (λ (m : Node). m.low ≡ m.high → ⊥) (sym (last i e)) good.apart);
            twinless = λ i j le_i in_i le_j in_j same.
                elim (cases_lt i (node_count list)) [
                  | inl less_i ↦
                      elim (cases_lt j (node_count list)) [
                        | inl less_j ↦ reduced.twinless i j le_i less_i le_j less_j
                            (sym (old i le_i less_i) ∙ (same ∙ old j le_j less_j))
                        | inr upto_j ↦ absurd (new_apart i le_i less_i
                            (sym (old i le_i less_i) ∙ (same ∙ last j (omega arith))))
                      ]
                  | inr upto_i ↦
                      elim (cases_lt j (node_count list)) [
                        | inl less_j ↦ absurd (new_apart j le_j less_j
                            (sym (old j le_j less_j) ∙ (sym same ∙ last i (omega arith))))
                        | inr upto_j ↦ omega arith
                      ]
                ];
            few = omega arith;
          }

-- a list without nodes is reduced, whatever its order
pub bare_reduced : (atoms : ℕ) (order : Option (List ℕ)) → IsOrder (list_over atoms order [])
    → IsReduced (list_over atoms order [])
bare_reduced atoms order is = record {
  ordered = is;
  atom = λ i le less. absurd (omega arith);
  low = λ i le less. absurd (omega arith);
  high = λ i le less. absurd (omega arith);
  low_later = λ i le less. absurd (omega arith);
  high_later = λ i le less. absurd (omega arith);
  apart = λ i le less e. absurd (omega arith);
  twinless = λ i j le less le2 less2 e. absurd (omega arith);
  few = omega arith;
}

-- and where its atoms rise
pub none_reduced : (atoms : ℕ) → IsReduced (list_over atoms None [])
none_reduced atoms = bare_reduced atoms None (rising_order atoms [])
