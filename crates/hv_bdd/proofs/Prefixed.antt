-- What a reduced ordered list says of its first nodes: the next one has no fault, and all numbers
-- are short.
use Rattle.std.proofs.Common.{◌≡◌, ℕ, zero, suc, ◌<◌, ◌≤◌, ◌+◌, ◌-◌, ◌^◌, ◌∙◌, ◌&&◌, Bool, true}
use Rattle.std.proofs.Common.{false, List, ◌∷◌, ◌++◌, Option, None, Some, cond, eqb, get_or, ltb}
use Rattle.std.proofs.Common.{length, refl, sym, ap, arith, inl, inr, subst}
use Rattle.std.proofs.lemmas.Bool.{and_from, and_parts, cases_lt, eqb-true, lt-ltb, ne_eqb}
use Rattle.std.proofs.lemmas.List.{get_or_append_left, get_or_at, get_or_default, length-append}
use Rattle.std.proofs.lemmas.List.Folds.{Any-from_list_any}
use Rattle.std.specs.List.{All, list_any}
use Rattle.hv_bdd.specs.declared.fault.NodeKind.TheVariants as N
use Rattle.hv_bdd.specs.declared.node.Node.{Node}
use Rattle.hv_bdd.specs.Building.{fault_of, is_later, or_twin, same_node}
use Rattle.hv_bdd.specs.Working.NodeText.{list_over}
use Rattle.hv_bdd.specs.Nodes.{NodeList, node_count}
use Rattle.hv_bdd.specs.Order.{place}
use Rattle.hv_bdd.specs.Reduced.{IsReduced, node_at, top}
use Rattle.hv_bdd.specs.Working.Ordered.{same_place as place_alike}
use Rattle.hv_bdd.specs.Working.Walking.{top_inner}
use Rattle.hv_bdd.proofs.Built.{Passes}
use Rattle.hv_bdd.proofs.Tripled.{same_node as node_by_parts}

-- a node that passes the tests has no fault
pub none_from : (list : NodeList) (node : Node) → Passes list node → fault_of list node ≡ None
none_from list node good =
    ap (λ a. or_twin list node
    (cond a
    (cond (ltb node.low (node_count list) && ltb node.high (node_count list))
    (cond (is_later list node.atom node.low && is_later list node.atom node.high)
    (cond (eqb node.low node.high) (Some N.SameChildren) None)
    (Some N.Order))
    (Some N.Child))
    (Some N.Atom))) (lt-ltb node.atom list.atoms good.atom)
    ∙ (ap (λ c. or_twin list node
    (cond c
    (cond (is_later list node.atom node.low && is_later list node.atom node.high)
    (cond (eqb node.low node.high) (Some N.SameChildren) None)
    (Some N.Order))
    (Some N.Child)))
    (and_from (ltb node.low (node_count list)) (ltb node.high (node_count list))
    (lt-ltb node.low (node_count list) good.low)
    (lt-ltb node.high (node_count list) good.high))
    ∙ (ap (λ l.
    or_twin list node
    (cond l (cond (eqb node.low node.high) (Some N.SameChildren) None) (Some N.Order)))
    (and_from (is_later list node.atom node.low) (is_later list node.atom node.high)
    (lt-ltb (place list node.atom) (top list node.low) good.low_later)
    (lt-ltb (place list node.atom) (top list node.high) good.high_later))
    ∙ (ap (λ s. or_twin list node (cond s (Some N.SameChildren) None))
    (ne_eqb node.low node.high good.apart)
    ∙ ap (λ t. cond t (Some N.Twin) None) good.new)))

module _ (atoms : ℕ) (order : Option (List ℕ)) (nodes more : List Node) (n : Node) where
  abbrev short : NodeList
  short = list_over atoms order nodes

  abbrev long : NodeList
  long = list_over atoms order (nodes ++ n ∷ more)

  size : length (nodes ++ n ∷ more) ≡ length nodes + suc (length more)
  size = length-append nodes (n ∷ more)

  old : (i : ℕ) → 2 ≤ i → i < node_count short → node_at long i ≡ node_at short i
  old i le within = get_or_append_left nodes (n ∷ more) (record { atom = 0; low = 0; high = 0 })
      (i - 2) (omega arith)

  this : node_at long (node_count short) ≡ n
  this = get_or_at nodes n more (record { atom = 0; low = 0; high = 0 }) (node_count short - 2)
      (omega arith)

  same_place : (a : ℕ) → place long a ≡ place short a
  same_place a = place_alike atoms order nodes (nodes ++ n ∷ more) a

  old_top : (i : ℕ) → i < node_count short → top long i ≡ top short i
  old_top i within =
      elim (cases_lt i 2) [
        | inl end ↦ ends i end
        | inr inner ↦
            top_inner long i inner
            ∙ (ap (λ (m : Node). place long m.atom) (old i inner within)
            ∙ (same_place (node_at short i).atom ∙ sym (top_inner short i inner)))
      ]
    where
      ends : (i : ℕ) → i < 2 → top long i ≡ top short i
      ends zero less = refl
      ends (suc zero) less = refl
      ends (suc (suc i)) less = absurd (omega arith)

  this_top : top long (node_count short) ≡ place short n.atom
  this_top =
      top_inner long (node_count short) (omega arith)
      ∙ (ap (λ (m : Node). place long m.atom) this ∙ same_place n.atom)

  module _ (reduced : IsReduced long) where
    within : node_count short < node_count long
    within = let s = size in omega arith

    no_twin : (t : Bool) → list_any (same_node n) nodes ≡ t → t ≡ false
    no_twin false e = refl
    no_twin true e =
        let found = Any-from_list_any (same_node n) nodes e in
        let d : Node = record { atom = 0; low = 0; high = 0 } in
        let k = found.0 in
        let x = found.1 in
        let less : k < length nodes = found.2 in
        let s = size in
        let atom = and_parts (eqb n.atom x.atom) (eqb n.low x.low && eqb n.high x.high) found.4 in
        let children = and_parts (eqb n.low x.low) (eqb n.high x.high) atom.1 in
        let same : n ≡ x =
        node_by_parts n x (eqb-true n.atom x.atom atom.0) (eqb-true n.low x.low children.0)
        (eqb-true n.high x.high children.1) in
        let there : node_at short (k + 2) ≡ x =
        ap (λ j. get_or nodes j d) (let f : (k + 2) - 2 ≡ k = omega arith in f)
        ∙ (get_or_default nodes k d x less ∙ found.3) in
        let e2 = reduced.twinless (k + 2) (node_count short) (omega arith) (omega arith)
        (omega arith) within
        (old (k + 2) (omega arith) (omega arith) ∙ (there ∙ (sym same ∙ sym this))) in
        absurd (omega arith)

    -- the node behind the first ones has no fault
    pub next_good : fault_of short n ≡ None
    next_good =
        let i = node_count short in
        let s = size in
        let inner : 2 ≤ i = omega arith in
        let low : n.low < i = subst (λ (m : Node). m.low < i) this (reduced.low i inner within) in
        let high : n.high
        < i = subst (λ (m : Node). m.high < i) this (reduced.high i inner within) in
        let low_later : top long i
        < top long n.low = subst (λ (m : Node). top long i < top long m.low) this
        (reduced.low_later i inner within) in
        let high_later : top long i
        < top long n.high = subst (λ (m : Node). top long i < top long m.high) this
        (reduced.high_later i inner within) in
        let here = this_top in
        let below_low = old_top n.low low in
        let below_high = old_top n.high high in
        none_from short n record {
          atom = subst (λ (m : Node). m.atom < atoms) this (reduced.atom i inner within);
          low = low;
          high = high;
          low_later = omega arith;
          high_later = omega arith;
          apart = subst (λ (m : Node). m.low ≡ m.high → ⊥) this (reduced.apart i inner within);
          new = no_twin (list_any (same_node n) nodes) refl;
        }

-- the numbers of a node are short
pub record IsShort (node : Node) : Type 0 where
  pub atom : node.atom < 10 ^ 18
  pub low : node.low < 10 ^ 18
  pub high : node.high < 10 ^ 18

pub are_short : (atoms : ℕ) (order : Option (List ℕ)) (nodes : List Node) → atoms < 10 ^ 18
    → IsReduced (list_over atoms order nodes) → All IsShort nodes
are_short atoms order nodes few reduced = λ k d less.
    let i = k + 2 in
    let e : node_at (list_over atoms order nodes) i ≡ get_or nodes k d =
    ap (λ j. get_or nodes j (record { atom = 0; low = 0; high = 0 }))
    (let f : (k + 2) - 2 ≡ k = omega arith in f)
    ∙ get_or_default nodes k (record { atom = 0; low = 0; high = 0 }) d less in
    let most = reduced.few in
    let atom = reduced.atom i (omega arith) (omega arith) in
    let low = reduced.low i (omega arith) (omega arith) in
    let high = reduced.high i (omega arith) (omega arith) in
    subst IsShort e record { atom = omega arith; low = omega arith; high = omega arith }
