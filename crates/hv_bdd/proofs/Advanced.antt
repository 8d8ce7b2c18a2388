-- Fronts of nodes that are moved down.
use Rattle.std.proofs.Common.{◌≡◌, ℕ, zero, suc, ◌<◌, ◌≤◌, ◌+◌, ◌-◌, ◌∙◌, ◌++◌, ◌⊎◌, Bool}
use Rattle.std.proofs.Common.{true, false, List, [], ◌∷◌, cond, length, get_or, refl, sym, ap}
use Rattle.std.proofs.Common.{arith, inl, inr, subst, not}
use Rattle.std.proofs.lemmas.Bool.{cases_lt}
use Rattle.std.proofs.lemmas.List.{append-nil, append_assoc, get_or-append_right}
use Rattle.std.proofs.lemmas.List.{get_or_append_left, get_or_default, length-append}
use Rattle.std.proofs.lemmas.List.Elements.{Contains-append_left, Contains-append_right}
use Rattle.std.proofs.lemmas.List.Elements.{Contains-push}
use Rattle.std.specs.List.{Contains}
use Rattle.hv_task.specs.State.{has_atom}
use Rattle.hv_sets.specs.declared.literal.Literal.{Literal}
use Rattle.hv_sets.specs.Truth.{in_literal}
use Rattle.hv_bdd.specs.Nodes.{NodeList, in_node, node_count}
use Rattle.hv_bdd.specs.Reduced.{IsReduced, child, node_at}
use Rattle.hv_bdd.specs.Fronts.{AreBelowBound}
use Rattle.hv_bdd.specs.Working.Fronts.{IsContinued, IsAhead, IsPending, Turns, MovesTo}
use Rattle.hv_bdd.specs.Working.Walking.{child_less, in_end, in_inner}

-- the place of a member
at_place : (xs : List ℕ) (x : ℕ) → Contains xs x → (k : ℕ) × (k < length xs) × (get_or xs k 0 ≡ x)
at_place xs x (k, within, same) = (k, within, get_or_default xs k 0 x within ∙ same)

from_place : (xs : List ℕ) (x k : ℕ) → k < length xs → get_or xs k 0 ≡ x → Contains xs x
from_place xs x k within same = (k, within, get_or_default xs k x 0 within ∙ same)

pub extends_more : (a b c : List ℕ) → IsContinued a b → IsContinued b c → IsContinued a c
extends_more a b c e f =
    (e.0 ++ f.0, f.1 ∙ (ap (λ xs. xs ++ f.0) e.1 ∙ append_assoc a (e.0) (f.0)))

pub extends_same : (a : List ℕ) → IsContinued a a
extends_same a = ([], sym (append-nil a))

-- both parts of a list are below the bound
pub below_both : (bound : ℕ) (xs ys : List ℕ) → AreBelowBound bound xs → AreBelowBound bound ys
    → AreBelowBound bound (xs ++ ys)
below_both bound xs ys first second k less =
    elim (cases_lt k (length xs)) [
      | inl early ↦
          subst (λ n. n < bound) (sym (get_or_append_left xs ys 0 k early)) (first k early)
      | inr late ↦
          let size = length-append xs ys in
          subst (λ n. n < bound) (sym (get_or-append_right xs ys (length xs) k 0 refl late))
          (second (k - length xs) (omega arith))
    ]

contains_more : (a b : List ℕ) (x : ℕ) → IsContinued a b → Contains a x → Contains b x
contains_more a b x e has = subst (λ xs. Contains xs x) (sym e.1) (Contains-append_left a
    (e.0) x has)

module _ (list : NodeList) (inside : Bool) where
  pub ahead_rest : (first out queue : List ℕ) → IsContinued first queue
      → MovesTo list inside first (out ++ queue)
  ahead_rest first out queue extends s x has is =
      (x, Contains-append_right out queue x (contains_more first queue x extends has), is)

  -- all of them wait at first
  pub ahead_begun : (out queue : List ℕ) → IsAhead list inside out queue 0
  ahead_begun out queue s x has is =
      let at = at_place queue x has in
      (x, inr (at.0, omega arith, at.1, at.2), omega arith, is)

  -- and at the end none
  pub ahead_over : (first out queue : List ℕ) (at : ℕ) → length queue ≤ at
      → IsContinued first queue → IsAhead list inside out queue at
      → MovesTo list inside first out
  ahead_over first out queue at past extends ahead s x has is =
      let w = ahead s x (contains_more first queue x extends has) is in
      (w.0, moved (w.0) (w.1), w.3)
    where
      moved : (y : ℕ) → IsPending out queue at y → Contains out y
      moved y (inl there) = there
      moved y (inr (k, from, within, same)) = absurd (omega (arith, from, within, past))

  -- the node at the place stays
  pub ahead_kept : (out queue : List ℕ) (at node : ℕ) → get_or queue at 0 ≡ node
      → IsAhead list inside out queue at
      → IsAhead list inside (out ++ node ∷ []) queue (at + 1)
  ahead_kept out queue at node same ahead s x has is =
      let w = ahead s x has is in
      (w.0, by (w.0) (w.1), w.2, w.3)
    where
      by : (y : ℕ) → IsPending out queue at y → IsPending (out ++ node ∷ []) queue (at + 1) y
      by y (inl there) = inl (Contains-append_left out (node ∷ []) y there)
      by y (inr (k, from, within, is)) =
          elim (cases_lt at k) [
            | inl later ↦ inr (k, omega arith, within, is)
            | inr upto ↦
                let e : k ≡ at = omega (arith, from, upto) in
                inl (subst (λ z. Contains (out ++ node ∷ []) z)
                (sym same ∙ (ap (λ j. get_or queue j 0) (sym e) ∙ is))
                (Contains-push out node))
          ]

  -- the node at the place gives way to later ones
  pub ahead_moved : (out queue new : List ℕ) (at node : ℕ) → at < length queue
      → get_or queue at 0 ≡ node
      → IsAhead list inside out queue at → IsContinued queue new
      → ((s : List Bool) → in_node list node s ≡ inside
      → (c : ℕ) × Contains new c × (c < node) × (in_node list c s ≡ inside))
      → IsAhead list inside out new (at + 1)
  ahead_moved out queue new at node in_queue is_node ahead extends goes s x has is =
      go (suc x) x (omega arith) has is
    where
      same_at : (k : ℕ) → k < length queue → get_or new k 0 ≡ get_or queue k 0
      same_at k h = ap (λ xs. get_or xs k 0) extends.1
          ∙ get_or_append_left queue extends.0 0 k h

      longer : length queue ≤ length new
      longer =
          let e = ap length extends.1 ∙ length-append queue extends.0 in omega (arith, e)

      waits : (x y : ℕ) → IsPending out queue at y → y ≤ x → in_node list y s ≡ inside
          → ((c : ℕ) → c < x → Contains new c → in_node list c s ≡ inside
          → (z : ℕ) × IsPending out new (at + 1) z × (z ≤ c) × (in_node list z s ≡ inside))
          → (z : ℕ) × IsPending out new (at + 1) z × (z ≤ x) × (in_node list z s ≡ inside)
      waits x y (inl there) le is rec = (y, inl there, le, is)
      waits x y (inr (k, from, within, same)) le is rec =
          elim (cases_lt at k) [
            | inl later ↦ (
              y,
              inr (
                k,
                omega arith,
                omega (arith, longer, within),
                same_at k within
                    ∙ same,
              ),
              le,
              is,
            )
            | inr upto ↦
                let e : k ≡ at = omega (arith, from, upto) in
                let y_is : node ≡ y = sym is_node ∙ (ap (λ j. get_or queue j 0) (sym e) ∙ same) in
                let c = goes s (ap (λ z. in_node list z s) y_is ∙ is) in
                let d = rec (c.0) (omega (arith, y_is, c.2, le)) (c.1) (c.3) in
                (d.0, d.1, omega (arith, y_is, c.2, d.2, le), d.3)
          ]

      go : (bound x : ℕ) → x < bound → Contains new x → in_node list x s ≡ inside
          → (y : ℕ) × IsPending out new (at + 1) y × (y ≤ x) × (in_node list y s ≡ inside)
      go zero x less has is = absurd (omega (arith, less))
      go (suc bound) x less has is =
          let here = at_place new x has in
          elim (cases_lt at (here.0)) [
            | inl later ↦ (x, inr (here.0, omega (arith, later), here.1, here.2), omega arith, is)
            | inr upto ↦
                let in_old : here.0 < length queue = omega (arith, upto, in_queue) in
                let old : Contains queue x =
                from_place queue x (here.0) in_old (sym (same_at (here.0) in_old) ∙ here.2) in
                let w = ahead s x old is in
                waits x (w.0) (w.1) (w.2) (w.3)
                (λ c lt there e. go bound c (omega (arith, lt, less)) there e)
          ]

  module _ (reduced : IsReduced list) where
    -- the end that isn't looked for has no state that is
    pub not_bad : (s : List Bool) → in_node list (cond inside 0 1) s ≡ inside → ⊥
    not_bad s is = by inside is
      where
        by : (b : Bool) → in_node list (cond b 0 1) s ≡ b → ⊥
        by true e = let f : false ≡ true = sym (in_end list reduced s 0 (omega arith))
            ∙ e in absurd cc
        by false e = let f : true ≡ false = sym (in_end list reduced s 1 (omega arith))
            ∙ e in absurd cc

    pub live_in : (new : List ℕ) (c : ℕ) (s : List Bool)
        → (c ≡ cond inside 0 1) ⊎ Contains new c → in_node list c s ≡ inside → Contains new c
    live_in new c s (inl bad) is = absurd (not_bad s (ap (λ z. in_node list z s) (sym bad) ∙ is))
    live_in new c s (inr there) is = there

    -- a state goes on from a node to one of its children
    pub goes_on : (x lo hi : ℕ) (mid new : List ℕ) → 2 ≤ x → x < node_count list
        → lo ≡ child list x false → hi ≡ child list x true
        → (lo ≡ cond inside 0 1) ⊎ Contains mid lo → IsContinued mid new
        → (hi ≡ cond inside 0 1) ⊎ Contains new hi
        → (s : List Bool) → in_node list x s ≡ inside
        → (c : ℕ) × Contains new c × (c < x) × (in_node list c s ≡ inside)
    goes_on x lo hi mid new inner within is_lo is_hi low extends high s is =
        by (has_atom s (node_at list x).atom) (sym (in_inner list reduced s x inner within) ∙ is)
      where
        by : (b : Bool) → in_node list (child list x b) s ≡ inside
            → (c : ℕ) × Contains new c × (c < x) × (in_node list c s ≡ inside)
        by true e =
            let f = ap (λ z. in_node list z s) is_hi ∙ e in (
              hi,
              live_in new hi s high f,
              omega (arith, is_hi, child_less list reduced x true inner within),
              f,
            )
        by false e =
            let f = ap (λ z. in_node list z s) is_lo ∙ e in (
              lo,
              contains_more mid new lo extends (live_in mid lo s low f),
              omega (arith, is_lo, child_less list reduced x false inner within),
              f,
            )

    pub turned_same : (x : ℕ) (l : Literal) (s : List Bool) → 2 ≤ x → x < node_count list
        → (node_at list x).atom ≡ l.atom → in_literal l s ≡ true
        → in_node list x s ≡ in_node list (child list x l.positive) s
    turned_same x l s inner within same is =
        in_inner list reduced s x inner within
        ∙ ap (λ b. in_node list (child list x b) s)
        (ap (has_atom s) same ∙ flag l.positive (has_atom s l.atom) is)
      where
        flag : (sign b : Bool) → cond sign b (not b) ≡ true → b ≡ sign
        flag true b e = e
        flag false true e = let f : false ≡ true = e in absurd cc
        flag false false e = refl

    -- one more node was turned
    pub turned_more : (l : Literal) (front old new : List ℕ) (place node x : ℕ)
        → get_or front place 0 ≡ node
        → ((s : List Bool) → in_literal l s ≡ true → in_node list node s ≡ in_node list x s)
        → IsContinued old new → (x ≡ cond inside 0 1) ⊎ Contains new x
        → ((s : List Bool) (k : ℕ) → in_literal l s ≡ true → k < place
        → in_node list (get_or front k 0) s ≡ inside
        → (y : ℕ) × Contains old y × (in_node list y s ≡ inside))
        → (s : List Bool) (k : ℕ) → in_literal l s ≡ true → k < place + 1
        → in_node list (get_or front k 0) s ≡ inside
        → (y : ℕ) × Contains new y × (in_node list y s ≡ inside)
    turned_more l front old new place node x same turned extends put before s k lit less is =
        elim (cases_lt k place) [
          | inl early ↦
              let w = before s k lit early is in
              (w.0, contains_more old new (w.0) extends (w.1), w.2)
          | inr late ↦
              let e : k ≡ place = omega arith in
              let f : in_node list x s ≡ inside =
              sym (turned s lit)
              ∙ (ap (λ z. in_node list z s) (sym same ∙ ap (λ j. get_or front j 0) (sym e)) ∙ is) in
              (x, live_in new x s put f, f)
        ]

    pub turned_all : (l : Literal) (front new : List ℕ) (place : ℕ) → length front ≤ place
        → ((s : List Bool) (k : ℕ) → in_literal l s ≡ true → k < place
        → in_node list (get_or front k 0) s ≡ inside
        → (y : ℕ) × Contains new y × (in_node list y s ≡ inside))
        → Turns list inside l front new
    turned_all l front new place all before s x lit has is =
        let at = at_place front x has in
        before s (at.0) lit (omega (arith, at.1)) (ap (λ z. in_node list z s) (at.2) ∙ is)
