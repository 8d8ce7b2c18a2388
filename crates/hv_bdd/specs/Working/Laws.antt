-- The laws of paths of a reduced ordered list: as many as the children have together, and their
-- cubes are the set or its complement.
use Rattle.std.proofs.Common.{◌≡◌, ℕ, zero, suc, ◌<◌, ◌≤◌, ◌+◌, ◌-◌, ◌∙◌, ◌&&◌, ◌||◌, Bool, true}
use Rattle.std.proofs.Common.{false, not, List, [], ◌∷◌, ◌++◌, Some, cond, eqb, ltb, length, map}
use Rattle.std.proofs.Common.{refl, sym, ap, ap₂, arith, inl, inr, subst}
use Rattle.std.proofs.lemmas.Bool.{cases_lt, cond-false, cond-true, eq-eqb, le-ltb, lt-ltb}
use Rattle.std.proofs.lemmas.List.{length-append, length-map}
use Rattle.std.proofs.lemmas.List.Elements.{All-append, All-cons, All-head, All-map, All-nil}
use Rattle.std.proofs.lemmas.List.Elements.{All-tail, All-weaker}
use Rattle.std.proofs.lemmas.List.Folds.{list_any-append}
use Rattle.std.proofs.Math.Bool.{beq}
use Rattle.std.specs.List.{All, list_any}
use Rattle.hv_task.specs.State.{has_atom}
use Rattle.hv_sets.specs.Cubes.{cube_of}
use Rattle.hv_sets.specs.Truth.{in_cube, in_literal}
use Rattle.hv_sets.specs.Walks.{IsNew, in_cubes, in_steps}
use Rattle.hv_sets.specs.declared.cursor.Cursor.{Cursor}
use Rattle.hv_sets.specs.declared.literal.Literal.{Literal}
use Rattle.hv_bdd.specs.Nodes.{NodeList, in_node, node_count}
use Rattle.hv_bdd.specs.Order.{place}
use Rattle.hv_bdd.specs.Paths.{StandsForWalk, at_end, left_at, left_of, path_cubes, paths, paths_in}
use Rattle.hv_bdd.specs.Paths.{with_bit}
use Rattle.hv_bdd.specs.Reduced.{IsReduced, child, node_at, top}
use Rattle.hv_bdd.specs.Working.Cubed.{RisesPast, in_cube_of}
use Rattle.hv_bdd.specs.Working.Walking.{in_end, in_inner, top_inner}

-- a node's paths, by those of its children
abbrev pub both : NodeList → (ℕ → List (List Literal)) → ℕ → List (List Literal)
both list of node =
    with_bit (node_at list node).atom false (of (node_at list node).low)
    ++ with_bit (node_at list node).atom true (of (node_at list node).high)

-- without a step left there is the path of an end alone, and with one more the paths go on by the
-- children
in_end_zero : (list : NodeList) (e node : ℕ) → paths_in list e zero node ≡ at_end e node
unfolding paths_in
in_end_zero list e node = refl

in_more : (list : NodeList) (e k node : ℕ)
    → paths_in list e (suc k) node
    ≡ cond (ltb node 2) (at_end e node) (both list (paths_in list e k) node)
unfolding paths_in
in_more list e k node = refl

module _ (list : NodeList) (e : ℕ) where
  in_is_end : (k node : ℕ) → node < 2 → paths_in list e k node ≡ at_end e node
  in_is_end zero node end = in_end_zero list e node
  in_is_end (suc k) node end = in_more list e k node
      ∙ cond-true (ltb node 2) (at_end e node) (both list (paths_in list e k) node)
      (lt-ltb node 2 end)

  in_is_both : (k node : ℕ) → 2 ≤ node
      → paths_in list e (suc k) node ≡ both list (paths_in list e k) node
  in_is_both k node inner = in_more list e k node
      ∙ cond-false (ltb node 2) (at_end e node) (both list (paths_in list e k) node)
      (le-ltb node 2 inner)

  pub paths_end : (node : ℕ) → node < 2 → paths list e node ≡ at_end e node
  paths_end node end = in_is_end node node end

  module _ (reduced : IsReduced list) where
    -- a step more than enough changes nothing
    enough : (k node : ℕ) → node < 2 + k → node < node_count list
        → paths_in list e (suc k) node ≡ paths_in list e k node
    enough zero node few within =
        in_is_end 1 node (omega arith) ∙ sym (in_is_end 0 node (omega arith))
    enough (suc k) node few within =
        elim (cases_lt node 2) [
          | inl end ↦ in_is_end (suc (suc k)) node end ∙ sym (in_is_end (suc k) node end)
          | inr inner ↦
              let low = reduced.low node inner within in
              let high = reduced.high node inner within in
              in_is_both (suc k) node inner
              ∙ (ap₂ (λ x y.
              with_bit (node_at list node).atom false x
              ++ with_bit (node_at list node).atom true y)
              (enough k (node_at list node).low (omega arith) (omega arith))
              (enough k (node_at list node).high (omega arith) (omega arith))
              ∙ sym (in_is_both k node inner))
        ]

    all_enough : (more node : ℕ) → node < node_count list
        → paths_in list e (node + more) node ≡ paths list e node
    all_enough zero node within =
        ap (λ k. paths_in list e k node) (let f : node + 0 ≡ node = omega arith in f)
    all_enough (suc more) node within =
        ap (λ k. paths_in list e k node)
        (let f : node + suc more ≡ suc (node + more) = omega arith in f)
        ∙ (enough (node + more) node (omega arith) within ∙ all_enough more node within)

    enough_for : (k node : ℕ) → node ≤ k → node < node_count list
        → paths_in list e k node ≡ paths list e node
    enough_for k node upto within = ap (λ n. paths_in list e n node)
        (let f : k ≡ node + (k - node) = omega arith in f) ∙ all_enough (k - node) node within

    pub paths_inner : (node : ℕ) → 2 ≤ node → node < node_count list
        → paths list e node ≡ both list (paths list e) node
    paths_inner node inner within =
        let low = reduced.low node inner within in
        let high = reduced.high node inner within in
        ap (λ k. paths_in list e k node) (let f : node ≡ suc (node - 1) = omega arith in f)
        ∙ (in_is_both (node - 1) node inner
        ∙ ap₂ (λ x y.
        with_bit (node_at list node).atom false x ++ with_bit (node_at list node).atom true y)
        (enough_for (node - 1) (node_at list node).low (omega arith) (omega arith))
        (enough_for (node - 1) (node_at list node).high (omega arith) (omega arith)))

    pub count_inner : (node : ℕ) → 2 ≤ node → node < node_count list
        → length (paths list e node)
        ≡ length (paths list e (node_at list node).low)
        + length (paths list e (node_at list node).high)
    count_inner node inner within =
        ap length (paths_inner node inner within)
        ∙ (length-append
        (with_bit (node_at list node).atom false (paths list e (node_at list node).low))
        (with_bit (node_at list node).atom true (paths list e (node_at list node).high))
        ∙ ap₂ (λ x y. x + y)
        (length-map (paths list e (node_at list node).low) (λ p.
        record { atom = (node_at list node).atom; positive = false } ∷ p))
        (length-map (paths list e (node_at list node).high) (λ p.
        record { atom = (node_at list node).atom; positive = true } ∷ p)))

    -- the atoms of a path rise in the order
    rise_by : (bound node v : ℕ) → node < bound → node < node_count list → v ≤ top list node
        → All (RisesPast list v) (paths list e node)
    rise_by zero node v few within upto = absurd (omega arith)
    rise_by (suc bound) node v few within upto =
        elim (cases_lt node 2) [
          | inl end ↦ subst (All (RisesPast list v)) (sym (paths_end node end)) (ends (eqb node e))
          | inr inner ↦
              let low = reduced.low node inner within in
              let high = reduced.high node inner within in
              subst (All (RisesPast list v)) (sym (paths_inner node inner within))
              (All-append (RisesPast list v)
              (with_bit (node_at list node).atom false (paths list e (node_at list node).low))
              (with_bit (node_at list node).atom true (paths list e (node_at list node).high))
              (bit inner (node_at list node).low false
              (let l = reduced.low_later node inner within in omega arith)
              (rise_by bound (node_at list node).low (top list (node_at list node).low)
              (omega arith) (omega arith) (omega arith)))
              (bit inner (node_at list node).high true
              (let h = reduced.high_later node inner within in omega arith)
              (rise_by bound (node_at list node).high (top list (node_at list node).high)
              (omega arith) (omega arith) (omega arith))))
        ]
      where
        ends : (b : Bool) → All (RisesPast list v) (cond b ([] ∷ []) [])
        ends true = All-cons (RisesPast list v) [] [] tt (All-nil (RisesPast list v))
        ends false = All-nil (RisesPast list v)

        bit : 2 ≤ node → (c : ℕ) (b : Bool) → top list node < top list c
            → All (RisesPast list (top list c)) (paths list e c)
            → All (RisesPast list v) (with_bit (node_at list node).atom b (paths list e c))
        bit inner c b less rest =
            let at = top_inner list node inner in
            All-map (RisesPast list v) (λ p.
            record { atom = (node_at list node).atom; positive = b } ∷ p) (paths list e c)
            (All-weaker (RisesPast list (top list c)) (λ p.
            RisesPast list v (record { atom = (node_at list node).atom; positive = b } ∷ p))
            (λ p rises. (omega arith, reduced.atom node inner within, from p rises (omega arith)))
            (paths list e c) rest)
          where
            from : (p : List Literal) → RisesPast list (top list c) p
                → place list (node_at list node).atom + 1 ≤ top list c
                → RisesPast list (place list (node_at list node).atom + 1) p
            from [] rises upto = tt
            from (l ∷ ls) rises upto = (let x = rises.0 in omega arith, rises.1, rises.2)

    pub paths_rise : (node : ℕ) → node < node_count list
        → All (RisesPast list (top list node)) (paths list e node)
    paths_rise node within =
        rise_by (suc node) node (top list node) (omega arith) within (omega arith)

-- a state is in the cube of a path to an end exactly where its walk ends there
any_bit : (a : ℕ) (b : Bool) (ps : List (List Literal)) (s : List Bool)
    → list_any (λ p. in_cube p s) (with_bit a b ps)
    ≡ (in_literal (record { atom = a; positive = b }) s && list_any (λ p. in_cube p s) ps)
any_bit a b [] s = by (in_literal (record { atom = a; positive = b }) s)
  where
    by : (x : Bool) → false ≡ (x && false)
    by true = refl
    by false = refl
any_bit a b (p ∷ ps) s =
    ap (λ x. (in_literal (record { atom = a; positive = b }) s && in_cube p s) || x)
    (any_bit a b ps s)
    ∙ by (in_literal (record { atom = a; positive = b }) s) (in_cube p s)
    (list_any (λ p. in_cube p s) ps)
  where
    by : (x y z : Bool) → ((x && y) || (x && z)) ≡ (x && (y || z))
    by true y z = refl
    by false y z = refl

-- the empty path leads from an end to itself alone, and each state is in it
ends_are : (e node : ℕ) (s : List Bool) → e < 2 → node < 2
    → list_any (λ p. in_cube p s) (at_end e node) ≡ beq (eqb node 1) (eqb e 1)
ends_are zero zero s p q = refl
ends_are zero (suc zero) s p q = refl
ends_are (suc zero) zero s p q = refl
ends_are (suc zero) (suc zero) s p q = refl
ends_are (suc (suc e)) node s p q = absurd (omega arith)
ends_are e (suc (suc node)) s p q = absurd (omega arith)

module _ (list : NodeList) (e : ℕ) (reduced : IsReduced list) (end : e < 2) (s : List Bool) where
  in_by : (bound node : ℕ) → node < bound → node < node_count list
      → list_any (λ p. in_cube p s) (paths list e node) ≡ beq (in_node list node s) (eqb e 1)
  in_by zero node few within = absurd (omega arith)
  in_by (suc bound) node few within =
      elim (cases_lt node 2) [
        | inl last ↦
            ap (list_any (λ p. in_cube p s)) (paths_end list e node last)
            ∙ (ends_are e node s end last
            ∙ ap (λ b. beq b (eqb e 1)) (sym (in_end list reduced s node last)))
        | inr inner ↦
            let low = reduced.low node inner within in
            let high = reduced.high node inner within in
            ap (list_any (λ p. in_cube p s)) (paths_inner list e reduced node inner within)
            ∙ (list_any-append (λ p. in_cube p s)
            (with_bit (node_at list node).atom false (paths list e (node_at list node).low))
            (with_bit (node_at list node).atom true (paths list e (node_at list node).high))
            ∙ (ap₂ (λ x y. x || y)
            (any_bit (node_at list node).atom false (paths list e (node_at list node).low) s
            ∙ ap (λ x. not (has_atom s (node_at list node).atom) && x)
            (in_by bound (node_at list node).low (omega arith) (omega arith)))
            (any_bit (node_at list node).atom true (paths list e (node_at list node).high) s
            ∙ ap (λ x. has_atom s (node_at list node).atom && x)
            (in_by bound (node_at list node).high (omega arith) (omega arith)))
            ∙ (by (has_atom s (node_at list node).atom)
            ∙ ap (λ b. beq b (eqb e 1)) (sym (in_inner list reduced s node inner within)))))
      ]
    where
      or_false : (b : Bool) → (b || false) ≡ b
      or_false true = refl
      or_false false = refl

      by : (h : Bool)
          → ((not h && beq (in_node list (node_at list node).low s) (eqb e 1))
          || (h && beq (in_node list (node_at list node).high s) (eqb e 1)))
          ≡ beq (in_node list (child list node h) s) (eqb e 1)
      by true = refl
      by false = or_false (beq (in_node list (node_at list node).low s) (eqb e 1))

  pub in_paths : (node : ℕ) → node < node_count list
      → in_cubes (paths list e node) s ≡ beq (in_node list node s) (eqb e 1)
  in_paths node within = in_by (suc node) node (omega arith) within

  cubes_by : (v : ℕ) (ps : List (List Literal)) → All (RisesPast list v) ps
      → in_cubes (map cube_of ps) s ≡ list_any (λ p. in_cube p s) ps
  cubes_by v [] rise = refl
  cubes_by v (p ∷ ps) rise =
      ap₂ (λ x y. x || y) (in_cube_of list p v s (All-head (RisesPast list v) p ps rise))
      (cubes_by v ps (All-tail (RisesPast list v) p ps rise))

  pub in_path_cubes : (node : ℕ) → node < node_count list
      → in_cubes (path_cubes list e node) s ≡ beq (in_node list node s) (eqb e 1)
  in_path_cubes node within =
      cubes_by (top list node) (paths list e node) (paths_rise list e reduced node within)
      ∙ in_paths node within

-- where each step has a cube, the steps have the states of the cubes
pub steps_are : (cubes : List (List Literal)) (s : List Bool)
    → in_steps (map Some cubes) s ≡ in_cubes cubes s
steps_are [] s = refl
steps_are (c ∷ cubes) s = ap (λ x. in_cube c s || x) (steps_are cubes s)

-- what a truth value says beside true, and beside false
beq_true : (b : Bool) → beq b true ≡ b
beq_true true = refl
beq_true false = refl

beq_false : (b : Bool) → beq b false ≡ not b
beq_false true = refl
beq_false false = refl

-- the paths to node 1 are the set of the node, and those to node 0 its complement
pub inside_is : (list : NodeList) (node : ℕ) → IsReduced list → node < node_count list
    → (s : List Bool)
    → in_cubes (path_cubes list 1 node) s ≡ in_node list node s
inside_is list node reduced within s =
    in_path_cubes list 1 reduced (omega arith) s node within ∙ beq_true (in_node list node s)

pub outside_is : (list : NodeList) (node : ℕ) → IsReduced list → node < node_count list
    → (s : List Bool)
    → in_steps (map Some (path_cubes list 0 node)) s ≡ not (in_node list node s)
outside_is list node reduced within s =
    steps_are (path_cubes list 0 node) s
    ∙ (in_path_cubes list 0 reduced (omega arith) s node within ∙ beq_false (in_node list node s))

-- a cursor that no walk has moved
pub stands_first : (list : NodeList) (e : ℕ) (cursor : Cursor) → IsNew cursor
    → StandsForWalk list e cursor
stands_first list e cursor new = record {
  first = λ _. new.1;
  stack = λ some. absurd (some new.1);
  last = λ some. absurd (some new.1);
}

-- all paths are left for it
pub left_first : (list : NodeList) (e root : ℕ) (cursor : Cursor) → IsNew cursor
    → left_at list e root cursor ≡ paths list e root
left_first list e root cursor new =
    ap (λ b. cond b (paths list e root) (left_of list e cursor.path.items []))
    (eq-eqb cursor.place 0 new.0)
