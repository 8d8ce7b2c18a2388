-- The graphs of the operands: what their nodes say of a state goes by their moves.
use Rattle.std.proofs.Common.{◌≡◌, ℕ, ◌<◌, ◌≤◌, ◌+◌, ◌∙◌, Bool, true, false, List, cond, eqb}
use Rattle.std.proofs.Common.{length, set, refl, sym, ap, arith, inl, inr}
use Rattle.std.proofs.lemmas.Bool.{cases_eq}
use Rattle.std.proofs.lemmas.List.{get_or-set_other, get_or-set_same, length-set}
use Rattle.hv_task.specs.State.{has_atom}
use Rattle.hv_task.proofs.Places.{same_state}
use Rattle.hv_sets.specs.declared.operand.Which.{Which}
use Rattle.hv_sets.specs.declared.operand.Which.TheVariants as W
use Rattle.hv_bdd.specs.declared.asked.Asked.{Asked}
use Rattle.hv_bdd.specs.Nodes.{in_node}
use Rattle.hv_bdd.specs.Order.{atom_at, place}
use Rattle.hv_bdd.specs.Reduced.{IsReduced}
use Rattle.hv_bdd.specs.Working.Graphs.{in_asked, in_graph as in_graph_of, limit as limit_of}
use Rattle.hv_bdd.specs.Working.Graphs.{with_marks}
use Rattle.hv_bdd.specs.Live.{TupleSetting, asks_goal, graph_child, bit_mark_of, moves, bit_or}
use Rattle.hv_bdd.specs.Live.{start_bit, graph_top}
use Rattle.hv_bdd.proofs.Chained.{chain_end, chain_free, chain_later, chain_step, chain_within}
use Rattle.hv_bdd.proofs.Chained.{top_end as chain_top_end, top_inner as chain_top_inner}
use Rattle.hv_bdd.proofs.Marked.{has_atom-over, length-over}
use Rattle.hv_bdd.proofs.Moved.{IsTrueTo}
use Rattle.hv_bdd.specs.Working.Ordered.{order_of}
use Rattle.hv_bdd.specs.Working.Walking.{atom_at_top, child_later, child_less, free, in_end}
use Rattle.hv_bdd.specs.Working.Walking.{in_inner, top_end, top_less}

module _ (S : TupleSetting) where
  abbrev pub limit : Which → ℕ
  limit = limit_of S

  abbrev pub in_graph : Which → List Bool → ℕ → Bool
  in_graph = in_graph_of S

  pub graph_outer : (w : Which) (i : ℕ) → i < 2 → graph_top S w i ≡ S.list.atoms
  graph_outer W.Empty i end = chain_top_end S.list.atoms (atom_at S.list)
      (λ v. true) (start_bit S) i end
  graph_outer W.Start i end = chain_top_end S.list.atoms (atom_at S.list)
      (λ v. true) (start_bit S) i end
  graph_outer W.Goal i end = chain_top_end S.list.atoms (atom_at S.list)
      (λ v. true) (start_bit S) i end
  graph_outer (W.Set number) i end = top_end S.list i end

  module _ (reduced : IsReduced S.list) where
    pub places_apart : (v w : ℕ) → v < S.list.atoms → w < S.list.atoms
        → atom_at S.list v ≡ atom_at S.list w → v ≡ w
    places_apart v w in_v in_w same =
        let order = order_of S.list reduced in
        sym (order.back v in_v) ∙ (ap (place S.list) same ∙ order.back w in_w)

    graph_ends : (w : Which) (s : List Bool) (i : ℕ) → i < 2 → in_graph w s i ≡ eqb i 1
    graph_ends W.Empty s i end = refl
    graph_ends W.Start s i end = chain_end S.list.atoms (atom_at S.list)
        (λ v. true) (start_bit S) s i end
    graph_ends W.Goal s i end = chain_end S.list.atoms (atom_at S.list) (asks_goal S)
        (λ v. true) s i end
    graph_ends (W.Set number) s i end = in_end S.list reduced s i end

    chain_inside : (i : ℕ) → 2 ≤ i → i < S.list.atoms + 2 → graph_top S W.Start i < S.list.atoms
    chain_inside i inner within =
        let e = chain_top_inner S.list.atoms (atom_at S.list) (λ v. true) (start_bit S) i inner in
        omega arith

    pub graph_inner : (w : Which) (i : ℕ) → 2 ≤ i → i < limit w → graph_top S w i < S.list.atoms
    graph_inner W.Empty i inner within = absurd (omega arith)
    graph_inner W.Start i inner within = chain_inside i inner within
    graph_inner W.Goal i inner within = chain_inside i inner within
    graph_inner (W.Set number) i inner within = top_less S.list reduced i inner within

    pub graph_later : (w : Which) (i : ℕ) (b : Bool) → 2 ≤ i → i < limit w
        → graph_top S w i < graph_top S w (graph_child S w i b)
    graph_later W.Empty i b inner within = absurd (omega arith)
    graph_later W.Start i b inner within = chain_later S.list.atoms (atom_at S.list)
        (λ v. true) (start_bit S) i b inner within
    graph_later W.Goal i b inner within = chain_later S.list.atoms (atom_at S.list) (asks_goal S)
        (λ v. true) i b inner within
    graph_later (W.Set number) i b inner within = child_later S.list reduced i b inner within

    pub graph_within : (w : Which) (i : ℕ) (b : Bool) → 2 ≤ i → i < limit w
        → graph_child S w i b < limit w
    graph_within W.Empty i b inner within = absurd (omega arith)
    graph_within W.Start i b inner within = chain_within S.list.atoms (atom_at S.list)
        (λ v. true) (start_bit S) i b inner within
    graph_within W.Goal i b inner within = chain_within S.list.atoms (atom_at S.list) (asks_goal S)
        (λ v. true) i b inner within
    graph_within (W.Set number) i b inner within = let less = child_less S.list reduced i b inner
        within in omega arith

    graph_step : (w : Which) (s : List Bool) (i : ℕ) → 2 ≤ i → i < limit w
        → in_graph w s i ≡ in_graph w s (graph_child S w i
        (has_atom s (atom_at S.list (graph_top S w i))))
    graph_step W.Empty s i inner within = absurd (omega arith)
    graph_step W.Start s i inner within = chain_step S.list.atoms (atom_at S.list)
        (λ v. true) (start_bit S) s i inner within
    graph_step W.Goal s i inner within = chain_step S.list.atoms (atom_at S.list) (asks_goal S)
        (λ v. true) s i inner within
    graph_step (W.Set number) s i inner within =
        in_inner S.list reduced s i inner within
        ∙ ap (λ a. in_node S.list (graph_child S (W.Set number) i (has_atom s a)) s)
        (sym (atom_at_top S.list reduced i inner within))

    graph_free : (w : Which) (s : List Bool) (i v : ℕ) (b : Bool) → i < limit w
        → v < graph_top S w i
        → in_graph w (set s (atom_at S.list v) b) i ≡ in_graph w s i
    graph_free W.Empty s i v b within less = refl
    graph_free W.Start s i v b within less =
        chain_free S.list.atoms (atom_at S.list)
        (λ v. true) (start_bit S) places_apart s i v b within less
    graph_free W.Goal s i v b within less =
        chain_free S.list.atoms (atom_at S.list) (asks_goal S)
        (λ v. true) places_apart s i v b within less
    graph_free (W.Set number) s i v b within less = free S.list reduced i v b s within less

    -- two states that differ at the atom of an earlier place alone are in the node or outside it
    -- together
    same_but : (w : Which) (s s' : List Bool) (i v : ℕ) → length s ≡ length s' → i < limit w
        → v < graph_top S w i
        → ((a : ℕ) → a < length s → (a ≡ atom_at S.list v → ⊥) → has_atom s a ≡ has_atom s' a)
        → in_graph w s i ≡ in_graph w s' i
    same_but w s s' i v size within less others =
        sym (graph_free w s i v true within less)
        ∙ (ap (λ x. in_graph w x i) (same_state (set s (atom_at S.list v) true)
        (set s' (atom_at S.list v) true)
        (length-set s (atom_at S.list v) true
        ∙ (size ∙ sym (length-set s' (atom_at S.list v) true))) at)
        ∙ graph_free w s' i v true within less)
      where
        at : (a : ℕ) → a < length (set s (atom_at S.list v) true)
            → has_atom (set s (atom_at S.list v) true) a
            ≡ has_atom (set s' (atom_at S.list v) true) a
        at a in_s =
            let len = length-set s (atom_at S.list v) true in
            elim (cases_eq a (atom_at S.list v)) [
              | inl same ↦
                  ap (has_atom (set s (atom_at S.list v) true)) same
                  ∙ (get_or-set_same s (atom_at S.list v) true false (omega arith)
                  ∙ (sym (get_or-set_same s' (atom_at S.list v) true false (omega arith))
                  ∙ ap (has_atom (set s' (atom_at S.list v) true)) (sym same)))
              | inr other ↦
                  get_or-set_other s (atom_at S.list v) a true false other
                  ∙ (others a (omega arith) other ∙ sym
                  (get_or-set_other s' (atom_at S.list v) a true false other))
            ]

    -- the state about which an operand is asked
    abbrev pub side : Bool → List Bool → List Bool
    side after s = cond after (with_marks S.changed s) s

    abbrev pub truth : Asked → List Bool → ℕ → Bool
    truth = in_asked S

    size_side : (after : Bool) (s : List Bool) → length (side after s) ≡ length s
    size_side true s = length-over S.changed s
    size_side false s = refl

    bit_side : (after : Bool) (s : List Bool) (a : ℕ) → length s ≡ S.list.atoms → a < S.list.atoms
        → has_atom (side after s) a ≡ cond after (bit_or (bit_mark_of S.changed a) (has_atom s a))
        (has_atom s a)
    bit_side true s a size within = has_atom-over S.changed s a (omega arith)
    bit_side false s a size within = refl

    free_side : (w : Which) (after : Bool) (s : List Bool) (i v : ℕ) (b : Bool)
        → length s ≡ S.list.atoms → i < limit w → v < graph_top S w i
        → in_graph w (side after (set s (atom_at S.list v) b)) i ≡ in_graph w (side after s) i
    free_side w after s i v b size within less =
        same_but w (side after (set s (atom_at S.list v) b)) (side after s) i v
        (size_side after (set s (atom_at S.list v) b)
        ∙ (length-set s (atom_at S.list v) b ∙ sym (size_side after s))) within less
        (λ a in_s other.
        let len = size_side after (set s (atom_at S.list v) b) in
        let len_set = length-set s (atom_at S.list v) b in
        let there : a < S.list.atoms = omega arith in
        bit_side after (set s (atom_at S.list v) b) a (len_set ∙ size) there
        ∙ (ap (λ x. cond after (bit_or (bit_mark_of S.changed a) x) x)
        (get_or-set_other s (atom_at S.list v) a b false other)
        ∙ sym (bit_side after s a size there)))

    pub is_true_to : IsTrueTo Asked (moves S) (λ o. limit o.which) truth
    is_true_to = record {
      place = λ v less. (order_of S.list reduced).atom_in v less;
      apart = places_apart;
      ends = λ o s i end within. graph_ends o.which (side o.after s) i end;
      outer = λ o i end. graph_outer o.which i end;
      inner = λ o i inner within. graph_inner o.which i inner within;
      later = λ o i b inner within. graph_later o.which i b inner within;
      within = λ o i b inner within. graph_within o.which i b inner within;
      step = λ o s i size inner within.
          let less = graph_inner o.which i inner within in
          graph_step o.which (side o.after s) i inner within
          ∙ ap (λ x. in_graph o.which (side o.after s) (graph_child S o.which i x))
          (bit_side o.after s (atom_at S.list (graph_top S o.which i)) size
          ((order_of S.list reduced).atom_in (graph_top S o.which i) less));
      free = λ o s i v b size within less. free_side o.which o.after s i v b size within less;
    }
