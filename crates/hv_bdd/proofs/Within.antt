-- A node within a cube: the search finds a state exactly where there is one, and has no more tuples
-- than there are nodes.
use Rattle.std.proofs.Common.{◌≡◌, ℕ, suc, ◌<◌, ◌≤◌, ◌∙◌, Bool, true, false, not, List, [], ◌∷◌}
use Rattle.std.proofs.Common.{Option, None, Some, cond, eqb, length, map, get_or, set, refl, sym}
use Rattle.std.proofs.Common.{ap, arith, inl, inr, subst}
use Rattle.std.proofs.lemmas.Bool.{and_from, and_parts, cases_eq, not-true}
use Rattle.std.proofs.lemmas.List.{get_or-map, get_or-set_other, get_or-set_same, length-map}
use Rattle.std.proofs.lemmas.List.{length-set}
use Rattle.std.proofs.lemmas.List.Elements.{All-cons, All-head, All-nil, All-tail}
use Rattle.std.proofs.lemmas.Map.Keys.{IsDistinct-from_apart}
use Rattle.std.proofs.lemmas.Map.Steps.{length-le_from_distinct_below}
use Rattle.std.proofs.lemmas.Map.Views.{Contains-from_any}
use Rattle.std.proofs.lemmas.Bool.{eqb-true, ne_eqb}
use Rattle.std.specs.Cmp.{booleans_Decides}
use Rattle.std.specs.List.{All}
use Rattle.std.specs.List.Sorted.{IsStrictlyIncreasing}
use Rattle.hv_task.specs.State.{has_atom}
use Rattle.hv_task.proofs.Rising.{rises_apart}
use Rattle.hv_sets.specs.Cubes.{SpeakBelow, atoms_of}
use Rattle.hv_sets.specs.Truth.{in_cube, in_literal}
use Rattle.hv_sets.specs.declared.finding.Finding.TheVariants as F
use Rattle.hv_sets.specs.declared.literal.Literal.{Literal}
use Rattle.hv_sets.specs.declared.operand.Which.TheVariants as W
use Rattle.hv_bdd.specs.declared.asked.Asked.{Asked}
use Rattle.hv_bdd.specs.Working.Graphs.{IsLiveAnswer, Suits, limit}
use Rattle.hv_bdd.specs.Live.{is_marked, bit_mark_of, moves, no_marks, roots}
use Rattle.hv_bdd.specs.Nodes.{in_node, node_count}
use Rattle.hv_bdd.specs.Order.{atom_at, place}
use Rattle.hv_bdd.specs.Reduced.{IsReduced}
use Rattle.hv_bdd.specs.Working.Search.{IsAskable, IsTupleSearch, SearchesCube, TupleSearch}
use Rattle.hv_bdd.specs.Working.Sets.{mark_literals}
use Rattle.hv_bdd.specs.Working.Sets.{Finds}
use Rattle.hv_bdd.specs.Tuples.{IsReached, TuplesPass}
use Rattle.hv_bdd.proofs.Listed.{length-literals}
use Rattle.hv_bdd.proofs.Marked.{length-no_marks, mark_of-no_marks}
use Rattle.hv_bdd.specs.Working.Ordered.{order_of}
use Rattle.hv_bdd.proofs.Tupled.{reached_tuple}

-- a state of the cube has the marked bits
literal_bit : (p h : Bool) → cond p h (not h) ≡ true → is_marked (Some p) h ≡ true
literal_bit true h e = (booleans_Decides true h).1 (sym e)
literal_bit false h e = (booleans_Decides false h).1 (sym (not-true h e))

bit_literal : (p h : Bool) → is_marked (Some p) h ≡ true → cond p h (not h) ≡ true
bit_literal true h e = sym ((booleans_Decides true h).0 e)
bit_literal false h e = ap not (sym ((booleans_Decides false h).0 e))

cube_marks : (ls : List Literal) (marks : List (Option Bool)) (s : List Bool) → in_cube ls s ≡ true
    → ((a : ℕ) → a < length marks → is_marked (bit_mark_of marks a) (has_atom s a) ≡ true)
    → (a : ℕ) → a < length marks → is_marked (bit_mark_of (mark_literals ls marks) a) (has_atom s a)
    ≡ true
cube_marks [] marks s all old a less = old a less
cube_marks (l ∷ ls) marks s all old a less =
    let parts = and_parts (in_literal l s) (in_cube ls s) all in
    let size = length-set marks l.atom (Some l.positive) in
    cube_marks ls (set marks l.atom (Some l.positive)) s parts.1
    (λ b within.
    elim (cases_eq b l.atom) [
      | inl e ↦
          ap (λ m. is_marked m (has_atom s b))
          (ap (bit_mark_of (set marks l.atom (Some l.positive))) e
          ∙ get_or-set_same marks l.atom (Some l.positive) None (omega arith))
          ∙ (ap (λ x. is_marked (Some l.positive) (has_atom s x)) e
          ∙ literal_bit l.positive (has_atom s l.atom) parts.0)
      | inr e ↦
          ap (λ m. is_marked m (has_atom s b))
          (get_or-set_other marks l.atom b (Some l.positive) None e) ∙ old b (omega arith)
    ])
    a (omega arith)

-- and the other way round
mark_kept : (ls : List Literal) (marks : List (Option Bool)) (a : ℕ)
    → All (λ (l : Literal). a < l.atom) ls
    → bit_mark_of (mark_literals ls marks) a ≡ bit_mark_of marks a
mark_kept [] marks a later = refl
mark_kept (l ∷ ls) marks a later =
    let less = All-head (λ (l : Literal). a < l.atom) l ls later in
    mark_kept ls (set marks l.atom (Some l.positive)) a
    (All-tail (λ (l : Literal). a < l.atom) l ls later)
    ∙ get_or-set_other marks l.atom a (Some l.positive) None (λ e. omega arith)

marks_cube : (ls : List Literal) (marks : List (Option Bool)) (s : List Bool)
    → ((i j : ℕ) → i < j → j < length (atoms_of ls)
    → get_or (atoms_of ls) i 0 < get_or (atoms_of ls) j 0) → SpeakBelow (length marks) ls
    → ((a : ℕ) → a < length marks → is_marked (bit_mark_of (mark_literals ls marks) a)
    (has_atom s a) ≡ true) → in_cube ls s ≡ true
marks_cube [] marks s rises below all = refl
marks_cube (l ∷ ls) marks s rises below all =
    let within = All-head (λ (l : Literal). l.atom < length marks) l ls below in
    let size = length-set marks l.atom (Some l.positive) in
    let later : All (λ (k : Literal). l.atom < k.atom) ls =
    λ k d inside.
    let n = length-map ls (λ (l : Literal). l.atom) in
    let e = get_or-map (λ (l : Literal). l.atom) ls k d 0 inside in
    let less = rises 0 (suc k) (omega arith) (omega arith) in omega arith in
    let mark = mark_kept ls (set marks l.atom (Some l.positive)) l.atom later
    ∙ get_or-set_same marks l.atom (Some l.positive) None within in
    let wider : SpeakBelow (length (set marks l.atom (Some l.positive))) ls =
    subst (λ n. SpeakBelow n ls) (sym size)
    (All-tail (λ (l : Literal). l.atom < length marks) l ls below) in
    and_from (in_literal l s) (in_cube ls s)
    (bit_literal l.positive (has_atom s l.atom)
    (ap (λ m. is_marked m (has_atom s l.atom)) (sym mark) ∙ all l.atom within))
    (marks_cube ls (set marks l.atom (Some l.positive)) s
    (λ i j less end. rises (suc i) (suc j) (omega arith) (omega arith)) wider
    (λ a less. all a (omega arith)))

-- the search for a state of a cube can be made
pub can_look : (s : TupleSearch) (node : ℕ) (inside : Bool) (cube : List Literal)
    → SearchesCube node inside cube s → IsReduced s.setting.list → node < node_count s.setting.list
    → length s.setting.changed ≡ s.setting.list.atoms → IsTupleSearch s
can_look s node inside cube for reduced within changed = record {
  reduced = reduced;
  needed = ap length for.needed
      ∙ (length-literals cube (no_marks s.setting.list.atoms)
      ∙ length-no_marks s.setting.list.atoms);
  changed = changed;
  asked = subst (All (λ (o : Asked). IsAskable s.setting o.which)) (sym for.asked)
      (All-cons (λ (o : Asked). IsAskable s.setting o.which)
      (record { which = W.Set node; after = false; positive = inside }) [] within
      (All-nil (λ (o : Asked). IsAskable s.setting o.which)));
}

module _ (s : TupleSearch) (search : IsTupleSearch s) (node : ℕ) (inside : Bool)
    (cube : List Literal) (for : SearchesCube node inside cube s)
    (rises : IsStrictlyIncreasing (atoms_of cube))
    (below : SpeakBelow s.setting.list.atoms cube) where
  abbrev pub one : List Asked
  one = record { which = W.Set node; after = false; positive = inside } ∷ []

  marks_size : length (no_marks s.setting.list.atoms) ≡ s.setting.list.atoms
  marks_size = length-no_marks s.setting.list.atoms

  -- a state of the cube on the right side suits the operand
  suits_for : (state : List Bool) → length state ≡ s.setting.list.atoms → in_cube cube state ≡ true
      → in_node s.setting.list node state ≡ inside
      → Suits s.setting one state
  suits_for state size in_c is = (
    (
      size,
      λ v less.
          let at = (order_of s.setting.list search.reduced).atom_in v less in
          let len = marks_size in
          ap (λ m. is_marked (bit_mark_of m (atom_at s.setting.list v))
          (has_atom state (atom_at s.setting.list v))) for.needed
          ∙ cube_marks cube (no_marks s.setting.list.atoms) state in_c
          (λ a within. ap (λ m. is_marked m (has_atom state a))
          (mark_of-no_marks s.setting.list.atoms a (omega arith)))
          (atom_at s.setting.list v) (omega arith),
    ),
    (is, tt),
  )

  in_cube_from : (state : List Bool) → Suits s.setting one state → in_cube cube state ≡ true
  in_cube_from state suits =
      let len = marks_size in
      marks_cube cube (no_marks s.setting.list.atoms) state
      (λ i j less end. rises_apart (atoms_of cube) i j rises less end)
      (subst (λ n. SpeakBelow n cube) (sym len) below)
      (λ a less.
      let within : a < s.setting.list.atoms = omega arith in
      let in_order = (order_of s.setting.list search.reduced).place_in a within in
      subst (λ x. is_marked (bit_mark_of (mark_literals cube (no_marks s.setting.list.atoms)) x)
      (has_atom state x) ≡ true)
      ((order_of s.setting.list search.reduced).there a within)
      (ap (λ m. is_marked (bit_mark_of m (atom_at s.setting.list (place s.setting.list a)))
      (has_atom state (atom_at s.setting.list (place s.setting.list a)))) (sym for.needed)
      ∙ suits.0.1 (place s.setting.list a) in_order))

  -- there are no more tuples than nodes
  head_less : (ts : List ℕ) → IsReached (moves s.setting) s.asked
      (roots s.setting s.asked) ts
      → (length ts ≡ 1) × (get_or ts 0 0 < node_count s.setting.list)
  head_less ts reached =
      let tuple = reached_tuple s search ts reached in
      let size : length ts ≡ 1 = tuple.size ∙ ap length for.asked in (
        size,
        subst (λ (os : List Asked). get_or ts 0 0
            < limit s.setting (get_or os 0 (record
            { which = W.Set node; after = false; positive = inside })).which) for.asked
            (tuple.each 0 (record { which = W.Set node; after = false; positive = inside })
            (omega arith)),
      )

  alone : (ts : List ℕ) → length ts ≡ 1 → ts ≡ get_or ts 0 0 ∷ []
  alone [] size = absurd (omega arith)
  alone (i ∷ []) size = refl
  alone (i ∷ (j ∷ ts)) size = absurd (omega arith)

  pub few_tuples : (budget : ℕ) → node_count s.setting.list ≤ budget
      → TuplesPass (moves s.setting) s.asked (roots s.setting s.asked) budget → ⊥
  few_tuples budget enough pass =
      let size = length-map pass.0 (λ (ts : List ℕ). get_or ts 0 0) in
      let len = pass.1 in
      let few = length-le_from_distinct_below (map (λ (ts : List ℕ). get_or ts 0 0) pass.0)
      (node_count s.setting.list)
      (IsDistinct-from_apart eqb (map (λ (ts : List ℕ). get_or ts 0 0) pass.0)
      (λ i j d less within.
      ne_eqb (get_or (map (λ (ts : List ℕ). get_or ts 0 0) pass.0) i d)
      (get_or (map (λ (ts : List ℕ). get_or ts 0 0) pass.0) j d)
      (λ e.
      let at_i = get_or-map (λ (ts : List ℕ). get_or ts 0 0) pass.0 i [] d (omega arith) in
      let at_j = get_or-map (λ (ts : List ℕ). get_or ts 0 0) pass.0 j [] d (omega arith) in
      let one_i = (head_less (get_or pass.0 i []) (pass.2 i [] (omega arith))).0 in
      let one_j = (head_less (get_or pass.0 j []) (pass.2 j [] (omega arith))).0 in
      pass.3 i j less (omega arith)
      (alone (get_or pass.0 i []) one_i
      ∙ (ap (λ n. n ∷ []) (sym at_i ∙ (e ∙ at_j)) ∙ sym (alone (get_or pass.0 j []) one_j))))))
      (λ q found.
      let c = Contains-from_any {eq = eqb} eqb-true q (map (λ (ts : List ℕ). get_or ts 0 0) pass.0)
      found in
      let at = get_or-map (λ (ts : List ℕ). get_or ts 0 0) pass.0 c.0 [] q
      (let w = c.1 in omega arith) in
      let less = (head_less (get_or pass.0 c.0 []) (pass.2 c.0 [] (let w = c.1 in omega arith))).1
      in
      let same = c.2 in omega arith) in
      omega arith

  unless : (b c : Bool) → (b ≡ c → ⊥) → b ≡ not c
  unless true true f = absurd (f refl)
  unless true false f = refl
  unless false true f = refl
  unless false false f = absurd (f refl)

  pub found_in : (budget : ℕ) (state : List Bool)
      → IsLiveAnswer F.Clash s.setting s.asked budget state
      → Finds inside true s.setting.list.atoms (in_node s.setting.list node) cube state
  found_in budget state says =
      let suits = subst (λ os. Suits s.setting os state) for.asked says.1 in
      record { of_task = suits.0.0; of_cube = in_cube_from state suits; of_set = suits.1.0 }

  pub none_in : (budget : ℕ) (found : List Bool)
      → IsLiveAnswer F.Empty s.setting s.asked budget found
      → Finds inside false s.setting.list.atoms (in_node s.setting.list node) cube found
  none_in budget found says = λ state size in_c.
      unless (in_node s.setting.list node state) inside
      (λ is. says.1 state (subst (λ os. Suits s.setting os state) (sym for.asked)
      (suits_for state size in_c is)))
