-- Why tuples of ends tell of states: a live tuple of ends is reached exactly where some state suits
-- the roots. Nothing is known of the
-- operands here but that the truth of their nodes goes by their moves.
use Rattle.std.proofs.Common.{◌≡◌, ℕ, zero, suc, ◌<◌, ◌≤◌, ◌+◌, ◌∙◌, ◌&&◌, Bool, true, false, not}
use Rattle.std.proofs.Common.{List, [], ◌∷◌, Option, None, Some, cond, eqb, ltb, length, set, refl}
use Rattle.std.proofs.Common.{sym, ap, arith, inl, inr, subst}
use Rattle.std.proofs.lemmas.Bool.{cases_eq, cases_lt, cond-false, cond-true, and_from, and_parts}
use Rattle.std.proofs.lemmas.Bool.{eq-eqb, lt-ltb, ltb-true, ne_eqb}
use Rattle.std.proofs.lemmas.List.{get_or-set_other, get_or-set_same, length-set}
use Rattle.hv_task.specs.State.{has_atom}
use Rattle.hv_bdd.specs.Working.Graphs.{AgreesWithNodes, AreNodes, FitsBits}
use Rattle.hv_bdd.specs.Tuples.{IsReached, Moves, follow, if_live, is_live, least, move_all}
use Rattle.hv_bdd.specs.Tuples.{move_one, next}

pub record IsTrueTo (O : Type 0) (m : Moves O) (limit : O → ℕ) (truth : O → List Bool → ℕ → Bool) :
    Type 0 where
  pub place : (v : ℕ) → v < m.atoms → m.atom_at v < m.atoms
  pub apart : (v w : ℕ) → v < m.atoms → w < m.atoms → m.atom_at v ≡ m.atom_at w → v ≡ w
  pub ends : (o : O) (s : List Bool) (i : ℕ) → i < 2 → i < limit o → truth o s i ≡ eqb i 1
  pub outer : (o : O) (i : ℕ) → i < 2 → m.top o i ≡ m.atoms
  pub inner : (o : O) (i : ℕ) → 2 ≤ i → i < limit o → m.top o i < m.atoms
  pub later : (o : O) (i : ℕ) (b : Bool) → 2 ≤ i → i < limit o → m.top o i < m.top o (m.child o i b)
  pub within : (o : O) (i : ℕ) (b : Bool) → 2 ≤ i → i < limit o → m.child o i b < limit o
  pub step : (o : O) (s : List Bool) (i : ℕ) → length s ≡ m.atoms → 2 ≤ i → i < limit o
      → truth o s i ≡ truth o s (m.child o i
      (m.seen o (m.top o i) (has_atom s (m.atom_at (m.top o i)))))
  pub free : (o : O) (s : List Bool) (i v : ℕ) (b : Bool) → length s ≡ m.atoms → i < limit o
      → v < m.top o i
      → truth o (set s (m.atom_at v) b) i ≡ truth o s i

module _ {O : Type 0} (m : Moves O) (limit : O → ℕ) (truth : O → List Bool → ℕ → Bool)
    (t : IsTrueTo O m limit truth) where
  pub least_upto : (os : List O) (nodes : List ℕ) → least m os nodes ≤ m.atoms
  least_upto [] nodes = omega arith
  least_upto (o ∷ os) [] = omega arith
  least_upto (o ∷ os) (i ∷ nodes) = let upto = least_upto os nodes in omega arith

  moved : (v : ℕ) (b : Bool) (o : O) (i : ℕ) → m.top o i ≡ v
      → move_one m v b o i ≡ m.child o i (m.seen o v b)
  moved v b o i e = cond-true (eqb (m.top o i) v) (m.child o i (m.seen o v b)) i
      (eq-eqb (m.top o i) v e)

  stayed : (v : ℕ) (b : Bool) (o : O) (i : ℕ) → (m.top o i ≡ v → ⊥) → move_one m v b o i ≡ i
  stayed v b o i e = cond-false (eqb (m.top o i) v) (m.child o i (m.seen o v b)) i
      (ne_eqb (m.top o i) v e)

  -- a node that asks for a place of an atom is no end
  is_inner : (o : O) (i v : ℕ) → m.top o i ≡ v → v < m.atoms → 2 ≤ i
  is_inner o i v e less =
      elim (cases_lt i 2) [
        | inl end ↦ let f = t.outer o i end in absurd (omega arith)
        | inr inner ↦ inner
      ]

  one_within : (v : ℕ) (b : Bool) (o : O) (i : ℕ) → v < m.atoms → i < limit o
      → move_one m v b o i < limit o
  one_within v b o i less within =
      elim (cases_eq (m.top o i) v) [
        | inl e ↦ subst (λ n. n < limit o) (sym (moved v b o i e))
            (t.within o i (m.seen o v b) (is_inner o i v e less) within)
        | inr e ↦ subst (λ n. n < limit o) (sym (stayed v b o i e)) within
      ]

  pub moved_nodes : (v : ℕ) (b : Bool) (os : List O) (nodes : List ℕ) → v < m.atoms
      → AreNodes limit os nodes
      → AreNodes limit os (move_all m v b os nodes)
  moved_nodes v b [] [] less are = are
  moved_nodes v b [] (i ∷ nodes) less are = absurd are
  moved_nodes v b (o ∷ os) [] less are = absurd are
  moved_nodes v b (o ∷ os) (i ∷ nodes) less are =
      (one_within v b o i less are.0, moved_nodes v b os nodes less are.1)

  one_later : (v : ℕ) (b : Bool) (o : O) (i : ℕ) → v < m.atoms → i < limit o → v ≤ m.top o i
      → v < m.top o (move_one m v b o i)
  one_later v b o i less within upto =
      elim (cases_eq (m.top o i) v) [
        | inl e ↦
            let later = t.later o i (m.seen o v b) (is_inner o i v e less) within in
            let f = ap (m.top o) (moved v b o i e) in omega arith
        | inr e ↦ let f = ap (m.top o) (stayed v b o i e) in omega (arith, e)
      ]

  -- a move raises the least place
  pub rises : (v : ℕ) (b : Bool) (os : List O) (nodes : List ℕ) → v < m.atoms
      → AreNodes limit os nodes → v ≤ least m os nodes
      → v < least m os (move_all m v b os nodes)
  rises v b [] nodes less are upto = less
  rises v b (o ∷ os) [] less are upto = absurd are
  rises v b (o ∷ os) (i ∷ nodes) less are upto =
      let one = one_later v b o i less are.0 (omega arith) in
      let more = rises v b os nodes less are.1 (omega arith) in omega arith

  -- forth: by its own bit a state stays in what the tuple says
  one_forth : (s : List Bool) (v : ℕ) (o : O) (i : ℕ) → length s ≡ m.atoms → v < m.atoms
      → i < limit o
      → truth o s (move_one m v (has_atom s (m.atom_at v)) o i) ≡ truth o s i
  one_forth s v o i size less within =
      elim (cases_eq (m.top o i) v) [
        | inl e ↦
            ap (truth o s) (moved v (has_atom s (m.atom_at v)) o i e)
            ∙ sym (t.step o s i size (is_inner o i v e less) within
            ∙ ap (λ w. truth o s (m.child o i (m.seen o w (has_atom s (m.atom_at w))))) e)
        | inr e ↦ ap (truth o s) (stayed v (has_atom s (m.atom_at v)) o i e)
      ]

  pub forth : (s : List Bool) (v : ℕ) (os : List O) (nodes : List ℕ) → length s ≡ m.atoms
      → v < m.atoms → AreNodes limit os nodes
      → AgreesWithNodes truth m.wants s os nodes
      → AgreesWithNodes truth m.wants s os (move_all m v (has_atom s (m.atom_at v)) os nodes)
  forth s v [] nodes size less are agrees = agrees
  forth s v (o ∷ os) [] size less are agrees = agrees
  forth s v (o ∷ os) (i ∷ nodes) size less are agrees =
      (one_forth s v o i size less are.0 ∙ agrees.0, forth s v os nodes size less are.1 agrees.1)

  -- back: the state before a move has the bit of the move
  one_back : (s : List Bool) (v : ℕ) (b : Bool) (o : O) (i : ℕ) → length s ≡ m.atoms → v < m.atoms
      → i < limit o → v ≤ m.top o i
      → truth o (set s (m.atom_at v) b) i ≡ truth o s (move_one m v b o i)
  one_back s v b o i size less within upto =
      elim (cases_eq (m.top o i) v) [
        | inl e ↦
            let size_set : length (set s (m.atom_at v) b) ≡ m.atoms = length-set s (m.atom_at v) b
            ∙ size in
            let inner = is_inner o i v e less in
            let at = t.place v less in
            let bit = get_or-set_same s (m.atom_at v) b false (omega arith) in
            let later = t.later o i (m.seen o v b) inner within in
            t.step o (set s (m.atom_at v) b) i size_set inner within
            ∙ (ap (λ w. truth o (set s (m.atom_at v) b)
            (m.child o i (m.seen o w (has_atom (set s (m.atom_at v) b) (m.atom_at w))))) e
            ∙ (ap (λ x. truth o (set s (m.atom_at v) b) (m.child o i (m.seen o v x))) bit
            ∙ (t.free o s (m.child o i (m.seen o v b)) v b size
            (t.within o i (m.seen o v b) inner within) (omega arith)
            ∙ ap (truth o s) (sym (moved v b o i e)))))
        | inr e ↦ t.free o s i v b size within (omega (arith, e))
            ∙ ap (truth o s) (sym (stayed v b o i e))
      ]

  pub back : (s : List Bool) (v : ℕ) (b : Bool) (os : List O) (nodes : List ℕ) → length s ≡ m.atoms
      → v < m.atoms
      → AreNodes limit os nodes → v ≤ least m os nodes
      → AgreesWithNodes truth m.wants s os (move_all m v b os nodes)
      → AgreesWithNodes truth m.wants (set s (m.atom_at v) b) os nodes
  back s v b [] nodes size less are upto agrees = agrees
  back s v b (o ∷ os) [] size less are upto agrees = agrees
  back s v b (o ∷ os) (i ∷ nodes) size less are upto agrees = (
    one_back s v b o i size less are.0 (omega arith)
        ∙ agrees.0,
    back s v b os nodes size less are.1 (omega arith) agrees.1,
  )

  pub back_fits : (s : List Bool) (v : ℕ) (b : Bool) → v < m.atoms → m.allows v b ≡ true
      → FitsBits m s → FitsBits m (set s (m.atom_at v) b)
  back_fits s v b less allowed fits = (
    length-set s (m.atom_at v) b ∙ fits.0,
    λ w within.
        elim (cases_eq w v) [
          | inl e ↦
              let at = t.place v less in
              let size = fits.0 in
              ap (λ a. m.allows a (has_atom (set s (m.atom_at v) b) (m.atom_at a))) e
              ∙ (ap (m.allows v) (get_or-set_same s (m.atom_at v) b false (omega arith)) ∙ allowed)
          | inr e ↦
              ap (m.allows w) (get_or-set_other s (m.atom_at v) (m.atom_at w) b false
              (λ same. e (t.apart w v within less same)))
              ∙ fits.1 w within
        ],
  )

  -- a tuple that some state is in is live
  one_live : (w : Bool) (i : ℕ) → (i < 2 → eqb i 1 ≡ w) → not (eqb i (cond w 0 1)) ≡ true
  one_live true zero says = let f : false ≡ true = says (omega arith) in absurd cc
  one_live true (suc i) says = ap not (ne_eqb (suc i) 0 (λ e. omega arith))
  one_live false zero says = refl
  one_live false (suc zero) says = let f : true ≡ false = says (omega arith) in absurd cc
  one_live false (suc (suc i)) says = ap not (ne_eqb (suc (suc i)) 1 (λ e. omega arith))

  pub live : (s : List Bool) (os : List O) (nodes : List ℕ) → AreNodes limit os nodes
      → AgreesWithNodes truth m.wants s os nodes
      → is_live m os nodes ≡ true
  live s [] nodes are agrees = refl
  live s (o ∷ os) [] are agrees = refl
  live s (o ∷ os) (i ∷ nodes) are agrees =
      and_from (not (eqb i (cond (m.wants o) 0 1))) (is_live m os nodes)
      (one_live (m.wants o) i (λ end. sym (t.ends o s i end are.0) ∙ agrees.0))
      (live s os nodes are.1 agrees.1)

  -- each state is in a live tuple of ends
  one_end : (w : Bool) (i : ℕ) → i < 2 → not (eqb i (cond w 0 1)) ≡ true → eqb i 1 ≡ w
  one_end true zero end says = let f : false ≡ true = says in absurd cc
  one_end true (suc zero) end says = refl
  one_end false zero end says = refl
  one_end false (suc zero) end says = let f : false ≡ true = says in absurd cc
  one_end w (suc (suc i)) end says = absurd (omega arith)

  pub ended : (s : List Bool) (os : List O) (nodes : List ℕ) → AreNodes limit os nodes
      → m.atoms ≤ least m os nodes
      → is_live m os nodes ≡ true → AgreesWithNodes truth m.wants s os nodes
  ended s [] nodes are past alive = tt
  ended s (o ∷ os) [] are past alive = tt
  ended s (o ∷ os) (i ∷ nodes) are past alive =
      let parts = and_parts (not (eqb i (cond (m.wants o) 0 1))) (is_live m os nodes) alive in
      let end : i < 2 = elim (cases_lt i 2) [
        | inl end ↦ end
        | inr inner ↦ let less = t.inner o i inner are.0 in absurd (omega arith)
      ] in (
        t.ends o s i end are.0 ∙ one_end (m.wants o) i end parts.0,
        ended s os nodes are.1
            (omega arith) parts.1,
      )

  -- what a move that goes somewhere says
  pub next_is : (os : List O) (nodes u : List ℕ) (b : Bool) → next m os nodes b ≡ Some u
      → (least m os nodes < m.atoms) × (m.allows (least m os nodes) b ≡ true)
      × (is_live m os u ≡ true) × (move_all m (least m os nodes) b os nodes ≡ u)
  next_is os nodes u b e = by (ltb (least m os nodes) m.atoms) (m.allows (least m os nodes) b)
      (is_live m os (move_all m (least m os nodes) b os nodes)) refl refl refl e
    where
      moves_to : List ℕ
      moves_to = move_all m (least m os nodes) b os nodes

      by : (p q r : Bool) → ltb (least m os nodes) m.atoms ≡ p → m.allows (least m os nodes) b ≡ q
          → is_live m os moves_to ≡ r
          → cond (p && q) (cond r (Some moves_to) None) None ≡ Some u
          → (least m os nodes < m.atoms) × (m.allows (least m os nodes) b ≡ true)
          × (is_live m os u ≡ true) × (moves_to ≡ u)
      by true true true ep eq er e =
          let same : moves_to ≡ u = cc in (
            ltb-true (least m os nodes) m.atoms ep,
            eq,
            subst
                (λ n. is_live m os n ≡ true) same er,
            same,
          )
      by true true false ep eq er e = let f : ◌≡◌ {A = Option (List ℕ)} None (Some u) = e in
          absurd cc
      by true false r ep eq er e = let f : ◌≡◌ {A = Option (List ℕ)} None (Some u) = e in absurd cc
      by false q r ep eq er e = let f : ◌≡◌ {A = Option (List ℕ)} None (Some u) = e in absurd cc

  pub next_some : (os : List O) (nodes : List ℕ) (b : Bool) → least m os nodes < m.atoms
      → m.allows (least m os nodes) b ≡ true
      → is_live m os (move_all m (least m os nodes) b os nodes) ≡ true
      → next m os nodes b ≡ Some (move_all m (least m os nodes) b os nodes)
  next_some os nodes b less allowed alive =
      cond-true (ltb (least m os nodes) m.atoms && m.allows (least m os nodes) b)
      (if_live m os (move_all m (least m os nodes) b os nodes)) None
      (and_from (ltb (least m os nodes) m.atoms) (m.allows (least m os nodes) b)
      (lt-ltb (least m os nodes) m.atoms less) allowed)
      ∙ cond-true (is_live m os (move_all m (least m os nodes) b os nodes))
      (Some (move_all m (least m os nodes) b os nodes)) None alive

  -- from a tuple that a state is in, its bits lead to a live tuple of ends
  pub complete : (bound : ℕ) (s : List Bool) (os : List O) (nodes : List ℕ)
      → m.atoms < least m os nodes + bound → FitsBits m s
      → AreNodes limit os nodes → AgreesWithNodes truth m.wants s os nodes
      → (bits : List Bool) × (u : List ℕ) × (follow m os bits (Some nodes) ≡ Some u)
      × (m.atoms ≤ least m os u)
  complete zero s os nodes few fits are agrees = let upto = least_upto os nodes in
      absurd (omega arith)
  complete (suc bound) s os nodes few fits are agrees =
      elim (cases_lt (least m os nodes) m.atoms) [
        | inl less ↦
            let b = has_atom s (m.atom_at (least m os nodes)) in
            let u = move_all m (least m os nodes) b os nodes in
            let are_u = moved_nodes (least m os nodes) b os nodes less are in
            let agrees_u = forth s (least m os nodes) os nodes fits.0 less are agrees in
            let more = rises (least m os nodes) b os nodes less are (omega arith) in
            let rest = complete bound s os u (omega arith) fits are_u agrees_u in
            let to = next_some os nodes b less (fits.1 (least m os nodes) less)
            (live s os u are_u agrees_u) in
            (b ∷ rest.0, rest.1, ap (follow m os rest.0) to ∙ rest.2, rest.3)
        | inr past ↦ ([], nodes, refl, past)
      ]

  -- a reached tuple has a node of each operand, and is live
  pub followed : (os : List O) (bits : List Bool) (o : Option (List ℕ)) (u : List ℕ)
      → follow m os bits o ≡ Some u
      → ((nodes : List ℕ) → o ≡ Some nodes → AreNodes limit os nodes × (is_live m os nodes ≡ true))
      → AreNodes limit os u × (is_live m os u ≡ true)
  followed os [] o u e first = first u e
  followed os (b ∷ bits) None u e first = let f : ◌≡◌ {A = Option (List ℕ)} None (Some u) = e in
      absurd cc
  followed os (b ∷ bits) (Some nodes) u e first =
      followed os bits (next m os nodes b) u e
      (λ n is.
      let says = next_is os nodes n b is in (
        subst (AreNodes limit os) says.3 (moved_nodes (least m os nodes) b os nodes says.0
            (first nodes refl).0),
        says.2,
      ))

  pub reached_nodes : (os : List O) (root u : List ℕ) → AreNodes limit os root
      → IsReached m os root u
      → AreNodes limit os u × (is_live m os u ≡ true)
  reached_nodes os root u are reached = followed os reached.0 (if_live m os root) u reached.1
      (λ n is. by (is_live m os root) refl n is)
    where
      by : (b : Bool) → is_live m os root ≡ b → (n : List ℕ) → cond b (Some root) None ≡ Some n
          → AreNodes limit os n × (is_live m os n ≡ true)
      by true e n is = let same : root ≡ n = cc in
          (subst (AreNodes limit os) same are, subst (λ x. is_live m os x ≡ true) same e)
      by false e n is = let f : ◌≡◌ {A = Option (List ℕ)} None (Some n) = is in absurd cc

  -- from the tuple of roots
  pub complete_from : (s : List Bool) (os : List O) (root : List ℕ) → FitsBits m s
      → AreNodes limit os root → AgreesWithNodes truth m.wants s os root
      → (u : List ℕ) × IsReached m os root u × (m.atoms ≤ least m os u)
  complete_from s os root fits are agrees =
      let rest = complete (suc m.atoms) s os root (omega arith) fits are agrees in
      let from = cond-true (is_live m os root) (Some root) None (live s os root are agrees) in
      (rest.1, (rest.0, ap (follow m os rest.0) from ∙ rest.2), rest.3)

module _ {O : Type 0} (m : Moves O) where
  -- one move more
  pub reached_next : (os : List O) (root nodes u : List ℕ) (b : Bool) → IsReached m os root nodes
      → next m os nodes b ≡ Some u
      → IsReached m os root u
  reached_next os root nodes u b reached e = by reached.0 (if_live m os root) reached.1
    where
      along : (bits : List Bool) (o : Option (List ℕ)) → follow m os bits o ≡ Some nodes
          → (more : List Bool) × (follow m os more o ≡ Some u)
      along [] o is = (b ∷ [], ap (follow m os (b ∷ [])) is ∙ e)
      along (c ∷ bits) None is = let f : ◌≡◌ {A = Option (List ℕ)} None (Some nodes) = is in
          absurd cc
      along (c ∷ bits) (Some n) is = let rest = along bits (next m os n c) is in
          (c ∷ rest.0, rest.1)

      by : (bits : List Bool) (o : Option (List ℕ)) → follow m os bits o ≡ Some nodes
          → (more : List Bool) × (follow m os more o ≡ Some u)
      by bits o is = along bits o is

  -- what has the roots and each move of its own has all that is reached
  pub reached_in : (P : List ℕ → Type 0) (os : List O) (root u : List ℕ)
      → ((n : List ℕ) → if_live m os root ≡ Some n → P n)
      → ((n w : List ℕ) (b : Bool) → P n → next m os n b ≡ Some w → P w) → IsReached m os root u
      → P u
  reached_in P os root u first closed reached = along reached.0 (if_live m os root) first reached.1
    where
      along : (bits : List Bool) (o : Option (List ℕ)) → ((n : List ℕ) → o ≡ Some n → P n)
          → follow m os bits o ≡ Some u → P u
      along [] o here is = here u is
      along (b ∷ bits) None here is = let f : ◌≡◌ {A = Option (List ℕ)} None (Some u) = is in
          absurd cc
      along (b ∷ bits) (Some n) here is = along bits (next m os n b)
          (λ w e. closed n w b (here n refl) e) is
