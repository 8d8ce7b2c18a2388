-- Operands that say nothing of any state: with their nodes and without, tuples are one to one.
use Rattle.std.proofs.Common.{◌≡◌, ℕ, ◌<◌, ◌+◌, ◌∙◌, ◌&&◌, Bool, true, false, not, List, []}
use Rattle.std.proofs.Common.{◌∷◌, Option, None, Some, cond, drop, length, get_or, map, min}
use Rattle.std.proofs.Common.{◌++◌, option_map, refl, sym, ap, subst, arith, take}
use Rattle.std.proofs.lemmas.Bool.{and_parts, cond-false, ltb-true, ne_eqb}
use Rattle.std.proofs.lemmas.List.{get_or-map, length-map, map-append, take_more}
use Rattle.std.proofs.lemmas.List.Elements.{All-map, filter-append}
use Rattle.std.specs.Prelude.{nat_eq, nat_lt}
use Rattle.hv_sets.specs.declared.finding.Finding.{Finding}
use Rattle.hv_sets.specs.declared.finding.Finding.TheVariants as F
use Rattle.hv_sets.specs.declared.operand.Operand.{Operand}
use Rattle.hv_sets.specs.declared.operand.Which.{Which}
use Rattle.hv_sets.specs.declared.operand.Which.TheVariants as W
use Rattle.hv_bdd.specs.declared.asked.Asked.{Asked}
use Rattle.hv_bdd.specs.Live.{TupleSetting, asked_of, graph_top, moves, root, roots}
use Rattle.hv_bdd.specs.Tuples.{IsReached, Moves, TuplesPass, follow, if_live, is_live, least}
use Rattle.hv_bdd.specs.Tuples.{move_all, move_one, next}
use Rattle.hv_bdd.specs.Working.Graphs.{AgreesWithNodes, IsLiveAnswer, Suits, in_asked, in_graph}
use Rattle.hv_bdd.specs.Working.Graphs.{with_marks}
use Rattle.hv_bdd.specs.Working.Search.{IsTupleSearch, TupleSearch, active, is_empty, is_idle}
use Rattle.hv_bdd.proofs.Steps.{least_below}
use Rattle.hv_bdd.proofs.Tupled.{reached_tuple}

idle_by : (w : Which) (p : Bool) → (is_empty w && not p) ≡ true → (w ≡ W.Empty) × (p ≡ false)
idle_by W.Empty false e = (refl, refl)
idle_by W.Empty true e = absurd cc
idle_by W.Start p e = absurd cc
idle_by W.Goal p e = absurd cc
idle_by (W.Set number) p e = absurd cc

-- such an operand is that no state is in the empty set
idle_is : (o : Asked) → is_idle o ≡ true → (o.which ≡ W.Empty) × (o.positive ≡ false)
idle_is o e = idle_by o.which o.positive e

-- the first number of the one list before the other, if there is a first one
put_head : List ℕ → List ℕ → List ℕ
put_head [] rest = []
put_head (i ∷ ts) rest = i ∷ rest

-- the tuple with node 0 at each of these operands
filled : List Asked → List ℕ → List ℕ
filled [] ts = []
filled (o ∷ os) ts =
    cond (is_idle o) (0 ∷ filled os ts) (put_head ts (filled os (drop 1 ts)))

-- and without what is there
cut : List Asked → List ℕ → List ℕ
cut [] us = []
cut (o ∷ os) us = cond (is_idle o) (cut os (drop 1 us)) (put_head us (cut os (drop 1 us)))

cut_filled : (os : List Asked) (ts : List ℕ) → length ts ≡ length (active os)
    → cut os (filled os ts) ≡ ts
unfolding cut put_head filled
cut_filled [] [] size = refl
cut_filled [] (i ∷ ts) size = absurd (omega arith)
cut_filled (o ∷ os) ts size = by (is_idle o) ts size (cut_filled os)
  where
    by : (t : Bool) (ts : List ℕ)
        → length ts ≡ length (cond (not t) (o ∷ active os) (active os))
        → ((us : List ℕ) → length us ≡ length (active os) → cut os (filled os us) ≡ us)
        → cond t
        (cut os (drop 1 (cond t (0 ∷ filled os ts) (put_head ts (filled os (drop 1 ts))))))
        (put_head (cond t (0 ∷ filled os ts) (put_head ts (filled os (drop 1 ts))))
        (cut os (drop 1 (cond t (0 ∷ filled os ts) (put_head ts (filled os (drop 1 ts)))))))
        ≡ ts
    by true ts size same = same ts size
    by false [] size same = refl
    by false (i ∷ ts) size same = ap (λ us. i ∷ us) (same ts (omega arith))

module _ (S : TupleSetting) where
  abbrev m : Moves Asked
  m = moves S

  top_idle : (o : Asked) → is_idle o ≡ true → m.top o 0 ≡ m.atoms
  top_idle o e = ap (λ w. graph_top S w 0) (idle_is o e).0

  least_same : (os : List Asked) (ts : List ℕ)
      → least m os (filled os ts) ≡ least m (active os) ts
  unfolding put_head filled
  least_same [] ts = refl
  least_same (o ∷ os) ts = by (is_idle o) refl ts (least_same os)
    where
      by : (t : Bool) → is_idle o ≡ t → (ts : List ℕ)
          → ((us : List ℕ) → least m os (filled os us) ≡ least m (active os) us)
          → least m (o ∷ os) (cond t (0 ∷ filled os ts) (put_head ts (filled os (drop 1 ts))))
          ≡ least m (cond (not t) (o ∷ active os) (active os)) ts
      by true e ts same =
          let top = top_idle o e in
          let rest = same ts in
          let upto = least_below m (active os) ts in
          omega (arith, top, rest, upto)
      by false e [] same = refl
      by false e (i ∷ ts) same = ap (min (m.top o i)) (same ts)

  live_same : (os : List Asked) (ts : List ℕ)
      → is_live m os (filled os ts) ≡ is_live m (active os) ts
  unfolding put_head filled
  live_same [] ts = refl
  live_same (o ∷ os) ts = by (is_idle o) refl ts (live_same os)
    where
      by : (t : Bool) → is_idle o ≡ t → (ts : List ℕ)
          → ((us : List ℕ) → is_live m os (filled os us) ≡ is_live m (active os) us)
          → is_live m (o ∷ os) (cond t (0 ∷ filled os ts) (put_head ts (filled os (drop 1 ts))))
          ≡ is_live m (cond (not t) (o ∷ active os) (active os)) ts
      by true e ts same =
          ap (λ p. not (nat_eq 0 (cond p 0 1)) && is_live m os (filled os ts)) (idle_is o e).1
          ∙ same ts
      by false e [] same = refl
      by false e (i ∷ ts) same =
          ap (λ b. not (nat_eq i (cond o.positive 0 1)) && b) (same ts)

  moved_same : (v : ℕ) (b : Bool) → v < m.atoms → (os : List Asked) (ts : List ℕ)
      → move_all m v b os (filled os ts) ≡ filled os (move_all m v b (active os) ts)
  unfolding filled put_head
  moved_same v b less [] ts = refl
  moved_same v b less (o ∷ os) ts = by (is_idle o) refl ts (moved_same v b less os)
    where
      by : (t : Bool) → is_idle o ≡ t → (ts : List ℕ)
          → ((us : List ℕ)
          → move_all m v b os (filled os us) ≡ filled os (move_all m v b (active os) us))
          → move_all m v b (o ∷ os)
          (cond t (0 ∷ filled os ts) (put_head ts (filled os (drop 1 ts))))
          ≡ cond t
          (0 ∷ filled os (move_all m v b (cond (not t) (o ∷ active os) (active os)) ts))
          (put_head (move_all m v b (cond (not t) (o ∷ active os) (active os)) ts)
          (filled os (drop 1 (move_all m v b (cond (not t) (o ∷ active os) (active os)) ts))))
      by true e ts same =
          let top = top_idle o e in
          let stays : move_one m v b o 0 ≡ 0 =
          cond-false (nat_eq (m.top o 0) v) (m.child o 0 (m.seen o v b)) 0
          (ne_eqb (m.top o 0) v (λ at. omega (arith, top, at, less))) in
          ap (λ i. i ∷ move_all m v b os (filled os ts)) stays ∙ ap (λ us. 0 ∷ us) (same ts)
      by false e [] same = refl
      by false e (i ∷ ts) same = ap (λ us. move_one m v b o i ∷ us) (same ts)

  if_live_same : (os : List Asked) (ts : List ℕ)
      → if_live m os (filled os ts) ≡ option_map (filled os) (if_live m (active os) ts)
  if_live_same os ts =
      ap (λ b. cond b (Some (filled os ts)) None) (live_same os ts)
      ∙ by (is_live m (active os) ts)
    where
      by : (b : Bool)
          → cond b (Some (filled os ts)) None ≡ option_map (filled os) (cond b (Some ts) None)
      by true = refl
      by false = refl

  next_same : (os : List Asked) (ts : List ℕ) (b : Bool)
      → next m os (filled os ts) b ≡ option_map (filled os) (next m (active os) ts b)
  next_same os ts b =
      ap (λ v. cond (nat_lt v m.atoms && m.allows v b)
      (if_live m os (move_all m v b os (filled os ts))) None) (least_same os ts)
      ∙ by (nat_lt (least m (active os) ts) m.atoms && m.allows (least m (active os) ts) b) refl
    where
      v : ℕ
      v = least m (active os) ts

      by : (t : Bool) → (nat_lt v m.atoms && m.allows v b) ≡ t
          → cond t (if_live m os (move_all m v b os (filled os ts))) None
          ≡ option_map (filled os)
          (cond t (if_live m (active os) (move_all m v b (active os) ts)) None)
      by true e =
          let less : v < m.atoms = ltb-true v m.atoms
          (and_parts (nat_lt v m.atoms) (m.allows v b) e).0 in
          ap (if_live m os) (moved_same v b less os ts)
          ∙ if_live_same os (move_all m v b (active os) ts)
      by false e = refl

  followed : (os : List Asked) (bits : List Bool) (o : Option (List ℕ))
      → follow m os bits (option_map (filled os) o)
      ≡ option_map (filled os) (follow m (active os) bits o)
  followed os [] o = refl
  followed os (b ∷ bits) None = refl
  followed os (b ∷ bits) (Some ts) =
      ap (follow m os bits) (next_same os ts b) ∙ followed os bits (next m (active os) ts b)

  roots_filled : (os : List Asked) → roots S os ≡ filled os (roots S (active os))
  unfolding filled put_head
  roots_filled [] = refl
  roots_filled (o ∷ os) = by (is_idle o) refl (roots_filled os)
    where
      by : (t : Bool) → is_idle o ≡ t → roots S os ≡ filled os (roots S (active os))
          → roots S (o ∷ os)
          ≡ cond t (0 ∷ filled os (roots S (cond (not t) (o ∷ active os) (active os))))
          (put_head (roots S (cond (not t) (o ∷ active os) (active os)))
          (filled os (drop 1 (roots S (cond (not t) (o ∷ active os) (active os))))))
      by true e same = ap (λ w. root S w ∷ roots S os) (idle_is o e).0 ∙ ap (λ us. 0 ∷ us) same
      by false e same = ap (λ us. root S o.which ∷ us) same

  start_same : (os : List Asked) → if_live m os (roots S os)
      ≡ option_map (filled os) (if_live m (active os) (roots S (active os)))
  start_same os =
      ap (if_live m os) (roots_filled os) ∙ if_live_same os (roots S (active os))

  reached_filled : (os : List Asked) (ts : List ℕ)
      → IsReached m (active os) (roots S (active os)) ts
      → IsReached m os (roots S os) (filled os ts)
  reached_filled os ts reached = (
    reached.0,
    ap (follow m os reached.0) (start_same os)
        ∙ (followed os reached.0 (if_live m (active os) (roots S (active os)))
        ∙ ap (option_map (filled os)) reached.1),
  )

  from_some : (os : List Asked) (o : Option (List ℕ)) (us : List ℕ)
      → option_map (filled os) o ≡ Some us → (ts : List ℕ) × (o ≡ Some ts) × (us ≡ filled os ts)
  from_some os None us e = absurd cc
  from_some os (Some ts) us e = (ts, refl, cc)

  -- each reached tuple is the filled one of a reached one
  reached_cut : (os : List Asked) (us : List ℕ) → IsReached m os (roots S os) us
      → (ts : List ℕ) × IsReached m (active os) (roots S (active os)) ts × (us ≡ filled os ts)
  reached_cut os us reached =
      let found = from_some os
      (follow m (active os) reached.0 (if_live m (active os) (roots S (active os)))) us
      (sym (followed os reached.0 (if_live m (active os) (roots S (active os))))
      ∙ (sym (ap (follow m os reached.0) (start_same os)) ∙ reached.1)) in
      (found.0, (reached.0, found.1), found.2)

  -- what the nodes say of a state
  agrees_filled : (s : List Bool) (os : List Asked)
      → AgreesWithNodes (in_asked S) (λ o. o.positive) s (active os) (roots S (active os))
      → AgreesWithNodes (in_asked S) (λ o. o.positive) s os (roots S os)
  agrees_filled s [] agrees = agrees
  agrees_filled s (o ∷ os) agrees = by (is_idle o) refl agrees (agrees_filled s os)
    where
      by : (t : Bool) → is_idle o ≡ t
          → AgreesWithNodes (in_asked S) (λ o. o.positive) s
          (cond (not t) (o ∷ active os) (active os))
          (roots S (cond (not t) (o ∷ active os) (active os)))
          → (AgreesWithNodes (in_asked S) (λ o. o.positive) s (active os) (roots S (active os))
          → AgreesWithNodes (in_asked S) (λ o. o.positive) s os (roots S os))
          → AgreesWithNodes (in_asked S) (λ o. o.positive) s (o ∷ os) (roots S (o ∷ os))
      by true e agrees rest = (
        ap (λ w. in_graph S w (cond o.after (with_marks S.changed s) s) (root S w))
            (idle_is o e).0 ∙ sym (idle_is o e).1,
        rest agrees,
      )
      by false e agrees rest = (agrees.0, rest agrees.1)

  agrees_cut : (s : List Bool) (os : List Asked)
      → AgreesWithNodes (in_asked S) (λ o. o.positive) s os (roots S os)
      → AgreesWithNodes (in_asked S) (λ o. o.positive) s (active os) (roots S (active os))
  agrees_cut s [] agrees = agrees
  agrees_cut s (o ∷ os) agrees = by (is_idle o) (agrees_cut s os agrees.1)
    where
      by : (t : Bool)
          → AgreesWithNodes (in_asked S) (λ o. o.positive) s (active os) (roots S (active os))
          → AgreesWithNodes (in_asked S) (λ o. o.positive) s
          (cond (not t) (o ∷ active os) (active os))
          (roots S (cond (not t) (o ∷ active os) (active os)))
      by true rest = rest
      by false rest = (agrees.0, rest)

  module _ (os : List Asked) where
    abbrev less_asked : TupleSearch
    less_asked = record { setting = S; asked = active os }

    module _ (search : IsTupleSearch less_asked) where
      cut_reached : (ts : List ℕ) → IsReached m (active os) (roots S (active os)) ts
          → cut os (filled os ts) ≡ ts
      cut_reached ts reached =
          cut_filled os ts (reached_tuple less_asked search ts reached).size

      passes_filled : (budget : ℕ) → TuplesPass m (active os) (roots S (active os)) budget
          → TuplesPass m os (roots S os) budget
      passes_filled budget pass =
          let tuples = pass.0 in
          let count = length-map tuples (filled os) in
          let size = pass.1 in (
            map (filled os) tuples,
            count ∙ size,
            All-map (IsReached m os (roots S os)) (filled os) tuples
                (λ k d less. reached_filled os (get_or tuples k d) (pass.2 k d less)),
            λ i j less within same.
                let before : i < length tuples = omega (arith, count, less, within) in
                let below : j < length tuples = omega (arith, count, within) in
                let at_i = get_or-map (filled os) tuples i [] [] before in
                let at_j = get_or-map (filled os) tuples j [] [] below in
                pass.3 i j less below
                (sym (cut_reached (get_or tuples i []) (pass.2 i [] before))
                ∙ (ap (cut os) (sym at_i ∙ (same ∙ at_j))
                ∙ cut_reached (get_or tuples j []) (pass.2 j [] below))),
          )

      passes_cut : (budget : ℕ) → TuplesPass m os (roots S os) budget
          → TuplesPass m (active os) (roots S (active os)) budget
      passes_cut budget pass =
          let tuples = pass.0 in
          let count = length-map tuples (cut os) in
          let size = pass.1 in (
            map (cut os) tuples,
            count ∙ size,
            All-map (IsReached m (active os) (roots S (active os))) (cut os) tuples
                (λ k d less.
                let found = reached_cut os (get_or tuples k d) (pass.2 k d less) in
                subst (IsReached m (active os) (roots S (active os)))
                (sym (ap (cut os) found.2 ∙ cut_reached found.0 found.1)) found.1),
            λ i j less within same.
                let before : i < length tuples = omega (arith, count, less, within) in
                let below : j < length tuples = omega (arith, count, within) in
                let at_i = get_or-map (cut os) tuples i [] [] before in
                let at_j = get_or-map (cut os) tuples j [] [] below in
                let first = reached_cut os (get_or tuples i []) (pass.2 i [] before) in
                let second = reached_cut os (get_or tuples j []) (pass.2 j [] below) in
                let one = sym (cut_reached first.0 first.1)
                ∙ (ap (cut os) (sym first.2) ∙ (sym at_i ∙ (same ∙ (at_j
                ∙ (ap (cut os) second.2 ∙ cut_reached second.0 second.1))))) in
                pass.3 i j less below (first.2 ∙ (ap (filled os) one ∙ sym second.2)),
          )

      suits_filled : (s : List Bool) → Suits S (active os) s → Suits S os s
      suits_filled s suits = (suits.0, agrees_filled s os suits.1)

      suits_cut : (s : List Bool) → Suits S os s → Suits S (active os) s
      suits_cut s suits = (suits.0, agrees_cut s os suits.1)

      -- so the answer without them is the answer
      pub answer_filled : (found : Finding) (budget : ℕ) (state : List Bool)
          → IsLiveAnswer found S (active os) budget state → IsLiveAnswer found S os budget state
      answer_filled F.Over budget state says = passes_filled budget says
      answer_filled F.Clash budget state says =
          (λ pass. says.0 (passes_cut budget pass), suits_filled state says.1)
      answer_filled F.Empty budget state says = (
        λ pass. says.0 (passes_cut budget pass),
        λ s suits. says.1 s (suits_cut s suits),
      )

-- The operands that say something, of a list that grows.

pub active_both : (first second : List Asked)
    → active (first ++ second) ≡ active first ++ active second
active_both first second = filter-append (λ o. not (is_idle o)) first second

pub active_more : (positive : Bool) (os : List Operand) (i : ℕ) (d : Operand) → i < length os
    → active (map (asked_of positive) (take (i + 1) os))
    ≡ active (map (asked_of positive) (take i os))
    ++ active (asked_of positive (get_or os i d) ∷ [])
active_more positive os i d less =
    ap (λ xs. active (map (asked_of positive) xs)) (take_more os i d less)
    ∙ (ap active (map-append (asked_of positive) (take i os) (get_or os i d ∷ []))
    ∙ active_both (map (asked_of positive) (take i os))
    (asked_of positive (get_or os i d) ∷ []))
