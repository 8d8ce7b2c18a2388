-- Clauses that are true in a cube, along its literals.
use Rattle.std.proofs.Common.{◌≡◌, ◌∙◌, ◌+◌, ◌<◌, ◌≤◌, ◌++◌, ℕ, Bool, true, false, not, List, []}
use Rattle.std.proofs.Common.{◌∷◌, length, take, get_or, set, refl, sym, ap, arith, subst, inl, inr}
use Rattle.std.proofs.lemmas.Bool.{cases_eq, cases_lt}
use Rattle.std.proofs.lemmas.List.{get_or_append_left, get_or_push, length_push}
use Rattle.std.proofs.lemmas.List.{get_or-take, get_or_default, length-take-le, take-take}
use Rattle.std.proofs.lemmas.List.{take-append-le, take_all}
use Rattle.std.proofs.lemmas.List.{get_or-set_other, get_or-set_same, length-set}
use Rattle.std.specs.List.{Contains}
use Rattle.hv_sets.specs.declared.literal.Literal.{Literal}
use Rattle.hv_sets.specs.Truth.{in_clause, in_clauses, in_literal}
use Rattle.hv_paths.specs.Along.{IsBarren}
use Rattle.hv_formula.specs.declared.arranged.Arranged.{Arranged}
use Rattle.hv_indexes.specs.Places.{clause_at}
use Rattle.hv_formula.specs.Rest.{AreTrueAlong, AreTrueUpto, IsArranged, IsReadyFor}
use Rattle.hv_formula.specs.Working.Rest.{AreTrueFrom, IsMade, KeepsUpto}
use Rattle.hv_indexes.specs.Rows.{IsRow}
use Rattle.hv_indexes.specs.Signed.{StandsAs}
use Rattle.hv_indexes.proofs.Truths.{clause_has, clauses_by, push_front, push_last}

-- A clause goes to the first place behind those that are told of, and the one that stood there
-- takes
-- its place.
module _ (count clause done at other : ℕ) (order places : List ℕ)
    (less : clause < count) (early : done ≤ at) (within : at < count) (in_other : other < count)
    (size : length order ≡ count) (room : length places ≡ count)
    (is_at : at ≡ get_or places clause 0) (is_other : other ≡ get_or order done 0)
    (back : (c : ℕ) → c < count → get_or order (get_or places c 0) 0 ≡ c) where
  abbrev new_order : List ℕ
  new_order = set (set order at other) done clause

  abbrev new_places : List ℕ
  new_places = set (set places other at) clause done

  order_size : length new_order ≡ count
  order_size = length-set (set order at other) done clause ∙ (length-set order at other ∙ size)

  places_size : length new_places ≡ count
  places_size = length-set (set places other at) clause done ∙ (length-set places other at ∙ room)

  order_done : (k : ℕ) → k ≡ done → get_or new_order k 0 ≡ clause
  order_done k e = ap (λ n. get_or new_order n 0) e
      ∙ get_or-set_same (set order at other) done clause 0
      (omega (arith, early, within, size, length-set order at other))

  order_at : (k : ℕ) → (k ≡ done → ⊥) → k ≡ at → get_or new_order k 0 ≡ other
  order_at k not_done e = get_or-set_other (set order at other) done k clause 0 not_done
      ∙ (ap (λ n. get_or (set order at other) n 0) e
      ∙ get_or-set_same order at other 0 (omega (arith, within, size)))

  order_else : (k : ℕ) → (k ≡ done → ⊥) → (k ≡ at → ⊥)
      → get_or new_order k 0 ≡ get_or order k 0
  order_else k not_done not_at = get_or-set_other (set order at other) done k clause 0 not_done
      ∙ get_or-set_other order at k other 0 not_at

  places_clause : (c : ℕ) → c ≡ clause → get_or new_places c 0 ≡ done
  places_clause c e = ap (λ n. get_or new_places n 0) e
      ∙ get_or-set_same (set places other at) clause done 0
      (omega (arith, less, room, length-set places other at))

  places_other : (c : ℕ) → (c ≡ clause → ⊥) → c ≡ other → get_or new_places c 0 ≡ at
  places_other c not_clause e = get_or-set_other (set places other at) clause c done 0 not_clause
      ∙ (ap (λ n. get_or (set places other at) n 0) e
      ∙ get_or-set_same places other at 0 (omega (arith, in_other, room)))

  places_else : (c : ℕ) → (c ≡ clause → ⊥) → (c ≡ other → ⊥)
      → get_or new_places c 0 ≡ get_or places c 0
  places_else c not_clause not_other =
      get_or-set_other (set places other at) clause c done 0 not_clause
      ∙ get_or-set_other places other c at 0 not_other

  at_order : get_or order at 0 ≡ clause
  at_order = ap (λ n. get_or order n 0) is_at ∙ back clause less

  new_back : (c : ℕ) → c < count → get_or new_order (get_or new_places c 0) 0 ≡ c
  new_back c few = elim (cases_eq c clause) [
    | inl same ↦ order_done (get_or new_places c 0) (places_clause c same) ∙ sym same
    | inr not_clause ↦ elim (cases_eq c other) [
      | inl same ↦
          let here = places_other c not_clause same in
          order_at (get_or new_places c 0)
          (λ e. not_clause (same ∙ (is_other
          ∙ (ap (λ n. get_or order n 0) (sym e ∙ here) ∙ at_order)))) here
          ∙ sym same
      | inr not_other ↦
          let here = places_else c not_clause not_other in
          order_else (get_or new_places c 0)
          (λ e. not_other (sym (back c few)
          ∙ (ap (λ n. get_or order n 0) (sym here ∙ e) ∙ sym is_other)))
          (λ e. not_clause (sym (back c few)
          ∙ (ap (λ n. get_or order n 0) (sym here ∙ e) ∙ at_order)))
          ∙ (ap (λ n. get_or order n 0) here ∙ back c few)
    ]
  ]

  new_below : ((k : ℕ) → k < count → get_or order k 0 < count)
      → (k : ℕ) → k < count → get_or new_order k 0 < count
  new_below below k few = elim (cases_eq k done) [
    | inl same ↦ subst (λ n. n < count) (sym (order_done k same)) less
    | inr not_done ↦ elim (cases_eq k at) [
      | inl same ↦ subst (λ n. n < count) (sym (order_at k not_done same)) in_other
      | inr not_at ↦ subst (λ n. n < count) (sym (order_else k not_done not_at)) (below k few)
    ]
  ]

  new_within : ((c : ℕ) → c < count → get_or places c 0 < count)
      → (c : ℕ) → c < count → get_or new_places c 0 < count
  new_within old c few = elim (cases_eq c clause) [
    | inl same ↦ subst (λ n. n < count) (sym (places_clause c same)) (omega (arith, early, within))
    | inr not_clause ↦ elim (cases_eq c other) [
      | inl same ↦ subst (λ n. n < count) (sym (places_other c not_clause same)) within
      | inr not_other ↦
          subst (λ n. n < count) (sym (places_else c not_clause not_other)) (old c few)
    ]
  ]

  pub moved_up : (new : Arranged) → count ≤ 4294967295
      → ((k : ℕ) → k < count → get_or order k 0 < count)
      → ((c : ℕ) → c < count → get_or places c 0 < count)
      → new.order.items ≡ new_order → new.places.items ≡ new_places → new.done ≡ done + 1
      → IsArranged count new
  moved_up new fits below old is_order is_places is_done = record {
    fits = fits;
    size = ap length is_order ∙ order_size;
    room = ap length is_places ∙ places_size;
    few = omega (arith, is_done, early, within);
    below = subst (λ xs. (k : ℕ) → k < count → get_or xs k 0 < count) (sym is_order)
        (new_below below);
    within = subst (λ xs. (c : ℕ) → c < count → get_or xs c 0 < count) (sym is_places)
        (new_within old);
    back = λ c few. ap (λ xs. get_or xs (get_or new.places.items c 0) 0) is_order
        ∙ (ap (λ xs. get_or new_order (get_or xs c 0) 0) is_places ∙ new_back c few);
  }

-- one more clause of a list is told of
pub more_told : (clauses old new : List ℕ) (start old_done new_done clause : ℕ)
    → start ≤ old_done → Contains clauses clause
    → ((k : ℕ) → start ≤ k → k < old_done → Contains clauses (get_or old k 0))
    → KeepsUpto old_done old new
    → ((k : ℕ) → old_done ≤ k → k < new_done → get_or new k 0 ≡ clause)
    → (k : ℕ) → start ≤ k → k < new_done → Contains clauses (get_or new k 0)
more_told clauses old new start old_done new_done clause up has told keeps more k from upto =
    elim (cases_lt k old_done) [
      | inl early ↦ subst (λ c. Contains clauses c) (sym (keeps k early)) (told k from early)
      | inr late ↦ subst (λ c. Contains clauses c) (sym (more k late upto)) has
    ]

module _ (clauses : List (List Literal)) where
  upto_same : (cube : List Literal) (old new : List ℕ) (done upto : ℕ) → upto ≤ done
      → KeepsUpto done old new → AreTrueUpto clauses cube old upto
      → AreTrueUpto clauses cube new upto
  upto_same cube old new done upto few keeps is k less s h =
      ap (λ c. in_clause (clause_at clauses c) s) (keeps k (omega (arith, less, few)))
      ∙ is k less s h

  -- all clauses are true in the cube
  pub barren_all : (atoms : ℕ) (wanted : List Bool → Bool) (ls : List Literal)
      (arranged : Arranged) → IsArranged (length clauses) arranged
      → length clauses ≤ arranged.done → AreTrueUpto clauses ls arranged.order.items arranged.done
      → ((s : List Bool) → wanted s ≡ not (in_clauses clauses s))
      → IsBarren atoms wanted ls
  barren_all atoms wanted ls arranged is past upto only s of h =
      only s ∙ ap not (clauses_by s clauses (λ c less.
      ap (λ x. in_clause (clause_at clauses x) s) (sym (is.back c less))
      ∙ upto (get_or arranged.places.items c 0)
      (omega (arith, is.within c less, past)) s h))

  -- clauses that have the literal are told of
  pub true_from : (l own : Literal) (places order : List ℕ) (from upto : ℕ) → own ≡ l
      → IsRow (StandsAs own.positive clauses) own.atom places
      → ((k : ℕ) → from ≤ k → k < upto → Contains places (get_or order k 0))
      → AreTrueFrom clauses l order from upto
  true_from l own places order from upto same row has k late less s h =
      let stands = (row.has (get_or order k 0)).0 (has k late less) in
      clause_has s (clause_at clauses (get_or order k 0)) own stands.has
      (ap (λ x. in_literal x s) same ∙ h)

  -- nothing is assumed
  pub along_first : (ls : List Literal) (order points : List ℕ) (done : ℕ) → length ls ≡ 0
      → length points ≡ 0 → AreTrueUpto clauses [] order done
      → AreTrueAlong clauses ls order points done
  along_first ls order points done none empty upto = record {
    sizes = empty ∙ sym none;
    rises = λ i j up less. absurd (omega (arith, less, empty));
    within = λ i less. absurd (omega (arith, less, empty));
    before = λ i less. absurd (omega (arith, less, empty));
    here = λ k less s h. upto k less s refl;
  }

  -- the list is made
  pub along_made : (ls : List Literal) (old new : Arranged) (points : List ℕ) (ready : Bool)
      → (ready ≡ false → length ls ≡ 0) → IsMade clauses ready old new
      → AreTrueAlong clauses ls old.order.items points old.done
      → AreTrueAlong clauses ls new.order.items points new.done
  along_made ls old new points ready first made is = elim made [
    | inl before ↦
        subst (λ (a : Arranged). AreTrueAlong clauses ls a.order.items points a.done)
        (sym (before.1)) is
    | inr now ↦
        along_first ls new.order.items points new.done (first (now.0))
        (is.sizes ∙ first (now.0)) (now.1)
  ]

  -- one more clause is told of, that is true in each state
  pub upto_more : (cube : List Literal) (old new : List ℕ) (done more clause : ℕ)
      → ((s : List Bool) → in_clause (clause_at clauses clause) s ≡ true)
      → KeepsUpto done old new
      → ((k : ℕ) → done ≤ k → k < more → get_or new k 0 ≡ clause)
      → AreTrueUpto clauses cube old done → AreTrueUpto clauses cube new more
  upto_more cube old new done more clause always keeps at is k less s h =
      elim (cases_lt k done) [
        | inl early ↦ upto_same cube old new done done (omega arith) keeps is k early s h
        | inr late ↦ ap (λ c. in_clause (clause_at clauses c) s) (at k late less) ∙ always s
      ]

  -- one more literal is assumed, and clauses that have it are told of
  pub along_more : (ls : List Literal) (l : Literal) (old new points : List ℕ) (done more : ℕ)
      → AreTrueAlong clauses ls old points done → KeepsUpto done old new → done ≤ more
      → AreTrueFrom clauses l new done more
      → AreTrueAlong clauses (ls ++ l ∷ []) new (points ++ done ∷ []) more
  along_more ls l old new points done more is keeps grows has = record {
    sizes = size ∙ (ap (λ n. n + 1) is.sizes ∙ sym (length_push ls l));
    rises = λ i j up less. elim (cases_lt j (length points)) [
      | inl early ↦ omega (
        arith,
        is.rises i j up early,
        front i (omega
            (arith, up, early)),
        front j early,
      )
      | inr late ↦ elim (cases_lt i (length points)) [
        | inl early ↦ omega (
          arith,
          is.within i early,
          front i early,
          last j (omega
              (arith, late, less, size)),
        )
        | inr both ↦ omega (
          arith,
          last i (omega (arith, both, up, less, size)),
          last j (omega
              (arith, late, less, size)),
        )
      ]
    ];
    within = λ i less. elim (cases_lt i (length points)) [
      | inl early ↦ omega (arith, is.within i early, front i early, grows)
      | inr late ↦ omega (arith, last i (omega (arith, late, less, size)), grows)
    ];
    before = λ i less. elim (cases_lt i (length points)) [
      | inl early ↦
          subst (λ n. AreTrueUpto clauses (take i (ls ++ l ∷ [])) new n) (sym (front i early))
          (subst (λ xs. AreTrueUpto clauses xs new (get_or points i 0))
          (sym (take-append-le i ls (l ∷ []) (omega (arith, early, is.sizes))))
          (upto_same (take i ls) old new done (get_or points i 0) (is.within i early) keeps
          (is.before i early)))
      | inr late ↦
          let end : i ≡ length points = omega (arith, late, less, size) in
          subst (λ n. AreTrueUpto clauses (take i (ls ++ l ∷ [])) new n) (sym (last i end))
          (subst (λ xs. AreTrueUpto clauses xs new done)
          (sym (take-append-le i ls (l ∷ []) (omega (arith, late, less, size, is.sizes))
          ∙ take_all i ls (omega (arith, late, is.sizes))))
          (upto_same ls old new done done (omega arith) keeps is.here))
    ];
    here = λ k less s h. elim (cases_lt k done) [
      | inl early ↦ upto_same ls old new done done (omega arith) keeps is.here k early s
          (push_front s ls l h)
      | inr late ↦ has k late less s (push_last s ls l h)
    ];
  }
    where
      size : length (points ++ done ∷ []) ≡ length points + 1
      size = length_push points done

      front : (i : ℕ) → i < length points → get_or (points ++ done ∷ []) i 0 ≡ get_or points i 0
      front i early = get_or_append_left points (done ∷ []) 0 i early

      last : (i : ℕ) → i ≡ length points → get_or (points ++ done ∷ []) i 0 ≡ done
      last i end = get_or_push points done 0 i (sym end)

-- what is told of along literals, once those from a place on are taken back
module _ (clauses : List (List Literal)) (ls : List Literal) (order points : List ℕ)
    (done depth at : ℕ) (along : AreTrueAlong clauses ls order points done)
    (less : depth < length ls) (is : at ≡ get_or points depth at) where
  at_is : get_or points depth 0 ≡ at
  at_is = let sizes = along.sizes in
      get_or_default points depth 0 at (omega (arith, less, sizes)) ∙ sym is

  pub at_within : at ≤ done
  at_within = let sizes = along.sizes in
      subst (λ n. n ≤ done) at_is (along.within depth (omega (arith, less, sizes)))

  pub along_back : AreTrueAlong clauses (take depth ls) order (take depth points) at
  along_back =
      let sizes = along.sizes in
      let short : length (take depth points) ≡ depth =
      length-take-le depth points (omega (arith, less, sizes)) in
      let few : length (take depth ls) ≡ depth = length-take-le depth ls (omega (arith, less)) in
      record {
        sizes = short ∙ sym few;
        rises = λ i j up below.
            let early : j < depth = omega (arith, below, short) in
            subst (λ n. n ≤ get_or (take depth points) j 0)
            (sym (get_or-take depth points i 0 (omega (arith, up, early))))
            (subst (λ n. get_or points i 0 ≤ n) (sym (get_or-take depth points j 0 early))
            (along.rises i j up (omega (arith, early, less, sizes))));
        within = λ i below.
            let early : i < depth = omega (arith, below, short) in
            subst (λ n. n ≤ at) (sym (get_or-take depth points i 0 early))
            (subst (λ n. get_or points i 0 ≤ n) at_is
            (along.rises i depth (omega (arith, early)) (omega (arith, less, sizes))));
        before = λ i below.
            let early : i < depth = omega (arith, below, short) in
            subst (λ cube. AreTrueUpto clauses cube order (get_or (take depth points) i 0))
            (sym (take-take i depth ls (omega (arith, early))))
            (subst (λ n. AreTrueUpto clauses (take i ls) order n)
            (sym (get_or-take depth points i 0 early))
            (along.before i (omega (arith, early, less, sizes))));
        here = subst (λ n. AreTrueUpto clauses (take depth ls) order n) at_is
            (along.before depth (omega (arith, less, sizes)));
      }

-- and the list stays made
pub ready_back : (clauses : List (List Literal)) (ls : List Literal) (ready : Bool)
    (arranged : Arranged) (depth at : ℕ) → depth < length ls → at ≤ arranged.done
    → IsReadyFor clauses ls ready arranged
    → IsReadyFor clauses (take depth ls) ready
    (record { order = arranged.order; places = arranged.places; done = at })
ready_back clauses ls ready arranged depth at less within is = record {
  made = λ e.
      let made = is.made e in
      let few = made.few in
      record {
        fits = made.fits;
        size = made.size;
        room = made.room;
        few = omega (arith, within, few);
        below = made.below;
        within = made.within;
        back = made.back;
      };
  first = λ e. let none = is.first e in absurd (omega (arith, none, less));
}
