-- Cubes: where the literal of an atom stands, and a literal put in.
use Rattle.std.proofs.Common.{◌≡◌, ℕ, ◌-◌, ◌<◌, ◌≤◌, ◌∙◌, ◌⊎◌, ◌↔◌, Bool, true, false, not, List}
use Rattle.std.proofs.Common.{[], ◌∷◌, ◌++◌, length, get_or, take, drop, refl, sym, ap, ap₂, arith}
use Rattle.std.proofs.Common.{ltb, ltb-true, ltb-false, if◌then◌else◌, inl, inr, Ok, Err, subst}
use Rattle.std.proofs.lemmas.Bool.{cases_lt, cases_order, false_from_ne_true}
use Rattle.std.proofs.lemmas.List.{get_or_default, get_or-map, length-map, map-append}
use Rattle.std.proofs.lemmas.List.{take-append-drop, take-map, drop-map}
use Rattle.std.proofs.lemmas.List.Edits.{get_or-insert_at, length-insert}
use Rattle.std.proofs.lemmas.List.Elements.{Contains-append_left, Contains-append_right}
use Rattle.std.proofs.lemmas.List.Elements.{Contains-append_cases, Contains-push_cases}
use Rattle.std.proofs.Math.Bool.{beq}
use Rattle.std.specs.Cmp.{booleans_Decides}
use Rattle.std.specs.List.{Contains, insert}
use Rattle.std.specs.List.Sorted.{IsStrictlyIncreasing, IsNonDecreasingBy, IsPartitionPoint}
use Rattle.hv_task.specs.Working.AtomList.{IsPlaceOf}
use Rattle.hv_task.proofs.Rising.{rises_apart, Inserts-insert}
use Rattle.hv_sets.specs.declared.literal.Literal.{Literal}
use Rattle.hv_sets.specs.Cubes.{Adds, atoms_of, opposite}
use Rattle.hv_sets.specs.Working.Cubes.{IsFirstUpto}

-- where the atom at the first place that isn't less is another one, the atom is absent
pub place_absent : (atoms : List ℕ) (atom place : ℕ) → IsStrictlyIncreasing atoms
    → IsFirstUpto atoms atom place
    → (place < length atoms → get_or atoms place 0 ≡ atom → ⊥) → IsPlaceOf atoms atom (Err place)
place_absent atoms atom place rises first other = (
  first.0,
  first.1,
  λ k from within.
      elim (cases_order place k) [
        | inl same ↦
            let upto = first.2 k from within in
            let at = ap (λ j. get_or atoms j 0) same in
            let apart : get_or atoms place 0 ≡ atom → ⊥ = other (omega (arith, same)) in
            elim (cases_lt atom (get_or atoms k 0)) [
              | inl less ↦ less
              | inr back ↦ absurd (apart (omega arith))
            ]
        | inr (inl later) ↦
            let here = first.2 place (omega arith) (omega arith) in
            let more = rises_apart atoms place k rises later within in omega arith
        | inr (inr earlier) ↦ absurd (omega arith)
      ],
)

-- the atom of the literal at a place
pub atom_at : (xs : List Literal) (k : ℕ) (d : Literal) → k < length xs
    → get_or (atoms_of xs) k 0 ≡ (get_or xs k d).atom
atom_at xs k d within = get_or-map (λ l. l.atom) xs k d 0 within

module _ (xs : List Literal) (l : Literal) (place : ℕ) where
  -- the atoms after a literal was put in
  atoms_insert : atoms_of (insert xs place l) ≡ insert (atoms_of xs) place l.atom
  atoms_insert =
      map-append (λ l. l.atom) (take place xs) (l ∷ drop place xs)
      ∙ ap₂ (λ a b. a ++ l.atom ∷ b) (sym (take-map (λ l. l.atom) place xs))
      (sym (drop-map (λ l. l.atom) place xs))

  module _ (rises : IsStrictlyIncreasing (atoms_of xs))
      (fits : IsPlaceOf (atoms_of xs) l.atom (Err place)) where
    within : place ≤ length xs
    within = let size = length-map xs (λ (l : Literal). l.atom) in omega (arith, fits.0)

    -- the literals after it was put in
    has_insert : (a : Literal) → Contains (insert xs place l) a ↔ (Contains xs a ⊎ (a ≡ l))
    has_insert a = (
      λ c. elim (Contains-append_cases (take place xs) (l ∷ drop place xs) a c) [
        | inl front ↦ inl (subst (λ ys. Contains ys a) (take-append-drop place xs)
            (Contains-append_left (take place xs) (drop place xs) a front))
        | inr back ↦
            elim (Contains-append_cases (l ∷ []) (drop place xs) a back) [
              | inl alone ↦ elim (Contains-push_cases [] l a alone)
                  [ inl none ↦ absurd (omega (arith, none.1)) | inr e ↦ inr (sym e) ]
              | inr rest ↦ inl (subst (λ ys. Contains ys a) (take-append-drop place xs)
                  (Contains-append_right (take place xs) (drop place xs) a rest))
            ]
      ],
      λ e. elim e [
        | inl old ↦
            let parts : Contains (take place xs ++ drop place xs) a = subst
            (λ ys. Contains ys a) (sym (take-append-drop place xs)) old in
            elim (Contains-append_cases (take place xs) (drop place xs) a parts) [
              | inl front ↦ Contains-append_left (take place xs) (l ∷ drop place xs) a front
              | inr back ↦ Contains-append_right (take place xs) (l ∷ drop place xs) a
                  (Contains-append_right (l ∷ []) (drop place xs) a back)
            ]
        | inr same ↦ (
          place,
          omega (arith, length-insert xs place l within, within),
          get_or-insert_at xs
              place l a within ∙ sym same,
        )
      ],
    )

    pub rises_insert : IsStrictlyIncreasing (atoms_of (insert xs place l))
    rises_insert = subst IsStrictlyIncreasing (sym atoms_insert)
        (Inserts-insert (atoms_of xs) l.atom place rises fits).rises

    -- it is put in
    pub Adds-insert : Adds xs l (insert xs place l)
    Adds-insert = record { rises = rises_insert; has = has_insert }

    -- and no literal of its atom was there
    pub none_of_atom : (m : Literal) → m.atom ≡ l.atom → Contains xs m → ⊥
    none_of_atom m one_atom c =
        let size = length-map xs (λ (l : Literal). l.atom) in
        let at : get_or (atoms_of xs) c.0 0 ≡ l.atom = atom_at xs c.0 m c.1
        ∙ (ap (λ m. m.atom) c.2 ∙ one_atom) in
        elim (cases_lt c.0 place) [
          | inl less ↦ let below = fits.1 c.0 less in absurd (omega arith)
          | inr upto ↦ let above = fits.2 c.0 upto (omega (arith, c.1)) in absurd (omega arith)
        ]

    -- so not the opposite one
    pub no_opposite : Contains xs (opposite l) → ⊥
    no_opposite c = none_of_atom (opposite l) refl c

  module _ (rises : IsStrictlyIncreasing (atoms_of xs))
      (fits : IsPlaceOf (atoms_of xs) l.atom (Ok place)) (here : Literal)
      (is : get_or xs place here ≡ here) where
    stands : place < length xs
    stands = let size = length-map xs (λ (l : Literal). l.atom) in omega (arith, fits.0)

    same_atom : here.atom ≡ l.atom
    same_atom = ap (λ m. m.atom) (sym is) ∙ (sym (atom_at xs place here stands) ∙ fits.1)

    -- a literal of the same atom is the one at the place
    only : (a : Literal) → a.atom ≡ l.atom → Contains xs a → here ≡ a
    only a e c =
        let size = length-map xs (λ (l : Literal). l.atom) in
        let at : get_or (atoms_of xs) c.0 0 ≡ l.atom = atom_at xs c.0 a c.1
        ∙ (ap (λ m. m.atom) c.2 ∙ e) in
        elim (cases_order c.0 place) [
          | inl same ↦
              sym is ∙ (get_or_default xs place here a stands
              ∙ (ap (λ k. get_or xs k a) (sym same) ∙ c.2))
          | inr (inl less) ↦ let apart = rises_apart (atoms_of xs) c.0 place rises less fits.0 in
              absurd (omega (arith, fits.1))
          | inr (inr more) ↦ let apart = rises_apart (atoms_of xs) place c.0 rises more
              (omega (arith, c.1)) in absurd (omega (arith, fits.1))
        ]

    -- the opposite is there exactly where the signs differ
    pub opposite_there : (here.positive ≡ l.positive → ⊥) → Contains xs (opposite l)
    opposite_there differ =
        let sign : here.positive ≡ not l.positive = differs here.positive l.positive differ in
        let same : here ≡ opposite l = λ i. record { atom = same_atom i; positive = sign i } in
        (place, stands, get_or_default xs place (opposite l) here stands ∙ (is ∙ same))
      where
        differs : (a b : Bool) → (a ≡ b → ⊥) → a ≡ not b
        differs true true f = absurd (f refl)
        differs true false f = refl
        differs false true f = refl
        differs false false f = absurd (f refl)

    pub opposite_not_there : here.positive ≡ l.positive → Contains xs (opposite l) → ⊥
    opposite_not_there sign c =
        clash l.positive (sym sign ∙ ap (λ m. m.positive) (only (opposite l) refl c))
      where
        clash : (b : Bool) → b ≡ not b → ⊥
        clash true e = let f : true ≡ false = e in absurd cc
        clash false e = let f : false ≡ true = e in absurd cc

    -- so a test of the signs tells whether the opposite is there
    pub opposite_test : (beq here.positive l.positive ≡ false) ↔ Contains xs (opposite l)
    opposite_test = (
      λ e. opposite_there (λ same. let t = (booleans_Decides here.positive l.positive).1 same in
          absurd cc),
      λ there. false_from_ne_true (beq here.positive l.positive)
          (λ t. opposite_not_there ((booleans_Decides here.positive l.positive).0 t) there),
    )

-- they rise whether the literal was put in or not
pub rises_either : (done : Bool) (xs : List Literal) (l : Literal) (place : ℕ) (new : List Literal)
    → IsStrictlyIncreasing (atoms_of xs)
    → IsPlaceOf (atoms_of xs) l.atom (Err place) → new ≡ (if done then insert xs place l else xs)
    → IsStrictlyIncreasing (atoms_of new)
rises_either true xs l place new rises fits e =
    subst (λ ys. IsStrictlyIncreasing (atoms_of ys)) (sym e) (rises_insert xs l place rises fits)
rises_either false xs l place new rises fits e = subst
    (λ ys. IsStrictlyIncreasing (atoms_of ys)) (sym e) rises

-- where the atoms rise none is less than one before it
pub never_falls : (xs : List Literal) → IsStrictlyIncreasing (atoms_of xs)
    → IsNonDecreasingBy (λ l. l.atom) xs
never_falls xs rises i j d upto within =
    let size = length-map xs (λ (l : Literal). l.atom) in
    let at_i = atom_at xs i d (omega (arith, within)) in
    let at_j = atom_at xs j d within in
    elim (cases_lt i j) [
      | inl less ↦ let apart = rises_apart (atoms_of xs) i j rises less (omega arith) in omega arith
      | inr back ↦ let same : i ≡ j = omega arith in
          let e = ap (λ k. get_or (atoms_of xs) k 0) same in omega arith
    ]

-- from the point where the test "less" turns
pub first_from_point : (xs : List Literal) (atom place : ℕ) → place ≤ length xs
    → IsPartitionPoint (λ (l : Literal). ltb l.atom atom ≡ true)
    (λ (l : Literal). ltb l.atom atom ≡ false) xs place
    → IsFirstUpto (atoms_of xs) atom place
first_from_point xs atom place bound point =
    let size = length-map xs (λ (l : Literal). l.atom) in (
      omega arith,
      λ k before.
          let d : Literal = record { atom = 0; positive = false } in
          let at = atom_at xs k d (omega arith) in
          let less = ltb-true _ _ (point.0 k d (omega arith) before) in omega arith,
      λ k from within.
          let d : Literal = record { atom = 0; positive = false } in
          let at = atom_at xs k d (omega arith) in
          let upto = ltb-false _ _ (point.1 k d from (omega arith)) in omega arith,
    )

-- where the last atom is less, all are
pub all_less : (xs : List Literal) (last : Literal) (atom : ℕ) → IsStrictlyIncreasing (atoms_of xs)
    → (0 < length xs) × (last ≡ get_or xs (length xs - 1) last) → last.atom < atom
    → IsFirstUpto (atoms_of xs) atom (length xs)
all_less xs last atom rises ends less =
    let size = length-map xs (λ (l : Literal). l.atom) in
    let some = ends.0 in
    let at : get_or (atoms_of xs) (length xs - 1) 0 ≡ last.atom =
    atom_at xs (length xs - 1) last (omega arith) ∙ ap (λ (l : Literal). l.atom) (sym ends.1) in
    let each : (k : ℕ) → k < length xs → get_or (atoms_of xs) k 0 < atom =
    λ k within. elim (cases_lt k (length xs - 1)) [
      | inl before ↦ let apart = rises_apart (atoms_of xs) k (length xs - 1) rises before
          (omega arith) in omega arith
      | inr here ↦ let same : k ≡ length xs - 1 = omega arith in
          let e = ap (λ j. get_or (atoms_of xs) j 0) same in omega arith
    ] in
    (omega arith, each, λ k from within. absurd (omega arith))
