-- The cube that denies a clause, put together literal by literal.
use Rattle.std.proofs.Common.{◌≡◌, ℕ, zero, suc, ◌+◌, ◌<◌, ◌≤◌, ◌∙◌, ◌↔◌, Bool, true, false, not}
use Rattle.std.proofs.Common.{if◌then◌else◌, List, [], ◌∷◌, ◌++◌, length, get_or, take, drop, map}
use Rattle.std.proofs.Common.{Option, None, Some, refl, sym, ap, arith, inl, inr, subst}
use Rattle.std.proofs.lemmas.Bool.{cases_lt, cases_order, false_from_ne_true}
use Rattle.std.proofs.lemmas.List.{ext_get_or, get_or_default, get_or-map, get_or_push}
use Rattle.std.proofs.lemmas.List.{get_or_append_left, length-map, length_push, map-append}
use Rattle.std.proofs.lemmas.List.{append-nil, drop_more, take-append-drop, take_all, take_more}
use Rattle.std.proofs.lemmas.List.Elements.{All-contains, Contains-append_left, Contains-get_or}
use Rattle.std.proofs.lemmas.List.Elements.{Contains-push, Contains-push_cases}
use Rattle.std.specs.List.{Contains}
use Rattle.std.specs.List.Sorted.{IsStrictlyIncreasing}
use Rattle.hv_task.specs.State.{AreBelow}
use Rattle.hv_task.proofs.Rising.{rises_apart, same_rising}
use Rattle.hv_sets.specs.declared.literal.Literal.{Literal}
use Rattle.hv_sets.specs.Cubes.{Adds, SpeakBelow, atoms_of, opposite}
use Rattle.hv_sets.proofs.Cubes.{atom_at}
use Rattle.hv_propagation.specs.Clauses.{AreClauses}
use Rattle.hv_formula.specs.Denial.{bound_of, denial, denial_at, denial_below, is_tautology}
use Rattle.hv_formula.specs.Denial.{names_literal, denial_step}
use Rattle.hv_formula.specs.Working.Laws.{below_has, denied, opposite_twice, opposites}
use Rattle.hv_formula.specs.Working.Laws.{tautology_from, tautology_has}

-- a greater atom at the end keeps a list rising
rises-push : (xs : List ℕ) (n : ℕ) → IsStrictlyIncreasing xs → AreBelow n xs
    → IsStrictlyIncreasing (xs ++ n ∷ [])
rises-push xs n rises below k within =
    let size = length_push xs n in
    let here : get_or (xs ++ n ∷ []) k 0 ≡ get_or xs k 0 = get_or_append_left xs (n ∷ []) 0 k
    (omega arith) in
    elim (cases_lt (k + 1) (length xs)) [
      | inl less ↦
          let next : get_or (xs ++ n ∷ []) (k + 1) 0
          ≡ get_or xs (k + 1) 0 = get_or_append_left xs (n ∷ []) 0 (k + 1) less in
          let rise = rises k less in omega arith
      | inr last ↦
          let next : get_or (xs ++ n ∷ []) (k + 1) 0
          ≡ n = get_or_push xs n 0 (k + 1) (omega arith) in
          let less = below k 0 (omega arith) in omega arith
    ]

-- the atoms of the literals in a denial
below_atoms : (n : ℕ) (clause : List Literal) → AreBelow n (atoms_of (denial_below n clause))
below_atoms n clause k d within =
    let size = length-map (denial_below n clause) (λ (l : Literal). l.atom) in
    let e : Literal = record { atom = d; positive = false } in
    let at = get_or-map (λ (l : Literal). l.atom) (denial_below n clause) k e d (omega arith) in
    let less = (below_has clause n (get_or (denial_below n clause) k e)
    (Contains-get_or (denial_below n clause) k e (omega arith))).0 in
    omega arith

rises_more : (first_sign second_sign : Bool) (n : ℕ) (xs : List ℕ) → IsStrictlyIncreasing xs
    → AreBelow n xs
    → IsStrictlyIncreasing (xs ++ atoms_of (opposites first_sign second_sign n))
rises_more true second_sign n xs rises below = rises-push xs n rises below
rises_more false true n xs rises below = rises-push xs n rises below
rises_more false false n xs rises below = subst IsStrictlyIncreasing (sym (append-nil xs)) rises

pub denial_rises : (n : ℕ) (clause : List Literal)
    → IsStrictlyIncreasing (atoms_of (denial_below n clause))
denial_rises zero clause = λ k within. absurd (omega arith)
denial_rises (suc n) clause =
    subst IsStrictlyIncreasing (sym (map-append
    (λ (l : Literal). l.atom) (denial_below n clause) (denial_at n clause)))
    (rises_more (names_literal clause n true) (names_literal clause n false) n
    (atoms_of (denial_below n clause))
    (denial_rises n clause)
    (below_atoms n clause))

-- it speaks of the atoms of the clause alone
pub denial_speaks : (n : ℕ) (clause : List Literal) → SpeakBelow n clause
    → SpeakBelow n (denial clause)
denial_speaks n clause speaks k d within =
    let a = get_or (denial clause) k d in
    let source = below_has clause (bound_of clause) a
    (Contains-get_or (denial clause) k d within) in
    All-contains (λ (l : Literal). l.atom < n) clause (opposite a) speaks source.1

-- the atom of a literal is among the atoms
has_its_atom : (xs : List Literal) (l : Literal) → Contains xs l → Contains (atoms_of xs) l.atom
has_its_atom xs l c =
    let size = length-map xs (λ (l : Literal). l.atom) in (
      c.0,
      omega (arith, c.1),
      get_or-map (λ (l : Literal). l.atom) xs c.0 l l.atom c.1
          ∙ ap (λ (m : Literal). m.atom) c.2,
    )

literal_of : (xs : List Literal) (a : ℕ) → Contains (atoms_of xs) a
    → (l : Literal) × Contains xs l × (l.atom ≡ a)
literal_of xs a c =
    let size = length-map xs (λ (l : Literal). l.atom) in
    let d : Literal = record { atom = a; positive = false } in
    let within : c.0 < length xs = omega (arith, c.1) in (
      get_or xs c.0 d,
      Contains-get_or xs c.0 d within,
      sym
          (get_or-map (λ (l : Literal). l.atom) xs c.0 d a within) ∙ c.2,
    )

-- two literals of one atom in a list whose atoms rise are one
pub only_one : (xs : List Literal) → IsStrictlyIncreasing (atoms_of xs) → (l k : Literal)
    → Contains xs l → Contains xs k
    → l.atom ≡ k.atom → l ≡ k
only_one xs rises l k c e same =
    let size = length-map xs (λ (l : Literal). l.atom) in
    let at_l : get_or (atoms_of xs) c.0 0 ≡ l.atom = atom_at xs c.0 l c.1
    ∙ ap (λ (m : Literal). m.atom) c.2 in
    let at_k : get_or (atoms_of xs) e.0 0 ≡ k.atom = atom_at xs e.0 k e.1
    ∙ ap (λ (m : Literal). m.atom) e.2 in
    elim (cases_order c.0 e.0) [
      | inl place ↦ sym c.2 ∙ (get_or_default xs c.0 l k c.1
          ∙ (ap (λ j. get_or xs j k) place ∙ e.2))
      | inr (inl less) ↦ let apart = rises_apart (atoms_of xs) c.0 e.0 rises less
          (omega (arith, e.1)) in absurd (omega arith)
      | inr (inr more) ↦ let apart = rises_apart (atoms_of xs) e.0 c.0 rises more
          (omega (arith, c.1)) in absurd (omega arith)
    ]

-- two lists of literals whose atoms rise and that have the same literals are one
pub same_literals : (xs ys : List Literal) → IsStrictlyIncreasing (atoms_of xs)
    → IsStrictlyIncreasing (atoms_of ys)
    → ((l : Literal) → Contains xs l → Contains ys l)
    → ((l : Literal) → Contains ys l → Contains xs l) → xs ≡ ys
same_literals xs ys rises also into from =
    let size_x = length-map xs (λ (l : Literal). l.atom) in
    let size_y = length-map ys (λ (l : Literal). l.atom) in
    let d : Literal = record { atom = 0; positive = false } in
    let same : atoms_of xs ≡ atoms_of ys =
    same_rising (atoms_of xs) (atoms_of ys) rises also
    (λ a c. let l = literal_of xs a c in subst (Contains (atoms_of ys)) l.2
    (has_its_atom ys l.0 (into l.0 l.1)))
    (λ a c. let l = literal_of ys a c in subst (Contains (atoms_of xs)) l.2
    (has_its_atom xs l.0 (from l.0 l.1))) in
    let size : length xs ≡ length ys = sym size_x ∙ (ap length same ∙ size_y) in
    ext_get_or d xs ys size
    (λ k within.
    let within_y : k < length ys = omega arith in
    only_one ys also (get_or xs k d) (get_or ys k d)
    (into (get_or xs k d) (Contains-get_or xs k d within))
    (Contains-get_or ys k d within_y)
    (sym (atom_at xs k d within) ∙ (ap (λ zs. get_or zs k 0) same ∙ atom_at ys k d within_y)))

-- the cube has the opposites of the first so many literals of the clause
pub record IsDenied (i : ℕ) (clause cube : List Literal) : Type 0 where
  pub rises : IsStrictlyIncreasing (atoms_of cube)
  pub has : (a : Literal) → Contains cube a ↔ Contains (take i clause) (opposite a)

module _ (i : ℕ) (clause cube : List Literal) (within : i < length clause) where
  -- the literal at the place, as code reads it
  abbrev pub item : Literal
  item = get_or clause i (record { atom = 0; positive = false })

  front : take (i + 1) clause ≡ take i clause ++ item ∷ []
  front = take_more clause i (record { atom = 0; positive = false }) within

  pub denied_more : (new : List Literal) → IsDenied i clause cube → Adds cube (opposite item) new
      → IsDenied (i + 1) clause new
  denied_more new so_far adds = record {
    rises = adds.rises;
    has = λ a. (
      λ c. subst (λ ls. Contains ls (opposite a)) (sym front)
          (elim ((adds.has a).0 c) [
            | inl old ↦ Contains-append_left (take i clause) (item ∷ []) (opposite a)
                ((so_far.has a).0 old)
            | inr e ↦ subst (Contains (take i clause ++ item ∷ []))
                (sym (opposite_twice item) ∙ ap opposite (sym e))
                (Contains-push (take i clause) item)
          ]),
      λ c. (adds.has a).1
          (elim (Contains-push_cases (take i clause) item (opposite a)
          (subst (λ ls. Contains ls (opposite a)) front c)) [
            | inl old ↦ inl ((so_far.has a).1 old)
            | inr e ↦ inr (sym (opposite_twice a) ∙ ap opposite (sym e))
          ]),
    );
  }

  -- the literal can't be put in: its opposite is in the clause before it
  pub denied_clash : IsDenied i clause cube → Contains cube (opposite (opposite item))
      → is_tautology clause ≡ true
  denied_clash so_far there =
      let other : Contains cube item = subst (Contains cube) (opposite_twice item) there in
      let before = (so_far.has item).0 other in
      let earlier = subst (λ ls. Contains ls (opposite item)) (take-append-drop i clause)
      (Contains-append_left (take i clause) (drop i clause) (opposite item) before) in
      tautology_from clause item (Contains-get_or clause i (record { atom = 0; positive = false })
      within) earlier

-- all were put in
pub denied_all : (i : ℕ) (clause cube : List Literal) → length clause ≤ i → IsDenied i clause cube
    → denial_step clause ≡ Some cube
denied_all i clause cube all so_far = ap (λ t. if t then None else Some (denial clause)) plain
    ∙ ap Some (sym same)
  where
    has : (a : Literal) → Contains cube a ↔ Contains clause (opposite a)
    has a = subst (λ ls. Contains cube a ↔ Contains ls (opposite a)) (take_all i clause all)
        (so_far.has a)

    put : (l : Literal) → Contains clause l → Contains cube (opposite l)
    put l c = (has (opposite l)).1 (subst (Contains clause) (sym (opposite_twice l)) c)

    differs : (b : Bool) → b ≡ not b → ⊥
    differs true e = let f : true ≡ false = e in absurd cc
    differs false e = let f : false ≡ true = e in absurd cc

    plain : is_tautology clause ≡ false
    plain = false_from_ne_true (is_tautology clause)
        (λ so.
        let pair = tautology_has clause so in
        let one = only_one cube so_far.rises (opposite pair.0) (opposite (opposite pair.0))
        (put pair.0 pair.1)
        (put (opposite pair.0) pair.2) refl in
        differs (not pair.0.positive) (ap (λ (m : Literal). m.positive) one))

    same : cube ≡ denial clause
    same = same_literals cube (denial clause) so_far.rises (denial_rises (bound_of clause) clause)
        (λ l c. subst (Contains (denial clause)) (opposite_twice l)
        (denied clause (opposite l) plain ((has l).0 c)))
        (λ l c. (has l).1 (below_has clause (bound_of clause) l c).1)

module _ (clauses : List (List Literal)) (place : ℕ) (within : place < length clauses)
    (clause literals : List Literal)
    (at : clause ≡ get_or clauses place clause) (same : literals ≡ clause) where
  -- the next step of a walk is that at the clause
  next_step : (step : Option (List Literal)) → denial_step literals ≡ step
      → drop place (map denial_step clauses) ≡ step ∷ drop (place + 1) (map denial_step clauses)
  next_step step is =
      let size = length-map clauses denial_step in
      drop_more (map denial_step clauses) place step (omega arith)
      ∙ ap (λ s. s ∷ drop (place + 1) (map denial_step clauses))
      (get_or-map denial_step clauses place clause step within
      ∙ (ap denial_step (sym at ∙ sym same) ∙ is))

  pub step_taken : (cube : List Literal) → denial_step literals ≡ Some cube
      → drop place (map denial_step clauses) ≡ Some cube
      ∷ drop (place + 1) (map denial_step clauses)
  step_taken cube is = next_step (Some cube) is

  pub step_void : is_tautology literals ≡ true
      → drop place (map denial_step clauses) ≡ None ∷ drop (place + 1) (map denial_step clauses)
  step_void is = next_step None (ap (λ t. if t then None else Some (denial literals)) is)

  -- the cube of a step speaks of the atoms of its clause alone
  pub step_speaks : (n : ℕ) (cube : List Literal) → AreClauses n clauses
      → denial_step literals ≡ Some cube → SpeakBelow n cube
  step_speaks n cube speaks is = of (is_tautology literals) is
    where
      below : SpeakBelow n literals
      below = subst (SpeakBelow n) (sym at ∙ sym same) (speaks place clause within)

      of : (t : Bool) → (if t then None else Some (denial literals)) ≡ Some cube → SpeakBelow n cube
      of true e = absurd cc
      of false e = let cube_is : denial literals ≡ cube = cc in
          subst (SpeakBelow n) cube_is (denial_speaks n literals below)
