-- Unit propagation in rounds: the cube stays around the states in which the clauses are true.
use Rattle.std.proofs.Common.{◌≡◌, ℕ, ◌+◌, ◌<◌, ◌∙◌, ◌⊎◌, Bool, true, false, not, cond, List, []}
use Rattle.std.proofs.Common.{length, get_or}
use Rattle.std.proofs.Common.{None, Some, replicate, refl, sym, ap, arith, inl, inr, subst}
use Rattle.std.proofs.lemmas.List.Elements.{All-contains, Contains-get_or}
use Rattle.std.proofs.lemmas.Bool.{cases_lt}
use Rattle.std.proofs.lemmas.Option.{get_or_from_slice_get}
use Rattle.std.specs.List.{All, Contains}
use Rattle.std.specs.Option.{option_map}
use Rattle.std.specs.Prelude.{slice_get}
use Rattle.hv_task.specs.State.{has_atom}
use Rattle.hv_sets.specs.declared.literal.Literal.{Literal}
use Rattle.hv_sets.specs.Cubes.{Adds, SpeakBelow, atoms_of}
use Rattle.hv_sets.specs.Truth.{in_clauses, in_cube, in_literal}
use Rattle.std.specs.List.Sorted.{IsStrictlyIncreasing}
use Rattle.hv_indexes.specs.Places.{clause_at}
use Rattle.hv_propagation.specs.Marks.{known, Agrees}
use Rattle.hv_propagation.specs.Units.{IsSettled, value_of, AreFalse, AreSettled}
use Rattle.hv_propagation.specs.Forced.{AreForced}
use Rattle.hv_propagation.proofs.Holding.{clause_found, in_cube-Decides}
use Rattle.hv_propagation.specs.Trail.{marked}
use Rattle.hv_propagation.specs.Working.UnitRounds.{HasTwo}
use Rattle.hv_propagation.specs.UnitRounds.{IsAround}
use Rattle.hv_propagation.specs.Working.Laws.{written_or}
use Rattle.hv_propagation.proofs.Marked.{has_atom-literal, over-nil, value_false}
use Rattle.hv_propagation.proofs.Rounds.{never}
use Rattle.hv_propagation.proofs.Trailed.{known-replicate}
use Rattle.hv_indexes.proofs.Truths.{each_clause}

-- a state in a cube agrees with its literals as marks
pub cube_says : (atoms : ℕ) (cube : List Literal) (state : List Bool) → in_cube cube state ≡ true
    → Agrees (marked atoms cube) state
cube_says atoms cube state inside = λ p b h.
    elim (written_or cube (replicate atoms 0) p) [
      | inl same ↦
          let none : known (marked atoms cube) p ≡ None = same ∙ known-replicate atoms p in
          absurd (cc)
      | inr found ↦
          let l : Literal = found.0 in
          let holds : in_literal l state ≡ true =
          All-contains (λ (x : Literal). in_literal x state ≡ true) cube l
          ((in_cube-Decides cube state).0 inside) found.1 in
          let flag = has_atom-literal l state holds in
          by p b l found.2 flag (sym found.3 ∙ h)
    ]
  where
    by : (p : ℕ) (b : Bool) (l : Literal) → l.atom ≡ p
        → has_atom state l.atom ≡ l.positive
        → Some l.positive ≡ Some b → has_atom state p ≡ b
    by p b l at flag same = cc

module _ (atoms : ℕ) (clauses : List (List Literal)) (cube : List Literal)
    (around : IsAround atoms clauses cube) (place : ℕ) (less : place < length clauses)
    (below : SpeakBelow atoms (clause_at clauses place)) where
  abbrev clause : List Literal
  clause = clause_at clauses place

  -- where the literals of a clause are false, it is, and so no state has all clauses true
  pub none_around : AreFalse [] clause (marked atoms cube) → (state : List Bool)
      → length state ≡ atoms → in_clauses clauses state ≡ true → ⊥
  none_around all state size holds =
      let agrees = cube_says atoms cube state (around state size holds) in
      let found = clause_found clause state (each_clause state clauses place less holds) in
      let l : Literal = found.0 in
      let out = All-contains (λ (k : Literal). value_of [] (marked atoms cube) k ≡ Some false)
      clause l all found.1 in
      let within = All-contains (λ (k : Literal). k.atom < atoms) clause l below found.1 in
      never (sym found.2 ∙ (ap (in_literal l) (sym (over-nil state))
      ∙ value_false [] (marked atoms cube) l state out agrees (omega (arith, within, size))))

  -- where all but one are false, that one is true
  module _ (l : Literal)
      (others : All (λ k. (k ≡ l) ⊎ (value_of [] (marked atoms cube) k ≡ Some false)) clause)
    where
      last_true : (state : List Bool) → length state ≡ atoms → in_clauses clauses state ≡ true
          → in_literal l state ≡ true
      last_true state size holds =
          let agrees = cube_says atoms cube state (around state size holds) in
          let found = clause_found clause state (each_clause state clauses place less holds) in
          let k : Literal = found.0 in
          let within = All-contains (λ (k : Literal). k.atom < atoms) clause k below found.1 in
          elim (All-contains
          (λ (k : Literal). (k ≡ l) ⊎ (value_of [] (marked atoms cube) k ≡ Some false)) clause k
          others found.1) [
            | inl same ↦ ap (λ x. in_literal x state) (sym same) ∙ found.2
            | inr out ↦ never (sym found.2 ∙ (ap (in_literal k) (sym (over-nil state))
                ∙ value_false [] (marked atoms cube) k state out agrees
                (omega (arith, within, size))))
          ]

      pub still_around : (new : List Literal)
          → ((k : Literal) → Contains new k → Contains cube k ⊎ (k ≡ l))
          → IsAround atoms clauses new
      still_around new only = λ state size holds.
          let inside = (in_cube-Decides cube state).0 (around state size holds) in
          (in_cube-Decides new state).1
          (λ j d within.
          let k = get_or new j d in
          elim (only k (Contains-get_or new j d within)) [
            | inl old ↦
                All-contains (λ (x : Literal). in_literal x state ≡ true) cube k inside old
            | inr same ↦ ap (λ x. in_literal x state) same ∙ last_true state size holds
          ])

-- the literals of a cube beside which no clause tells more
pub forced_around : (atoms : ℕ) (clauses : List (List Literal)) (cube : List Literal)
    → IsStrictlyIncreasing (atoms_of cube) → IsAround atoms clauses cube
    → AreSettled [] clauses (marked atoms cube) → AreForced atoms clauses cube
forced_around atoms clauses cube rises around settled = record {
  rises = rises;
  settled = settled;
  follows = λ state size holds. cube_says atoms cube state (around state size holds);
}

-- a cube into which a literal may have been put
pub only_added : (old new : List Literal) (l : Literal) (yes : Bool)
    → (yes ≡ true → Adds old l new) → (yes ≡ false → new ≡ old)
    → (k : Literal) → Contains new k → Contains old k ⊎ (k ≡ l)
only_added old new l true added refused = λ k has. ((added refl).has k).0 has
only_added old new l false added refused = λ k has.
    inl (subst (λ xs. Contains xs k) (refused refl) has)

-- one clause more tells nothing more
pub settled_more : (atoms : ℕ) (clauses : List (List Literal)) (old new : List Literal) (place : ℕ)
    (clause : List Literal) → slice_get clauses place ≡ Some clause → new ≡ old
    → IsSettled [] (marked atoms old) clause
    → ((k : ℕ) (d : List Literal) → k < place
    → IsSettled [] (marked atoms old) (get_or clauses k d))
    → (k : ℕ) (d : List Literal) → k < place + 1
    → IsSettled [] (marked atoms new) (get_or clauses k d)
settled_more atoms clauses old new place clause at same here before k d less =
    subst (λ ls. IsSettled [] (marked atoms ls) (get_or clauses k d)) (sym same)
    (elim (cases_lt k place) [
      | inl early ↦ before k d early
      | inr late ↦
          let is : place ≡ k = omega (arith, less, late) in
          subst (λ j. IsSettled [] (marked atoms old) (get_or clauses j d)) is
          (subst (λ x. IsSettled [] (marked atoms old) x)
          (sym (get_or_from_slice_get clauses place clause d at)) here)
    ])

-- where each clause has two different literals, none tells anything while nothing is known
pub two_settled : (atoms : ℕ) (clauses : List (List Literal)) → All HasTwo clauses
    → AreSettled [] clauses (marked atoms [])
two_settled atoms clauses all = λ k d less.
    let two = all k d less in
    inr (two.0, two.1, two.2, two.3, two.4, unknown two.0, unknown two.1)
  where
    unknown : (l : Literal) → value_of [] (marked atoms []) l ≡ None
    unknown l = ap (option_map (λ value. cond l.positive value (not value)))
        (known-replicate atoms l.atom)

-- one clause more has two different literals
pub two_more : (clauses : List (List Literal)) (place : ℕ) (clause : List Literal)
    → slice_get clauses place ≡ Some clause → HasTwo clause
    → ((k : ℕ) (d : List Literal) → k < place → HasTwo (get_or clauses k d))
    → (k : ℕ) (d : List Literal) → k < place + 1 → HasTwo (get_or clauses k d)
two_more clauses place clause at here before k d less = elim (cases_lt k place) [
  | inl early ↦ before k d early
  | inr late ↦
      let is : place ≡ k = omega (arith, less, late) in
      subst (λ j. HasTwo (get_or clauses j d)) is
      (subst HasTwo (sym (get_or_from_slice_get clauses place clause d at)) here)
]
