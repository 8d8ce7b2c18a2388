-- The laws of the walk over the states outside a set that clauses give: the cubes of its steps are
-- the denials of the clauses.
use Rattle.std.proofs.Common.{◌≡◌, ℕ, zero, suc, ◌+◌, ◌<◌, ◌∙◌, Bool, true, false, not, ◌&&◌, ◌||◌}
use Rattle.std.proofs.Common.{if◌then◌else◌, List, [], ◌∷◌, length, get_or, drop, map, None, Some}
use Rattle.std.proofs.Common.{refl, sym, ap, ap₂, arith, inl, inr, subst}
use Rattle.std.proofs.Math.Bool.{not-not}
use Rattle.std.proofs.Math.Nat.{le-max_left, le-max_right}
use Rattle.std.proofs.lemmas.Bool.{cases_Bool, cases_lt, false_from_ne_true}
use Rattle.std.proofs.lemmas.Bool.Decides.{same_from_decides}
use Rattle.std.proofs.lemmas.List.Elements.{All-contains, Contains-append_cases}
use Rattle.std.proofs.lemmas.List.Elements.{Contains-append_left, Contains-append_right}
use Rattle.std.proofs.lemmas.List.Elements.{Contains-get_or, Contains-push_cases}
use Rattle.std.proofs.lemmas.List.Folds.{Any-from_list_any, list_any_at}
use Rattle.std.specs.List.{Contains}
use Rattle.hv_sets.specs.declared.cursor.Cursor.{Cursor}
use Rattle.hv_sets.specs.declared.literal.Literal.{Literal}
use Rattle.hv_sets.specs.Cubes.{opposite}
use Rattle.hv_sets.specs.Truth.{in_clause, in_clauses, in_cube, in_literal}
use Rattle.hv_sets.specs.Walks.{IsNew, in_step, in_steps}
use Rattle.hv_formula.specs.Clausal.{FormulaState, in_formula}
use Rattle.hv_propagation.proofs.Holding.{clause_found, clause_true, has_literal-Decides}
use Rattle.hv_propagation.proofs.Holding.{in_cube-Decides, opposite_is}
use Rattle.hv_formula.specs.Denial.{bound_of, denial, denial_at, denial_below, is_tautology}
use Rattle.hv_formula.specs.Denial.{names_literal, denial_step, steps_of}

-- a new cursor has all steps before it
pub starts_with_steps : (formula : FormulaState) (cursor : Cursor) → IsNew cursor
    → drop cursor.place (steps_of formula) ≡ steps_of formula
starts_with_steps formula cursor new = ap (λ k. drop k (steps_of formula)) new.0

-- the opposite of the opposite is the literal itself
pub opposite_twice : (l : Literal) → opposite (opposite l) ≡ l
opposite_twice l = let sign = not-not l.positive in λ i. record { atom = l.atom; positive = sign i }

-- a tautology has a literal and its opposite
pub tautology_has : (clause : List Literal) → is_tautology clause ≡ true
    → (l : Literal) × Contains clause l × Contains clause (opposite l)
tautology_has clause e =
    let found =
    Any-from_list_any (λ (l : Literal). names_literal clause l.atom (not l.positive)) clause e
    in (
      found.1,
      (found.0, found.2, found.3),
      (has_literal-Decides clause found.1.atom
          (not found.1.positive)).0 found.4,
    )

pub tautology_from : (clause : List Literal) (l : Literal) → Contains clause l
    → Contains clause (opposite l)
    → is_tautology clause ≡ true
tautology_from clause l c other =
    list_any_at (λ (l : Literal). names_literal clause l.atom (not l.positive)) clause c.0 l c.1
    (ap (λ (k : Literal). names_literal clause k.atom (not k.positive)) c.2
    ∙ (has_literal-Decides clause l.atom (not l.positive)).1 other)

-- the opposites of the literals of an atom, by whether a positive one and a negative one are there
abbrev pub opposites : Bool → Bool → ℕ → List Literal
opposites first_sign second_sign n =
    if first_sign then record { atom = n; positive = false } ∷ []
    else (if second_sign then record { atom = n; positive = true } ∷ [] else [])

Contains-one : (x a : Literal) → Contains (x ∷ []) a → x ≡ a
Contains-one x a c =
    elim (Contains-push_cases [] x a c) [ inl none ↦ absurd (omega (arith, none.1)) | inr e ↦ e ]

module _ (clause : List Literal) where
  -- what a denial has are opposites of literals of the clause
  at_has : (first_sign second_sign : Bool) (n : ℕ) (a : Literal)
      → (first_sign ≡ true → Contains {X = Literal} clause (record { atom = n; positive = true }))
      → (second_sign ≡ true → Contains {X = Literal} clause (record { atom = n; positive = false }))
      → Contains (opposites first_sign second_sign n) a
      → (n ≡ a.atom) × Contains clause (opposite a)
  at_has true second_sign n a first second c =
      let e = Contains-one (record { atom = n; positive = false }) a c in
      (ap (λ m. m.atom) e, subst (λ b. Contains clause (opposite b)) e (first refl))
  at_has false true n a first second c =
      let e = Contains-one (record { atom = n; positive = true }) a c in
      (ap (λ m. m.atom) e, subst (λ b. Contains clause (opposite b)) e (second refl))
  at_has false false n a first second c = absurd (omega (arith, c.1))

  pub below_has : (n : ℕ) (a : Literal) → Contains (denial_below n clause) a → (a.atom < n)
      × Contains clause (opposite a)
  below_has zero a c = absurd (omega (arith, c.1))
  below_has (suc n) a c =
      elim (Contains-append_cases (denial_below n clause) (denial_at n clause) a c) [
        | inl front ↦ let rest = below_has n a front in (omega (arith, rest.0), rest.1)
        | inr last ↦
            let here = at_has (names_literal clause n true) (names_literal clause n false) n a
            (has_literal-Decides clause n true).0 (has_literal-Decides clause n false).0 last in
            (omega (arith, here.0), here.1)
      ]

  -- each literal of a clause that isn't a tautology is denied
  at_named : (first_sign second_sign sign : Bool) (n : ℕ) → (sign ≡ true → first_sign ≡ true)
      → (sign ≡ false → (first_sign ≡ false) × (second_sign ≡ true))
      → Contains (opposites first_sign second_sign n) (record { atom = n; positive = not sign })
  at_named true second_sign true n first second = (0, omega arith, refl)
  at_named false second_sign true n first second = absurd (let e = first refl in cc)
  at_named true second_sign false n first second = absurd (let e = (second refl).0 in cc)
  at_named false true false n first second = (0, omega arith, refl)
  at_named false false false n first second = absurd (let e = (second refl).1 in cc)

  module _ (plain : is_tautology clause ≡ false) where
    both_signs : (l : Literal) → Contains clause l → Contains clause (opposite l) → ⊥
    both_signs l c other = let e = tautology_from clause l c other in absurd cc

    denied_at : (l : Literal) (n : ℕ) → l.atom ≡ n → Contains clause l
        → Contains (denial_at n clause) (opposite l)
    denied_at l n e c =
        subst (λ m. Contains (denial_at m clause) (opposite l)) e
        (at_named (names_literal clause l.atom true)
        (names_literal clause l.atom false) l.positive l.atom
        (λ sign. (has_literal-Decides clause l.atom true).1 (has sign))
        (λ sign. (
          false_from_ne_true (names_literal clause l.atom true)
              (λ so. both_signs l c
              (subst (λ s. Contains {X = Literal} clause
              (record { atom = l.atom; positive = not s })) (sym sign)
              ((has_literal-Decides clause l.atom true).0 so))),
          (has_literal-Decides clause l.atom false).1 (has sign),
        )))
      where
        has : {s : Bool} → l.positive ≡ s
            → Contains {X = Literal} clause (record { atom = l.atom; positive = s })
        has sign = subst (λ s. Contains {X = Literal} clause
            (record { atom = l.atom; positive = s })) sign c

    pub below_named : (n : ℕ) (l : Literal) → l.atom < n → Contains clause l
        → Contains (denial_below n clause) (opposite l)
    below_named zero l less c = absurd (omega arith)
    below_named (suc n) l less c =
        elim (cases_lt l.atom n) [
          | inl before ↦ Contains-append_left (denial_below n clause) (denial_at n clause)
              (opposite l) (below_named n l before c)
          | inr last ↦ Contains-append_right (denial_below n clause) (denial_at n clause)
              (opposite l)
              (denied_at l n (omega arith) c)
        ]

-- the atoms of a clause are below its bound
bound_at : (clause : List Literal) (k : ℕ) (d : Literal) → k < length clause
    → (get_or clause k d).atom < bound_of clause
bound_at [] k d within = absurd (omega arith)
bound_at (l ∷ ls) zero d within = let upto = le-max_left (l.atom + 1) (bound_of ls) in omega arith
bound_at (l ∷ ls) (suc k) d within =
    let upto = le-max_right (l.atom + 1) (bound_of ls) in
    let less = bound_at ls k d (omega arith) in omega arith

pub below_bound : (clause : List Literal) (l : Literal) → Contains clause l
    → l.atom < bound_of clause
below_bound clause l c =
    subst (λ (m : Literal). m.atom < bound_of clause) c.2 (bound_at clause c.0 l c.1)

pub denied : (clause : List Literal) (l : Literal) → is_tautology clause ≡ false → Contains clause l
    → Contains (denial clause) (opposite l)
denied clause l plain c = below_named clause plain (bound_of clause) l (below_bound clause l c) c

module _ (clause : List Literal) (state : List Bool) where
  true_anyway : is_tautology clause ≡ true → in_clause clause state ≡ true
  true_anyway e =
      let pair = tautology_has clause e in
      elim (cases_Bool (in_literal pair.0 state)) [
        | inl holds ↦ clause_true clause state pair.0 pair.1 holds
        | inr lies ↦ clause_true clause state (opposite pair.0) pair.2
            (opposite_is pair.0 state ∙ ap not lies)
      ]

  -- the denial has the states in which the clause is false
  pub denial_is : is_tautology clause ≡ false
      → in_cube (denial clause) state ≡ not (in_clause clause state)
  denial_is plain =
      same_from_decides (in_cube (denial clause) state) (not (in_clause clause state))
      (in_cube-Decides (denial clause) state) (
        λ e k d within.
            let a = get_or (denial clause) k d in
            let source =
            below_has clause (bound_of clause) a (Contains-get_or (denial clause) k d within) in
            let lies : in_literal (opposite a) state ≡ false =
            false_from_ne_true (in_literal (opposite a) state)
            (λ so.
            let t = ap not (clause_true clause state (opposite a) source.1 so) in
            let f : true ≡ false = sym e ∙ t in absurd cc) in
            sym (not-not (in_literal a state)) ∙ ap not (sym (opposite_is a state) ∙ lies),
        λ all.
            ap not (false_from_ne_true (in_clause clause state)
            (λ so.
            let found = clause_found clause state so in
            let other =
            All-contains (λ (l : Literal). in_literal l state ≡ true) (denial clause)
            (opposite found.0) all
            (denied clause found.0 plain found.1) in
            let f : true ≡ false =
            sym other ∙ (opposite_is found.0 state ∙ ap not found.2) in absurd cc)),
      )

  step_at : (t : Bool) → is_tautology clause ≡ t
      → in_step (if t then None else Some (denial clause)) state ≡ not (in_clause clause state)
  step_at true e = ap not (sym (true_anyway e))
  step_at false e = denial_is e

  step_is : in_step (denial_step clause) state ≡ not (in_clause clause state)
  step_is = step_at (is_tautology clause) refl

neither : (a b : Bool) → (not a || not b) ≡ not (a && b)
neither true b = refl
neither false b = refl

steps_are : (clauses : List (List Literal)) (state : List Bool)
    → in_steps (map denial_step clauses) state ≡ not (in_clauses clauses state)
steps_are [] state = refl
steps_are (clause ∷ clauses) state =
    ap₂ (λ a b. a || b) (step_is clause state) (steps_are clauses state)
    ∙ neither (in_clause clause state) (in_clauses clauses state)

-- the cubes of the walk have the states outside the set
pub outside_are : (formula : FormulaState) (state : List Bool) → length state ≡ formula.atoms
    → in_steps (steps_of formula) state ≡ not (in_formula formula state)
outside_are formula state size = steps_are formula.clauses state
