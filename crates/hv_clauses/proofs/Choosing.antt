-- Choices of one clause of each negative operand, as numbers: which there are, what they break, and
-- what marks tell of one.
use Rattle.std.proofs.Common.{◌≡◌, ℕ, zero, suc, ◌<◌, ◌≤◌, ◌+◌, ◌*◌, ◌%◌, ◌/◌, ◌∙◌, Bool, true}
use Rattle.std.proofs.Common.{false, not, List, [], ◌∷◌, ◌++◌, length, Some, refl, sym, ap, subst}
use Rattle.std.proofs.Common.{arith, inl, inr, get_or, take, drop}
use Rattle.std.proofs.Math.Nat.{le-mul_of_pos_right, mul_assoc, mul-one}
use Rattle.std.proofs.lemmas.Bool.{and_parts, and_from, and_cases, cases_lt, not-true}
use Rattle.std.proofs.lemmas.Bool.{not_from_false}
use Rattle.std.proofs.lemmas.List.{take-append-drop, take_more}
use Rattle.std.proofs.lemmas.List.Elements.{All-drop, All-head, All-tail, All-weaker}
use Rattle.std.proofs.lemmas.List.Folds.{list_all_at, list_any_none}
use Rattle.std.proofs.lemmas.Nat.{mul-lt, mul-add-lt, div-mul-add, mod-mul-add, mod_below}
use Rattle.std.specs.List.{All, list_all}
use Rattle.hv_task.specs.Strips.{Strips, atoms}
use Rattle.hv_sets.specs.declared.literal.Literal.{Literal}
use Rattle.hv_sets.specs.declared.operand.Operand.{Operand}
use Rattle.hv_sets.specs.Cost.{choices_of, clauses_of}
use Rattle.hv_sets.specs.Query.{in_which}
use Rattle.hv_sets.specs.Truth.{in_clause, in_clauses, in_literal}
use Rattle.hv_indexes.specs.Places.{clause_at}
use Rattle.hv_clauses.specs.Store.{tests_of, sizes_of}
use Rattle.hv_clauses.specs.Working.Choices.{AreChosenFalse, Breaks}
use Rattle.hv_clauses.specs.Working.Operands.{clauses_in}
use Rattle.hv_propagation.specs.Effect.{late}
use Rattle.hv_propagation.specs.Marks.{over, Agrees, KeepsKnown}
use Rattle.hv_propagation.specs.Units.{value_of, AreFalse}
use Rattle.hv_propagation.proofs.Marked.{AreFalse_extends, known_within, length-over, through_some}
use Rattle.hv_propagation.proofs.Marked.{value_false, value_some}
use Rattle.hv_clauses.proofs.OperandClauses.{clauses_in_is, clauses_of_is}

-- a clause that is false
broken_clause : (clauses : List (List Literal)) (state : List Bool)
    → in_clauses clauses state ≡ false
    → (place : ℕ) × (place < length clauses) × (in_clause (clause_at clauses place) state ≡ false)
broken_clause [] state e = let f : true ≡ false = e in absurd cc
broken_clause (clause ∷ clauses) state e =
    elim (and_cases (in_clause clause state) (in_clauses clauses state) e) [
      | inl first ↦ (0, omega arith, first)
      | inr later ↦ let found = broken_clause clauses state later in
          (suc found.0, omega (arith, found.1), found.2)
    ]

clauses_broken : (clauses : List (List Literal)) (state : List Bool) (place : ℕ)
    → place < length clauses
    → in_clause (clause_at clauses place) state ≡ false → in_clauses clauses state ≡ false
clauses_broken clauses state place within e = list_all_at
    (λ clause. in_clause clause state) clauses place [] within e

module _ (task : Strips) (formulas : ℕ → List (List Literal)) (effect : List ℕ) where
  -- a state, seen through the effect, that is in no negative operand breaks the clauses of some
  -- choice
  pub choose : (operands : List Operand) (state : List Bool) → length state ≡ atoms task
      → list_all (λ o. not (in_which task (tests_of formulas) o.which
      (over (late effect o.after) state))) operands ≡ true
      → (number : ℕ) × (number < choices_of task (sizes_of formulas) operands)
      × Breaks task formulas effect operands number state
  choose [] state size e = (0, omega arith, tt)
  choose (o ∷ os) state size e =
      let seen = over (late effect o.after) state in
      let seen_size : length seen ≡ atoms task = length-over (late effect o.after) state ∙ size in
      let parts = and_parts (not (in_which task (tests_of formulas) o.which seen))
      (list_all (λ o. not (in_which task (tests_of formulas) o.which
      (over (late effect o.after) state))) os) e in
      let out : in_clauses (clauses_in task formulas o.which) seen ≡ false =
      sym (clauses_in_is task formulas o.which seen seen_size)
      ∙ not-true (in_which task (tests_of formulas) o.which seen) parts.0 in
      let broken = broken_clause (clauses_in task formulas o.which) seen out in
      let rest = choose os state size parts.1 in
      let count = length (clauses_in task formulas o.which) in
      let number = rest.0 * count + broken.0 in (
        number,
        subst (λ c. number < c * choices_of task (sizes_of formulas) os)
            (sym (clauses_of_is task formulas o.which))
            (mul-add-lt rest.0 count broken.0 (choices_of task (sizes_of formulas) os) rest.1
            broken.1),
        (
          subst (λ k. in_clause (clause_at (clauses_in task formulas o.which) k) seen ≡ false)
              (sym (mod-mul-add rest.0 count broken.0 broken.1)) broken.2,
          subst (λ n. Breaks task formulas effect os n state)
              (sym (div-mul-add rest.0 count broken.0 broken.1)) rest.2,
        ),
      )

  -- and a state that breaks the clauses of a choice is in no negative operand
  pub chosen : (operands : List Operand) (number : ℕ) (state : List Bool)
      → length state ≡ atoms task
      → All (λ o. 0 < clauses_of task (sizes_of formulas) o.which) operands
      → Breaks task formulas effect operands number state
      → list_all (λ o. not (in_which task (tests_of formulas) o.which
      (over (late effect o.after) state))) operands ≡ true
  chosen [] number state size some breaks = refl
  chosen (o ∷ os) number state size some breaks =
      let seen = over (late effect o.after) state in
      let seen_size : length seen ≡ atoms task = length-over (late effect o.after) state ∙ size in
      let count = length (clauses_in task formulas o.which) in
      let first = All-head (λ o. 0 < clauses_of task (sizes_of formulas) o.which) o os some in
      let positive : 0 < count = subst (λ c. 0 < c) (clauses_of_is task formulas o.which) first in
      let out : in_which task (tests_of formulas) o.which seen ≡ false =
      clauses_in_is task formulas o.which seen seen_size
      ∙ clauses_broken (clauses_in task formulas o.which) seen (number % count)
      (mod_below number count positive) breaks.0 in
      and_from (not (in_which task (tests_of formulas) o.which seen))
      (list_all (λ o. not (in_which task (tests_of formulas) o.which
      (over (late effect o.after) state))) os)
      (not_from_false (in_which task (tests_of formulas) o.which seen) out)
      (chosen os (number / count) state size
      (All-tail (λ o. 0 < clauses_of task (sizes_of formulas) o.which) o os some) breaks.1)

-- literals of which values are known speak of atoms of the state
value_within : (effect marks : List ℕ) (l : Literal) (bound : ℕ) (value : Bool)
    → length effect ≤ bound → length marks ≤ bound
    → value_of effect marks l ≡ Some value → l.atom < bound
value_within effect marks l bound value effect_size size e =
    let parts = value_some effect marks l value e in
    elim (through_some effect marks l.atom parts.0 parts.1) [
      | inl at ↦ let less = known_within effect l.atom parts.0 at in omega arith
      | inr both ↦ let less = known_within marks l.atom parts.0 both.1 in omega arith
    ]

-- a clause each literal of which is known to be false is false in each state that agrees with the
-- marks
pub clause_known : (effect marks : List ℕ) (clause : List Literal) (state : List Bool)
    → length effect ≤ length state
    → length marks ≡ length state → Agrees marks state → AreFalse effect clause marks
    → in_clause clause (over effect state) ≡ false
clause_known effect marks clause state effect_size size agrees known =
    list_any_none (λ l. in_literal l (over effect state)) clause
    (All-weaker (λ l. value_of effect marks l ≡ Some false)
    (λ l. in_literal l (over effect state) ≡ false)
    (λ l e. value_false effect marks l state e agrees
    (value_within effect marks l (length state) false effect_size (omega (arith, size)) e)) clause
    known)

length-late : (effect : List ℕ) (after : Bool) → length (late effect after) ≤ length effect
length-late effect true = omega arith
length-late effect false = omega arith

module _ (task : Strips) (formulas : ℕ → List (List Literal)) (effect : List ℕ) where
  -- where the clauses of a choice are known to be false, each state that agrees with the marks
  -- breaks them
  pub breaks_known : (operands : List Operand) (number : ℕ) (marks : List ℕ) (state : List Bool)
      → length effect ≤ length state
      → length marks ≡ length state → Agrees marks state
      → AreChosenFalse task formulas effect operands number marks
      → Breaks task formulas effect operands number state
  breaks_known [] number marks state effect_size size agrees known = tt
  breaks_known (o ∷ os) number marks state effect_size size agrees known =
      let clauses = clauses_in task formulas o.which in
      let seen = late effect o.after in
      let seen_size : length seen ≤ length state = omega (arith, length-late effect o.after) in (
        clause_known seen marks (clause_at clauses (number % length clauses)) state seen_size size
            agrees known.0,
        breaks_known os (number / length clauses) marks state effect_size size agrees known.1,
      )

  -- what is known to be false stays so
  pub chosen_false_extends : (operands : List Operand) (number : ℕ) (old new : List ℕ)
      → KeepsKnown old new
      → AreChosenFalse task formulas effect operands number old
      → AreChosenFalse task formulas effect operands number new
  chosen_false_extends [] number old new grows known = tt
  chosen_false_extends (o ∷ os) number old new grows known =
      let clauses = clauses_in task formulas o.which in (
        AreFalse_extends (late effect o.after) (clause_at clauses (number % length clauses)) old new
            grows known.0,
        chosen_false_extends os (number / length clauses) old new grows known.1,
      )

-- How many choices there are.
module _ (task : Strips) (sizes : ℕ → ℕ) where
  -- an operand without clauses leaves none
  pub choices_none : (operands : List Operand) (place : ℕ) (d : Operand) → place < length operands
      → clauses_of task sizes (get_or operands place d).which ≡ 0
      → choices_of task sizes operands ≡ 0
  choices_none [] place d within e = absurd (omega arith)
  choices_none (o ∷ os) zero d within e = ap (λ c. c * choices_of task sizes os) e ∙ (omega arith)
  choices_none (o ∷ os) (suc place) d within e =
      ap (λ c. clauses_of task sizes o.which * c) (choices_none os place d (omega arith) e)
      ∙ (omega arith)

  -- so where there are choices each operand has clauses
  pub some_from_choices : (operands : List Operand) → 0 < choices_of task sizes operands
      → All (λ o. 0 < clauses_of task sizes o.which) operands
  some_from_choices operands some place d within =
      elim (cases_lt 0 (clauses_of task sizes (get_or operands place d).which)) [
        | inl positive ↦ positive
        | inr empty ↦ let none = choices_none operands place d within (omega arith) in
            absurd (omega arith)
      ]

  pub choices_append : (front back : List Operand)
      → choices_of task sizes (front ++ back)
      ≡ choices_of task sizes front * choices_of task sizes back
  choices_append [] back = omega arith
  choices_append (o ∷ front) back =
      ap (λ c. clauses_of task sizes o.which * c) (choices_append front back)
      ∙ sym (mul_assoc (clauses_of task sizes o.which) (choices_of task sizes front)
      (choices_of task sizes back))

  pub choices_some : (operands : List Operand)
      → All (λ o. 0 < clauses_of task sizes o.which) operands
      → 0 < choices_of task sizes operands
  choices_some [] some = omega arith
  choices_some (o ∷ os) some =
      let first = All-head (λ o. 0 < clauses_of task sizes o.which) o os some in
      let rest = choices_some os (All-tail (λ o. 0 < clauses_of task sizes o.which) o os some) in
      mul-lt 0 0 (clauses_of task sizes o.which) (choices_of task sizes os) first rest

  -- one operand more
  pub choices_more : (operands : List Operand) (place : ℕ) (d : Operand) → place < length operands
      → choices_of task sizes (take (place + 1) operands)
      ≡ choices_of task sizes (take place operands) * clauses_of task sizes
      (get_or operands place d).which
  choices_more operands place d within =
      ap (choices_of task sizes) (take_more operands place d within)
      ∙ choices_append (take place operands) (get_or operands place d ∷ [])
      ∙ ap (λ c. choices_of task sizes (take place operands) * c)
      (mul-one (clauses_of task sizes (get_or operands place d).which))

  -- the first operands have no more choices than all
  pub choices_upto : (operands : List Operand) (place : ℕ)
      → All (λ o. 0 < clauses_of task sizes o.which) operands
      → choices_of task sizes (take place operands) ≤ choices_of task sizes operands
  choices_upto operands place some =
      let rest = choices_some (drop place operands)
      (All-drop (λ o. 0 < clauses_of task sizes o.which) place operands some) in
      let parts = sym (choices_append (take place operands) (drop place operands)) in
      subst (λ c. choices_of task sizes (take place operands) ≤ c)
      (parts ∙ ap (choices_of task sizes) (take-append-drop place operands))
      (le-mul_of_pos_right (choices_of task sizes (take place operands)) rest)
