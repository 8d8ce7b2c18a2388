-- Conclusions over the clauses of operands, one after the other.
use Rattle.std.proofs.Common.{◌≡◌, ℕ, ◌<◌, ◌+◌, ◌%◌, ◌/◌, ◌∙◌, Bool, true, false, List, [], ◌∷◌}
use Rattle.std.proofs.Common.{◌++◌, length, refl, sym, ap, ap₂, subst, get_or, take, drop}
use Rattle.std.proofs.lemmas.List.{take-append-drop, take_more}
use Rattle.hv_task.specs.Strips.{Strips}
use Rattle.hv_sets.specs.declared.literal.Literal.{Literal}
use Rattle.hv_sets.specs.declared.operand.Operand.{Operand}
use Rattle.hv_sets.specs.Cost.{clauses_of}
use Rattle.hv_sets.specs.Truth.{in_clause}
use Rattle.hv_indexes.specs.Places.{clause_at}
use Rattle.hv_clauses.specs.Store.{sizes_of}
use Rattle.hv_clauses.specs.Working.Choices.{AreChosenFalse, Breaks}
use Rattle.hv_clauses.specs.Working.Operands.{clauses_in}
use Rattle.hv_propagation.specs.Effect.{late}
use Rattle.hv_propagation.specs.Marks.{over}
use Rattle.hv_propagation.specs.Units.{AreFalse, IsConcluded}
use Rattle.hv_propagation.proofs.Rounds.{conclude_stop, conclude_then}
use Rattle.hv_clauses.proofs.Choosing.{chosen_false_extends}
use Rattle.hv_clauses.proofs.OperandClauses.{clauses_of_is}

-- a clause was marked as false
abbrev pub IsDenied : List ℕ → List Literal → List ℕ → List ℕ → Bool → Type 0
IsDenied effect clause = IsConcluded (λ state. in_clause clause (over effect state) ≡ false)
    (AreFalse effect clause)

-- the same under other names
pub denied_same : (seen effect m k : List ℕ) (r : Bool) (made clause : List Literal)
    → seen ≡ effect → made ≡ clause → IsDenied seen made m k r → IsDenied effect clause m k r
denied_same seen effect m k r made clause through is one =
    subst (λ e. IsDenied e clause m k r) through (subst (λ c. IsDenied seen c m k r) is one)

-- The digits of a number, from the first.
module _ (task : Strips) (formulas : ℕ → List (List Literal)) where
  -- what is left of the number after the digits of these operands
  abbrev pub left_after : List Operand → ℕ → ℕ
  left_after [] number = number
  left_after (o ∷ os) number = left_after os (number / length (clauses_in task formulas o.which))

  left_append : (front back : List Operand) (number : ℕ)
      → left_after (front ++ back) number ≡ left_after back (left_after front number)
  left_append [] back number = refl
  left_append (o ∷ front) back number = left_append front back
      (number / length (clauses_in task formulas o.which))

  -- the clauses of the operand at a place
  abbrev pub clauses_here : List Operand → ℕ → Operand → List (List Literal)
  clauses_here operands place d = clauses_in task formulas (get_or operands place d).which

  pub left_more : (operands : List Operand) (place : ℕ) (d : Operand) (number : ℕ)
      → place < length operands
      → left_after (take (place + 1) operands) number
      ≡ left_after (take place operands) number / length (clauses_here operands place d)
  left_more operands place d number within =
      ap (λ os. left_after os number) (take_more operands place d within)
      ∙ left_append (take place operands) (get_or operands place d ∷ []) number

  -- the clauses that the number chooses of these operands were marked as false
  abbrev pub AreDenied : List ℕ → List Operand → ℕ → List ℕ → List ℕ → Bool → Type 0
  AreDenied effect operands number =
      IsConcluded (Breaks task formulas effect operands number)
      (AreChosenFalse task formulas effect operands number)

  module _ (effect : List ℕ) where
    pub breaks_parts : (front back : List Operand) (number : ℕ) (state : List Bool)
        → Breaks task formulas effect (front ++ back) number state
        → Breaks task formulas effect front number state
        × Breaks task formulas effect back (left_after front number) state
    breaks_parts [] back number state breaks = (tt, breaks)
    breaks_parts (o ∷ front) back number state breaks =
        let parts = breaks_parts front back (number / length (clauses_in task formulas o.which))
        state breaks.1 in
        ((breaks.0, parts.0), parts.1)

    false_join : (front back : List Operand) (number : ℕ) (marks : List ℕ)
        → AreChosenFalse task formulas effect front number marks
        → AreChosenFalse task formulas effect back (left_after front number) marks
        → AreChosenFalse task formulas effect (front ++ back) number marks
    false_join [] back number marks first last = last
    false_join (o ∷ front) back number marks first last = (
      first.0,
      false_join front back (number / length (clauses_in task formulas o.which)) marks
          first.1 last,
    )

    module _ (operands : List Operand) (place : ℕ) (d : Operand) (number : ℕ)
        (within : place < length operands) where
      -- the clauses that the number chooses of one operand more
      parts_more : (state : List Bool) → Breaks task formulas effect (take (place + 1) operands)
          number state
          → Breaks task formulas effect (take place operands) number state
          × Breaks task formulas effect (get_or operands place d ∷ [])
          (left_after (take place operands) number) state
      parts_more state breaks =
          breaks_parts (take place operands) (get_or operands place d ∷ []) number state
          (subst (λ os. Breaks task formulas effect os number state)
          (take_more operands place d within) breaks)

      false_more : (marks : List ℕ) → AreChosenFalse task formulas effect (take place operands)
          number marks
          → AreChosenFalse task formulas effect (get_or operands place d ∷ [])
          (left_after (take place operands) number) marks
          → AreChosenFalse task formulas effect (take (place + 1) operands) number marks
      false_more marks first last =
          subst (λ os. AreChosenFalse task formulas effect os number marks)
          (sym (take_more operands place d within))
          (false_join (take place operands) (get_or operands place d ∷ []) number marks first last)

      -- one operand more
      pub deny_more : (m k n : List ℕ) (r : Bool) (digit : ℕ)
          → digit ≡ left_after (take place operands) number % length (clauses_here operands place d)
          → AreDenied effect (take place operands) number m k true
          → IsDenied (late effect (get_or operands place d).after)
          (clause_at (clauses_here operands place d) digit) k n r
          → AreDenied effect (take (place + 1) operands) number m n r
      deny_more m k n r digit here one two =
          let place_in = left_after (take place operands) number % length
          (clauses_here operands place d) in
          let clause = clause_at (clauses_here operands place d) place_in in
          let effect_here = late effect (get_or operands place d).after in
          let named : IsDenied effect_here clause k n r =
          subst (λ p. IsDenied effect_here (clause_at (clauses_here operands place d) p) k n r)
          here two in
          conclude_then (Breaks task formulas effect (take place operands) number)
          (λ state. in_clause clause (over effect_here state) ≡ false)
          (Breaks task formulas effect (take (place + 1) operands) number)
          (AreChosenFalse task formulas effect (take place operands) number)
          (AreFalse effect_here clause)
          (AreChosenFalse task formulas effect (take (place + 1) operands) number)
          m k n r
          (λ state size holds. (parts_more state holds).0)
          (λ state size holds. (parts_more state holds).1.0)
          (λ old new grows known. chosen_false_extends task formulas effect (take place operands)
          number old new grows known)
          (λ marks size first last. false_more marks first (last, tt))
          one named

      -- a literal of the clause that is chosen of the next operand is known to be true
      pub deny_broken : (m k n : List ℕ) (digit : ℕ)
          → digit ≡ left_after (take place operands) number % length (clauses_here operands place d)
          → AreDenied effect (take place operands) number m k true
          → IsDenied (late effect (get_or operands place d).after)
          (clause_at (clauses_here operands place d) digit) k n false
          → AreDenied effect operands number m n false
      deny_broken m k n digit here one two =
          conclude_stop (Breaks task formulas effect (take (place + 1) operands) number)
          (Breaks task formulas effect operands number)
          (Breaks task formulas effect operands number)
          (AreChosenFalse task formulas effect (take (place + 1) operands) number)
          (AreChosenFalse task formulas effect operands number)
          (AreChosenFalse task formulas effect operands number) m n
          (λ state size holds.
          (breaks_parts (take (place + 1) operands) (drop (place + 1) operands) number state
          (subst (λ os. Breaks task formulas effect os number state)
          (sym (take-append-drop (place + 1) operands)) holds)).0)
          (deny_more m k n false digit here one two)

-- The digits of a number, as a loop over the operands reads them.
module _ (task : Strips) (formulas : ℕ → List (List Literal)) (operands : List Operand) (place : ℕ)
    (d : Operand) (number rest count : ℕ)
    (left : rest ≡ left_after task formulas (take place operands) number)
    (counts : count ≡ clauses_of task (sizes_of formulas) (get_or operands place d).which) where
  size_is : count ≡ length (clauses_here task formulas operands place d)
  size_is = counts ∙ clauses_of_is task formulas (get_or operands place d).which

  -- the digit of the operand at a place
  pub digit_is : rest % count
      ≡ left_after task formulas (take place operands) number % length
      (clauses_here task formulas operands place d)
  digit_is = ap₂ (λ a b. a % b) left size_is

  -- and what is left after it
  pub rest_is : place < length operands → rest / count
      ≡ left_after task formulas (take (place + 1) operands) number
  rest_is within = ap₂ (λ a b. a / b) left size_is
      ∙ sym (left_more task formulas operands place d number within)
