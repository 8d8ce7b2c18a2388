-- Why the choices of which the effect turns a literal are enough, where the set is a positive
-- operand at the other time.
use Rattle.std.proofs.Common.{◌≡◌, ℕ, zero, suc, ◌*◌, ◌/◌, ◌%◌, ◌<◌, ◌≤◌, ◌∙◌, Bool, true, false}
use Rattle.std.proofs.Common.{not, cond, List, [], ◌∷◌, Some, length, slice_get, refl, ap, arith}
use Rattle.std.proofs.Common.{get_or, inl, inr, subst}
use Rattle.std.proofs.Math.Nat.{mod-eq_of_lt}
use Rattle.std.proofs.lemmas.Bool.{cases_lt}
use Rattle.std.proofs.lemmas.List.{get_or_default}
use Rattle.std.proofs.lemmas.Option.{slice_get_within}
use Rattle.std.specs.List.{All, Contains}
use Rattle.std.specs.List.Sorted.{IsStrictlyIncreasing}
use Rattle.hv_task.proofs.Rising.{rises_upto}
use Rattle.hv_task.specs.Working.AtomList.{IsFirstFrom}
use Rattle.hv_task.specs.Strips.{Strips}
use Rattle.hv_sets.specs.declared.literal.Literal.{Literal}
use Rattle.hv_sets.specs.declared.operand.Operand.{Operand}
use Rattle.hv_sets.specs.declared.operand.Which.TheVariants as W
use Rattle.hv_sets.specs.Cost.{choices_of, clauses_of}
use Rattle.hv_sets.specs.Cubes.{SpeakBelow}
use Rattle.hv_sets.specs.Names.{AsksAbout}
use Rattle.hv_sets.specs.Truth.{in_clause}
use Rattle.hv_indexes.specs.Places.{clause_at}
use Rattle.hv_clauses.specs.Store.{sizes_of}
use Rattle.hv_clauses.specs.Working.Choices.{Breaks}
use Rattle.hv_clauses.specs.Working.Operands.{clauses_in}
use Rattle.hv_propagation.specs.Effect.{late}
use Rattle.hv_clauses.specs.Working.Found.{IsAskedTwice, IsMetAmong, IsMetBelow}
use Rattle.hv_propagation.specs.Marks.{known, over, Agrees}
use Rattle.hv_clauses.specs.Working.Affected.{turning_sign, IsTurnedBy}
use Rattle.hv_clauses.specs.Working.Posed.{ProblemState, choices, formulas, sizes, width}
use Rattle.hv_clauses.specs.Working.Problem.{FitsChoice}
use Rattle.hv_propagation.specs.Units.{value_of}
use Rattle.hv_clauses.proofs.RefutedChoices.{framed_true, known_true}
use Rattle.hv_propagation.proofs.Untouched.{made_value, turned_or}

-- what an atom of a turned literal is made, and the sign of the literal
pub turned_by : (effect : List ℕ) (after : Bool) (l : Literal)
    → value_of effect [] l ≡ Some (not after)
    → (v : Bool) × (known effect l.atom ≡ Some v) × (l.positive ≡ turning_sign after v)
turned_by effect after l h =
    let made = made_value effect l (not after) h in
    (made.0, made.1, sign after made.0 l.positive made.2)
  where
    sign : (after v positive : Bool) → cond positive v (not v) ≡ not after
        → positive ≡ turning_sign after v
    sign true true true e = absurd cc
    sign true true false e = refl
    sign true false true e = refl
    sign true false false e = absurd cc
    sign false true true e = refl
    sign false true false e = absurd cc
    sign false false true e = absurd cc
    sign false false false e = refl

-- a clause of which the effect turns no literal by an atom of either value
pub all_held : (effect : List ℕ) (after : Bool) (clauses : List (List Literal)) (number : ℕ)
    → number < length clauses
    → ((v : Bool) → IsTurnedBy effect v (turning_sign after v) clauses number → ⊥)
    → All (λ l. value_of effect [] l ≡ Some (not after) → ⊥) (clause_at clauses number)
all_held effect after clauses number less apart =
    elim (turned_or effect (not after) (clause_at clauses number)) [
      | inl all ↦ all
      | inr some ↦
          let by = turned_by effect after some.0 some.2 in
          absurd (apart by.0 (record {
            atom = some.0.atom;
            made = by.1;
            stands = record {
              among = less;
              has = subst (λ (s : Bool). Contains (clause_at clauses number)
                  (record { atom = some.0.atom; positive = s })) by.2 some.1;
            };
          }))
    ]

-- rising numbers, of which one begins a part, have none between a number and what that one is
pub none_between : (xs : List ℕ) (from at next : ℕ) → IsStrictlyIncreasing xs
    → IsFirstFrom xs from at → (at < length xs → next ≤ get_or xs at 0)
    → (n : ℕ) → Contains xs n → from ≤ n → n < next → ⊥
none_between xs from at next rises first upto n has ahead early =
    let here = get_or_default xs has.0 0 n has.1 ∙ has.2 in
    elim (cases_lt has.0 at) [
      | inl before ↦ let less = first.before has.0 before in omega arith
      | inr past ↦
          let within : at < length xs = omega (arith, has.1) in
          let more = rises_upto xs at has.0 rises past has.1 in
          let low = upto within in omega arith
    ]

-- Operands of which all but one are the empty set.
module _ (task : Strips) (formulas : ℕ → List (List Literal)) (effect : List ℕ) where
  all_empty : (os : List Operand) → ((k : ℕ) (o : Operand) → slice_get os k ≡ Some o
      → o.which ≡ W.Empty)
      → choices_of task (sizes_of formulas) os ≡ 1
  all_empty [] empty = refl
  all_empty (o ∷ os) empty =
      let rest = all_empty os (λ k p at. empty (suc k) p at) in
      let first : choices_of task (sizes_of formulas) (o ∷ os)
      ≡ 1 * choices_of task (sizes_of formulas) os =
      ap (λ w. clauses_of task (sizes_of formulas) w * choices_of task (sizes_of formulas) os)
      (empty 0 o refl) in
      omega arith

  -- there are as many choices as the one has clauses
  sole_choices : (os : List Operand) (place : ℕ) (operand : Operand)
      → slice_get os place ≡ Some operand
      → ((k : ℕ) (o : Operand) → k < place → slice_get os k ≡ Some o → o.which ≡ W.Empty)
      → ((k : ℕ) (o : Operand) → place < k → slice_get os k ≡ Some o → o.which ≡ W.Empty)
      → choices_of task (sizes_of formulas) os ≡ clauses_of task (sizes_of formulas) operand.which
  sole_choices [] place operand here before behind = absurd
      (omega (arith, slice_get_within [] place operand here))
  sole_choices (o ∷ os) zero operand here before behind =
      let one : Some o ≡ Some operand = here in
      let same : o ≡ operand = cc in
      let rest = all_empty os (λ k p at. behind (suc k) p (omega arith) at) in
      let whole : choices_of task (sizes_of formulas) (o ∷ os)
      ≡ clauses_of task (sizes_of formulas) o.which * 1 =
      ap (λ n. clauses_of task (sizes_of formulas) o.which * n) rest in
      let named : clauses_of task (sizes_of formulas) o.which
      ≡ clauses_of task (sizes_of formulas) operand.which =
      ap (λ (x : Operand). clauses_of task (sizes_of formulas) x.which) same in
      omega arith
  sole_choices (o ∷ os) (suc place) operand here before behind =
      let rest = sole_choices os place operand here
      (λ k p less at. before (suc k) p (omega arith) at)
      (λ k p more at. behind (suc k) p (omega arith) at) in
      let first : choices_of task (sizes_of formulas) (o ∷ os)
      ≡ 1 * choices_of task (sizes_of formulas) os =
      ap (λ w. clauses_of task (sizes_of formulas) w * choices_of task (sizes_of formulas) os)
      (before 0 o (omega arith) refl) in
      omega arith

  -- and a choice is one of its clauses
  sole_breaks : (os : List Operand) (place : ℕ) (operand : Operand)
      → slice_get os place ≡ Some operand
      → ((k : ℕ) (o : Operand) → k < place → slice_get os k ≡ Some o → o.which ≡ W.Empty)
      → (number : ℕ) (state : List Bool) → Breaks task formulas effect os number state
      → in_clause (clause_at (clauses_in task formulas operand.which)
      (number % length (clauses_in task formulas operand.which)))
      (over (late effect operand.after) state) ≡ false
  sole_breaks [] place operand here before number state breaks = absurd
      (omega (arith, slice_get_within [] place operand here))
  sole_breaks (o ∷ os) zero operand here before number state breaks =
      let one : Some o ≡ Some operand = here in
      let same : o ≡ operand = cc in
      subst (λ (x : Operand). in_clause (clause_at (clauses_in task formulas x.which)
      (number % length (clauses_in task formulas x.which))) (over (late effect x.after) state)
      ≡ false) same breaks.0
  sole_breaks (o ∷ os) (suc place) operand here before number state breaks =
      let next : Breaks task formulas effect os (number / 1) state =
      subst (λ w. Breaks task formulas effect os (number / length (clauses_in task formulas w))
      state) (before 0 o (omega arith) refl) breaks.1 in
      let same : number / 1 ≡ number = omega arith in
      sole_breaks os place operand here (λ k p less at. before (suc k) p (omega arith) at) number
      state
      (subst (λ n. Breaks task formulas effect os n state) same next)

-- The one negative operand is a set of the store that is a positive operand at the other time.
module _ (p : ProblemState) (operand : Operand) (set : ℕ) (asked_twice : IsAskedTwice p operand)
    (is : operand.which ≡ W.Set set) where
  pub choices_are : choices p ≡ length (formulas p set)
  choices_are =
      sole_choices p.task (formulas p) p.effect p.query.negative asked_twice.sole.place operand
      asked_twice.sole.here asked_twice.sole.before asked_twice.sole.behind
      ∙ ap (clauses_of p.task (sizes p)) is

  -- a state that fits the choice of a clause is not in it
  broken_at : (number : ℕ) (state : List Bool) → number < choices p → FitsChoice p number state
      → in_clause (clause_at (formulas p set) number) (over (late p.effect operand.after) state)
      ≡ false
  broken_at number state less fits =
      let seen = over (late p.effect operand.after) state in
      let breaks = sole_breaks p.task (formulas p) p.effect p.query.negative asked_twice.sole.place
      operand asked_twice.sole.here asked_twice.sole.before number state fits.outside in
      let within : number < length (formulas p set) = omega (arith, choices_are) in
      subst (λ n. in_clause (clause_at (formulas p set) n) seen ≡ false) (mod-eq_of_lt within)
      (subst (λ w. in_clause (clause_at (clauses_in p.task (formulas p) w)
      (number % length (clauses_in p.task (formulas p) w))) seen ≡ false) is breaks)

  -- no state fits the choice of a clause of which the effect turns no literal
  held_none : (number : ℕ) (state : List Bool) → number < choices p
      → All (λ l. value_of p.effect [] l ≡ Some (not operand.after) → ⊥)
      (clause_at (formulas p set) number) → FitsChoice p number state → ⊥
  held_none number state less held fits =
      framed_true p.task (formulas p) p.effect p.query.positive set operand.after number state
      (omega (arith, less, choices_are))
      (subst (λ w. AsksAbout p.query.positive w (not operand.after)) is asked_twice.named) held
      fits.inside (broken_at number state less fits)

  -- no state that agrees with what is known fits the choice of a clause of which a literal is true
  pub known_none : (roots : List ℕ) (number : ℕ) (state : List Bool) → number < choices p
      → SpeakBelow (length state) (clause_at (formulas p set) number)
      → ((l : Literal) × Contains (clause_at (formulas p set) number) l
      × (value_of (late p.effect operand.after) roots l ≡ Some true))
      → Agrees roots state → FitsChoice p number state → ⊥
  known_none roots number state less below found agrees fits =
      known_true (late p.effect operand.after) roots (clause_at (formulas p set) number)
      (length state) state below refl found agrees (broken_at number state less fits)

  -- so it is enough to try the clauses of which it turns one
  pub met_from_touched : (middle found : List Bool)
      → IsMetAmong false
      (IsTurnedBy p.effect false (turning_sign operand.after false) (formulas p set))
      (choices p) (width p) (FitsChoice p) middle → (result : Bool) → IsMetAmong result
      (IsTurnedBy p.effect true (turning_sign operand.after true) (formulas p set))
      (choices p) (width p) (FitsChoice p) found → IsMetBelow result (choices p) (width p)
      (FitsChoice p) found
  met_from_touched middle found first true second = second
  met_from_touched middle found first false second = λ number less state size fits.
      elim (turned_or p.effect (not operand.after) (clause_at (formulas p set) number)) [
        | inl all ↦ held_none number state less all fits
        | inr some ↦
            let by = turned_by p.effect operand.after some.0 some.2 in
            either number state size fits by.0 (record {
              atom = some.0.atom;
              made = by.1;
              stands = record {
                among = omega (arith, choices_are);
                has = subst (λ (s : Bool). Contains (clause_at (formulas p set) number)
                    (record { atom = some.0.atom; positive = s })) by.2 some.1;
              };
            })
      ]
    where
      either : (number : ℕ) (state : List Bool) → length state ≡ width p
          → FitsChoice p number state → (v : Bool)
          → IsTurnedBy p.effect v (turning_sign operand.after v) (formulas p set) number → ⊥
      either number state size fits true turned = second number turned state size fits
      either number state size fits false turned = first number turned state size fits
