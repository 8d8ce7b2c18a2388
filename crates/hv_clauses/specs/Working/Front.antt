-- Choices that have the clauses of the last negative operands in common.
use Rattle.std.specs.Prelude.{◌≡◌, ◌<◌, ◌≤◌, ◌+◌, ◌*◌, ◌/◌, ℕ, Bool, List, length, drop, take}
use Rattle.hv_sets.specs.Cost.{choices_of}
use Rattle.hv_sets.specs.Query.{action_of}
use Rattle.hv_clauses.specs.Working.Choices.{AreChosenFalse, Breaks}
use Rattle.hv_clauses.specs.Working.Enabling.{IsEnabled}
use Rattle.hv_propagation.specs.Marks.{Agrees}
use Rattle.hv_clauses.specs.Working.Posed.{Applies, InEach, ProblemState, choices, formulas, sizes}
use Rattle.hv_clauses.specs.Working.Posed.{width}
use Rattle.hv_clauses.specs.Working.Problem.{AreLeft, FitsChoice}
use Rattle.hv_propagation.specs.Trail.{Knowledge, marks_of}

-- the action is applicable in the state, which is in each positive operand, and is in none of the
-- clauses that the number chooses of the negative operands from a place on
pub record FitsFrom (p : ProblemState) (place number : ℕ) (state : List Bool) : Type 0 where
  pub applies : Applies p state
  pub inside : InEach p state
  pub outside : Breaks p.task (formulas p) p.effect (drop place p.query.negative) number state

-- no state fits the clauses that the number chooses of the negative operands from a place on
abbrev pub IsNever : ProblemState → ℕ → ℕ → Type 0
IsNever p place number = (state : List Bool) → length state ≡ width p
    → FitsFrom p place number state → ⊥

-- no state fits a choice with a number from the first one on and below the second
abbrev pub AreRefuted : ProblemState → ℕ → ℕ → Type 0
AreRefuted p from upto = (number : ℕ) → from ≤ number → number < upto → (state : List Bool)
    → length state ≡ width p → FitsChoice p number state → ⊥

-- What is known follows for each state that fits the clauses that the number chooses of the
-- negative operands from a place on. It says that these are false and the action is applicable, and
-- nothing is left to be followed up.
pub record IsFront (p : ProblemState) (place number : ℕ) (knowledge : Knowledge) : Type 0 where
  pub wide : length knowledge.roots ≡ width p
  pub follows : (state : List Bool) → length state ≡ width p → FitsFrom p place number state
      → Agrees (marks_of knowledge) state
  pub enabled : IsEnabled (action_of p.task p.query.action) (marks_of knowledge)
  pub denied : AreChosenFalse p.task (formulas p) p.effect (drop place p.query.negative) number
      (marks_of knowledge)
  pub left : AreLeft p knowledge (length knowledge.trail)

-- how many choices there are of the negative operands before this place: choices with the same
-- clauses of the others are in one block of so many numbers
abbrev pub block_length : ProblemState → ℕ → ℕ
block_length p place = choices_of p.task (sizes p) (take place p.query.negative)

-- the end of the block of this size in which the number is
abbrev pub block_end : ℕ → ℕ → ℕ
block_end number size = (number / size + 1) * size

-- No choice with a number from the first one on and below the second fits any state, and what is
-- known is for the clauses that the second chooses of the operands from a place on.
pub record IsAdvanced (p : ProblemState) (place from upto : ℕ) (knowledge : Knowledge) : Type 0
  where
    pub ahead : from ≤ upto
    pub below : upto < choices p
    pub refuted : AreRefuted p from upto
    pub front : IsFront p place (upto / block_length p place) knowledge
