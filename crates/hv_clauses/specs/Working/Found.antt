-- What a search for a counterexample finds.
use Rattle.std.specs.Prelude.{◌≡◌, ◌<◌, ◌≤◌, ℕ, Bool, true, false, not, List, Some, length}
use Rattle.std.specs.Prelude.{slice_get}
use Rattle.hv_sets.specs.declared.operand.Operand.{Operand}
use Rattle.hv_sets.specs.Names.{AsksAbout}
use Rattle.hv_sets.specs.Query.{IsNamed, action_of}
use Rattle.hv_clauses.specs.Working.Enabling.{IsEnabled}
use Rattle.hv_propagation.specs.Marks.{Agrees}
use Rattle.hv_clauses.specs.Working.Posed.{Applies, InEach, ProblemState, width}
use Rattle.hv_clauses.specs.Working.Problem.{AreLeft}
use Rattle.hv_propagation.specs.Trail.{Knowledge, marks_of}
use Rattle.hv_sets.specs.declared.operand.Which.TheVariants as W

-- this state of a task with so many atoms passes the test; or no state does
abbrev pub IsFound : Bool → ℕ → (List Bool → Bool) → List Bool → Type 0
IsFound true atoms test found = (length found ≡ atoms) × (test found ≡ true)
IsFound false atoms test found = (state : List Bool) → length state ≡ atoms → test state ≡ false

-- this state of a task with so many atoms meets the condition; or no state does
abbrev pub IsMet : Bool → ℕ → (List Bool → Type 0) → List Bool → Type 0
IsMet true atoms Holds found = (length found ≡ atoms) × Holds found
IsMet false atoms Holds found = (state : List Bool) → length state ≡ atoms → Holds state → ⊥

-- this state meets one of the conditions with a number below the bound; or no state meets any
abbrev pub IsMetBelow : Bool → ℕ → ℕ → (ℕ → List Bool → Type 0) → List Bool → Type 0
IsMetBelow true bound atoms Holds found =
    (number : ℕ) × (number < bound) × (length found ≡ atoms) × Holds number found
IsMetBelow false bound atoms Holds found = (number : ℕ) → number < bound → (state : List Bool)
    → length state ≡ atoms → Holds number state → ⊥

-- the marks follow for each state in which the action is applicable and that is in each positive
-- operand, and the action is applicable in each state that agrees with them
pub record AreRoots (p : ProblemState) (marks : List ℕ) : Type 0 where
  pub follows : (state : List Bool) → length state ≡ length marks → Applies p state
      → InEach p state → Agrees marks state
  pub enabled : IsEnabled (action_of p.task p.query.action) marks

-- what is known is for the atoms of the task, it is such a base, and nothing is left to be followed
-- up
pub record AreFollowedRoots (p : ProblemState) (knowledge : Knowledge) : Type 0 where
  pub wide : length knowledge.roots ≡ width p
  pub roots : AreRoots p (marks_of knowledge)
  pub left : AreLeft p knowledge (length knowledge.trail)

-- the same, where what the trail has from a place on is still to be followed up
pub record IsSearchBegun (p : ProblemState) (place : ℕ) (knowledge : Knowledge) : Type 0 where
  pub wide : length knowledge.roots ≡ width p
  pub roots : AreRoots p (marks_of knowledge)
  pub within : place ≤ length knowledge.trail
  pub left : AreLeft p knowledge place

-- this state meets one of the conditions with a number below the bound; or no state meets one of
-- those whose numbers are asked about
abbrev pub IsMetAmong : Bool → (ℕ → Type 0) → ℕ → ℕ → (ℕ → List Bool → Type 0) → List Bool → Type 0
IsMetAmong true Asked bound atoms Holds found = IsMetBelow true bound atoms Holds found
IsMetAmong false Asked bound atoms Holds found =
    (number : ℕ) → Asked number → (state : List Bool) → length state ≡ atoms
    → Holds number state → ⊥

-- this operand is in the list, and each other one is the empty set
pub record IsSole (operand : Operand) (operands : List Operand) : Type 0 where
  pub place : ℕ
  pub here : slice_get operands place ≡ Some operand
  pub before : (k : ℕ) (o : Operand) → k < place → slice_get operands k ≡ Some o → o.which ≡ W.Empty
  pub behind : (k : ℕ) (o : Operand) → place < k → slice_get operands k ≡ Some o → o.which ≡ W.Empty

-- The query has just this one negative operand, but for the empty set, and it is a set of the store
-- that is a positive operand at the other time.
pub record IsAskedTwice (p : ProblemState) (operand : Operand) : Type 0 where
  pub sole : IsSole operand p.query.negative
  pub set : (number : ℕ) × (operand.which ≡ W.Set number)
  pub stored : IsNamed (length p.store) operand.which
  pub named : AsksAbout p.query.positive operand.which (not operand.after)
