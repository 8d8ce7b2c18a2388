-- What a state has to keep to be a counterexample to a query, once a clause of each negative
-- operand is chosen.
use Rattle.std.specs.Prelude.{◌≡◌, ℕ, Bool, true, false, List}
use Rattle.std.specs.List.{All}
use Rattle.hv_task.specs.Strips.{Strips}
use Rattle.hv_sets.specs.declared.literal.Literal.{Literal}
use Rattle.hv_sets.specs.declared.operand.Operand.{Operand}
use Rattle.hv_sets.specs.declared.operand.Which.{Which}
use Rattle.hv_sets.specs.Query.{in_which}
use Rattle.hv_sets.specs.Truth.{in_clause}
use Rattle.hv_indexes.specs.Places.{clause_at}
use Rattle.hv_clauses.specs.Store.{tests_of}
use Rattle.hv_propagation.specs.Marks.{over}
use Rattle.hv_propagation.specs.Chase.{AreKept}
use Rattle.hv_clauses.specs.Working.Choices.{AreChosenFalse, Breaks}
use Rattle.hv_clauses.specs.Working.Operands.{clauses_in}
use Rattle.hv_propagation.specs.Effect.{late}
use Rattle.hv_clauses.specs.Working.Posed.{Applies, InEach, ProblemState, formulas}
use Rattle.hv_propagation.specs.Trail.{Knowledge, marks_of}
use Rattle.hv_propagation.specs.Units.{AreFalse, AreSettled}
use Rattle.hv_sets.specs.declared.operand.Which.TheVariants as W

-- the clauses of an operand, seen through this effect, tell nothing more than what comes from the
-- trail from a place on
abbrev pub IsLeft : Strips → (ℕ → List (List Literal)) → List ℕ → Which → Knowledge → ℕ → Type 0
IsLeft task formulas effect W.Empty knowledge from =
    AreSettled effect (clauses_in task formulas W.Empty) (marks_of knowledge)
IsLeft task formulas effect W.Start knowledge from =
    AreSettled effect (clauses_in task formulas W.Start) (marks_of knowledge)
IsLeft task formulas effect W.Goal knowledge from =
    AreSettled effect (clauses_in task formulas W.Goal) (marks_of knowledge)
IsLeft task formulas effect (W.Set number) knowledge from =
    AreKept effect (formulas number) knowledge from

-- the state, seen through the effect where that is meant, is in what the operand names
abbrev pub InOne : ProblemState → Operand → List Bool → Type 0
InOne p operand state = in_which p.task (tests_of (formulas p)) operand.which
    (over (late p.effect operand.after) state) ≡ true

-- the clauses of the operand tell nothing more than what comes from the trail from a place on
abbrev pub IsLeftOf : ProblemState → Operand → Knowledge → ℕ → Type 0
IsLeftOf p operand knowledge from =
    IsLeft p.task (formulas p) (late p.effect operand.after) operand.which knowledge from

-- the clauses of each positive operand are settled
abbrev pub AreEachSettled : ProblemState → List ℕ → Type 0
AreEachSettled p marks = All (λ o. AreSettled (late p.effect o.after)
    (clauses_in p.task (formulas p) o.which) marks) p.query.positive

-- the clauses of each positive operand tell nothing more than what comes from the trail from a
-- place on
abbrev pub AreLeft : ProblemState → Knowledge → ℕ → Type 0
AreLeft p knowledge from = All (λ o. IsLeftOf p o knowledge from) p.query.positive

-- the state, seen through the effect where that is meant, is not in the clause of the operand at
-- this place
abbrev pub MissesClause : ProblemState → Operand → ℕ → List Bool → Type 0
MissesClause p operand place state =
    in_clause (clause_at (clauses_in p.task (formulas p) operand.which) place)
    (over (late p.effect operand.after) state) ≡ false

-- each literal of this clause is known to be false
abbrev pub IsMissed : ProblemState → Operand → ℕ → List ℕ → Type 0
IsMissed p operand place marks = AreFalse (late p.effect operand.after)
    (clause_at (clauses_in p.task (formulas p) operand.which) place) marks

-- the state is in none of the clauses that the number chooses of the negative operands
abbrev pub MissesAll : ProblemState → ℕ → List Bool → Type 0
MissesAll p number state = Breaks p.task (formulas p) p.effect p.query.negative number state

-- each literal of these clauses is known to be false
abbrev pub AreMissed : ProblemState → ℕ → List ℕ → Type 0
AreMissed p number marks =
    AreChosenFalse p.task (formulas p) p.effect p.query.negative number marks

-- the action is applicable in the state, which is in each positive operand, and is in none of the
-- clauses that the number chooses
pub record FitsChoice (p : ProblemState) (number : ℕ) (state : List Bool) : Type 0 where
  pub applies : Applies p state
  pub inside : InEach p state
  pub outside : MissesAll p number state
