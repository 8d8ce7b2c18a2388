-- What a query says before its action, which is the same for each action.
use Rattle.std.specs.Prelude.{◌≡◌, ◌<◌, ◌≤◌, ⊤, ℕ, Bool, true, false, List, [], IfSome}
use Rattle.std.specs.Prelude.{length}
use Rattle.std.specs.Option.{MatchOption}
use Rattle.std.specs.List.{All}
use Rattle.hv_sets.specs.Query.{in_which}
use Rattle.hv_clauses.specs.Store.{tests_of}
use Rattle.hv_clauses.specs.declared.find.Means.{Means}
use Rattle.hv_clauses.specs.declared.opening.Opening.{Opening}
use Rattle.hv_clauses.specs.declared.opening.Begun.{Begun}
use Rattle.hv_clauses.specs.Working.Found.{IsAskedTwice}
use Rattle.hv_clauses.specs.Working.Posed.{ProblemState, choices, formulas, width}
use Rattle.hv_clauses.specs.Working.Problem.{IsLeft}
use Rattle.hv_clauses.specs.Working.Start.{HoldInEach, IsBasedOn}
use Rattle.hv_propagation.specs.Marks.{Agrees}
use Rattle.hv_propagation.specs.Trail.{Knowledge, marks_of}
use Rattle.hv_clauses.specs.declared.opening.Opening.TheVariants as O
use Rattle.hv_clauses.specs.declared.opening.Begun.TheVariants as B

-- the state is in each positive operand that is asked about before the action
abbrev pub InEarly : ProblemState → List Bool → Type 0
InEarly p state = All (λ o. o.after ≡ false
    → in_which p.task (tests_of (formulas p)) o.which state ≡ true) p.query.positive

-- what the marks say is so in each such state
abbrev pub HoldInEarly : ProblemState → List ℕ → Type 0
HoldInEarly p marks = (state : List Bool) → length state ≡ width p → InEarly p state
    → Agrees marks state

-- the clauses of each positive operand that is asked about before the action tell nothing more than
-- what comes from the trail from a place on
abbrev pub AreEarlyLeft : ProblemState → Knowledge → ℕ → Type 0
AreEarlyLeft p knowledge from = All (λ o. o.after ≡ false
    → IsLeft p.task (formulas p) [] o.which knowledge from) p.query.positive

-- what is known of the query, whatever its action: nothing; or that no state is in each positive
-- operand that is asked about before the action; or what these say, of which nothing is left to be
-- followed up
abbrev pub IsOpened : ProblemState → Opening → Knowledge → Type 0
IsOpened p O.Unasked knowledge = ⊤
IsOpened p O.Never knowledge =
    (state : List Bool) → length state ≡ width p → InEarly p state → ⊥
IsOpened p O.Closed knowledge =
    AreEarlyLeft p knowledge (length knowledge.trail) × HoldInEarly p (marks_of knowledge)
IsOpened p O.Anew knowledge = ⊤

-- What of the positive operands comes from the trail from a place on: of those before the action
-- all that isn't known; or where the trail begins, of one, whose clauses tell more only if the
-- effect makes a literal of them false. Nothing is said of the others.
abbrev pub IsBegunFrom : ProblemState → Begun → Knowledge → ℕ → Type 0
IsBegunFrom p B.Early knowledge from = AreEarlyLeft p knowledge from
IsBegunFrom p (B.From rooted) knowledge from =
    (from ≡ 0) × IsBasedOn p rooted knowledge.roots

-- what is known where a search begins is for the atoms of the task, it follows from the positive
-- operands, and nothing of it is left to be followed up for those of which it is known
pub record IsBegunWith (p : ProblemState) (begun : Begun) (knowledge : Knowledge) : Type 0 where
  pub wide : length knowledge.roots ≡ width p
  pub follows : HoldInEach p (marks_of knowledge)
  pub from : IsBegunFrom p begun knowledge (length knowledge.trail)

-- the operand that is said to be asked about twice is, if there is one
abbrev pub AreMeans : ProblemState → Means → Type 0
AreMeans p means = IfSome means.twin (IsAskedTwice p)

-- and the cost is the number of choices, if that is within the budget
abbrev pub AreMeansWithin : ProblemState → ℕ → Means → Type 0
AreMeansWithin p budget means =
    MatchOption means.cost (budget < choices p) (λ cost. (cost ≡ choices p) × (cost ≤ budget))
    × AreMeans p means
