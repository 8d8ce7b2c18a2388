use Rattle.std.proofs.Common.{◌≡◌, ℕ, zero, suc, ◌<◌, ◌∙◌, Bool, true, List, Some, [], ◌∷◌, ap}
use Rattle.std.proofs.Common.{arith, get_or, refl, subst, sym}
use Rattle.std.specs.List.{slice_get}
use Rattle.std.proofs.lemmas.Option.{get_or_from_slice_get, slice_get_within}
use Rattle.hv_task.specs.State.{AreBelow}
use Rattle.hv_task.specs.Strips.{Strips, atoms}
use Rattle.hv_sets.specs.Cost.{clauses_of}
use Rattle.hv_sets.specs.declared.literal.Literal.{Literal}
use Rattle.hv_sets.specs.declared.operand.Which.{Which}
use Rattle.hv_sets.specs.declared.operand.Which.TheVariants as W
use Rattle.hv_sets.specs.Cubes.{SpeakBelow}
use Rattle.hv_indexes.specs.Places.{clause_at}
use Rattle.hv_propagation.specs.Effect.{late}
use Rattle.hv_propagation.specs.Trail.{marks_of}
use Rattle.hv_propagation.specs.Units.{AreFalse, IsConcluded}
use Rattle.hv_propagation.proofs.Chasing.{grows_same}
use Rattle.hv_propagation.proofs.Marked.{extends_same}
use Rattle.hv_clauses.specs.Working.Operands.{clauses_in}
use Rattle.hv_clauses.proofs.Deciding.{set_within}
use Rattle.hv_clauses.proofs.OperandClauses.{made_goal, made_start, one_below}
use Rattle.hv_clauses.proofs.OperandRounds.{denied_same}
use Rattle.hv_clauses.specs.Working.Posed.{formulas, sizes}
use Rattle.hv_clauses.proofs.choices.deny_clause.Goals as goal

-- a place among the clauses of the initial state is an atom of the task
place_below : (task : Strips) (sizes : ℕ → ℕ) (which : Which) (place : ℕ)
    → place < clauses_of task sizes which → which ≡ W.Start
    → place < atoms task
place_below task sizes which place less is = subst (λ w. place < clauses_of task sizes w) is less

pub start_literal-literal-requires : goal.start_literal-literal-requires
start_literal-literal-requires g c =
    let p = c.args.problem.now in
    place_below p.task (sizes p) c.args.operand.which c.args.place c.requires.place c.in-Start.is

pub returns-in-Start-clause-denied : goal.returns-in-Start-clause-denied
returns-in-Start-clause-denied g c =
    let p = c.args.problem.now in
    let less = place_below p.task (sizes p) c.args.operand.which c.args.place
    c.requires.place c.in-Start.is in
    denied_same _ _ _ _ _ c.from_ref.result.now _ c.seen-seen.ensures (
    made_start (atoms p.task) p.task.start c.args.place
    c.start_literal-literal.result c.from_ref.result.now
    c.from_ref.ensures.value c.start_literal-literal.ensures less
    ∙ ap (λ w. clause_at (clauses_in p.task (formulas p) w) c.args.place) (sym c.in-Start.is)
    ) c.deny.ensures.denied

-- the literal of the goal atom at a place
goal_literal_is : (items : List ℕ) (place atom : ℕ) (literal : Literal)
    → slice_get items place ≡ Some atom
    → literal ≡ record { atom = atom; positive = true }
    → literal ≡ record { atom = get_or items place 0; positive = true }
goal_literal_is items place atom literal named e =
    e ∙ ap {B = Literal} (λ a. record { atom = a; positive = true })
    (sym (get_or_from_slice_get items place atom 0 named))

goal_atom_below : (bound : ℕ) (items : List ℕ) (place atom : ℕ) → AreBelow bound items
    → slice_get items place ≡ Some atom
    → atom < bound
goal_atom_below bound items place atom below named =
    subst (λ a. a < bound) (get_or_from_slice_get items place atom 0 named)
    (below place 0 (slice_get_within items place atom named))

pub deny-requires-in-Goal : goal.deny-requires-in-Goal
deny-requires-in-Goal g c =
    let below = goal_atom_below (atoms c.args.problem.now.task) c.goal.result.now c.args.place
    c.get.result c.goal.ensures.below c.get.ensures in
    let atom = ap (λ (l : Literal). l.atom) c.goal_literal-literal.ensures in
    one_below _ _ _ c.from_ref-in-Goal.ensures.value (omega (arith, below, atom, c.requires.size))

pub returns-in-Goal-clause-denied : goal.returns-in-Goal-clause-denied
returns-in-Goal-clause-denied g c =
    let p = c.args.problem.now in
    denied_same _ _ _ _ _ c.from_ref-in-Goal.result.now _ c.seen-seen.ensures (
    made_goal p.task.goal c.goal.result.now c.args.place _ c.from_ref-in-Goal.result.now
    c.from_ref-in-Goal.ensures.value
    (goal_literal_is c.goal.result.now c.args.place c.get.result _ c.get.ensures
    c.goal_literal-literal.ensures)
    c.goal.ensures.goal (slice_get_within c.goal.result.now c.args.place c.get.result c.get.ensures)
    ∙ ap (λ w. clause_at (clauses_in p.task (formulas p) w) c.args.place) (sym c.in-Goal.is)
    ) c.deny-in-Goal.ensures.denied

pub set-requires : goal.set-requires
set-requires g c =
    set_within c.args.problem.now c.args.operand.which _ c.args.place c.in-Set.is c.requires.place

pub deny-requires-in-Set : goal.deny-requires-in-Set
deny-requires-in-Set g c =
    let clause = c.get-in-Set.result.now in
    let clauses = c.clauses-clauses.result.now in
    let within = slice_get_within clauses c.args.place clause c.get-in-Set.ensures in
    subst (λ n. SpeakBelow n clause) (c.set.ensures.atoms ∙ sym c.requires.size)
    (subst (λ ls. SpeakBelow c.set.result.now.atoms ls)
    (get_or_from_slice_get clauses c.args.place clause clause c.get-in-Set.ensures)
    (c.clauses-clauses.ensures.below c.args.place clause within))

pub returns-in-Set-clause-denied : goal.returns-in-Set-clause-denied
returns-in-Set-clause-denied g c =
    let p = c.args.problem.now in
    let clause = c.get-in-Set.result.now in
    let clauses = c.clauses-clauses.result.now in
    denied_same _ _ _ _ _ clause _ c.seen-seen.ensures (
    sym (get_or_from_slice_get clauses c.args.place clause [] c.get-in-Set.ensures)
    ∙ (ap (λ cs. clause_at cs c.args.place)
    (c.clauses-clauses.ensures.clauses ∙ c.set.ensures.clauses)
    ∙ ap (λ w. clause_at (clauses_in p.task (formulas p) w) c.args.place) (sym c.in-Set.is))
    ) c.deny-in-Set.ensures.denied

-- the empty set has the clause without literals alone
empty_at : (place : ℕ) → clause_at ([] ∷ []) place ≡ []
empty_at zero = refl
empty_at (suc place) = refl

-- where nothing has to be denied, nothing is done
denied_none : (P : List Bool → Type 0) (e m : List ℕ) (clause : List Literal) → clause ≡ []
    → IsConcluded P (AreFalse e clause) m m true
denied_none P e m clause none = record {
  size = refl;
  grows = extends_same m;
  follows = λ state size holds agrees. agrees;
  broken = λ is. absurd cc;
  done = λ _. subst (λ c. AreFalse e c m) (sym none) (λ k d within. absurd (omega arith));
}

pub returns-in-Empty-clause-denied : goal.returns-in-Empty-clause-denied
returns-in-Empty-clause-denied g c =
    let p = c.args.problem.now in
    denied_none _ (late p.effect c.args.operand.after) (marks_of c.args.marks.now) _
    (ap (λ w. clause_at (clauses_in p.task (formulas p) w) c.args.place) c.in-Empty.is
    ∙ empty_at c.args.place)

pub returns-in-Empty-clause-grown : goal.returns-in-Empty-clause-grown
returns-in-Empty-clause-grown g c = grows_same c.args.marks.now

pub returns-in-Start-clause-grown : goal.returns-in-Start-clause-grown
returns-in-Start-clause-grown g c = c.deny.ensures.grown

pub returns-in-Goal-clause-grown : goal.returns-in-Goal-clause-grown
returns-in-Goal-clause-grown g c = c.deny-in-Goal.ensures.grown

pub returns-in-Set-clause-grown : goal.returns-in-Set-clause-grown
returns-in-Set-clause-grown g c = c.deny-in-Set.ensures.grown
