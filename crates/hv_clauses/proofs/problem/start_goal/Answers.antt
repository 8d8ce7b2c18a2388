use Rattle.std.proofs.Common.{◌≡◌, ℕ, ◌<◌, ◌∙◌, List, Some, true, length, get_or, refl, sym, ap}
use Rattle.std.proofs.Common.{arith, below_more, subst}
use Rattle.std.proofs.lemmas.List.{length-map}
use Rattle.hv_task.specs.State.{AreBelow, has_atom}
use Rattle.hv_task.specs.Strips.{atoms}
use Rattle.hv_sets.specs.declared.literal.Literal.{Literal}
use Rattle.hv_sets.specs.Truth.{in_literal}
use Rattle.hv_clauses.specs.Working.Operands.{unit}
use Rattle.hv_propagation.specs.Marks.{over}
use Rattle.hv_propagation.specs.Trail.{marks_of}
use Rattle.hv_propagation.specs.Units.{value_of}
use Rattle.hv_propagation.proofs.Chasing.{followed_then}
use Rattle.hv_propagation.proofs.Effects.{list_all_get}
use Rattle.hv_propagation.proofs.Marked.{value_extends}
use Rattle.hv_clauses.proofs.OperandClauses.{clause_of_goal_at, clauses_of_goal}
use Rattle.hv_clauses.proofs.Problems.{followed_from, units_settled}
use Rattle.hv_clauses.proofs.problem.start_goal.Goals as goal

goal_below : (bound : ℕ) (goal items : List ℕ) (place : ℕ) (literal : Literal)
    → AreBelow bound goal → items ≡ goal → place < length items
    → literal ≡ record { atom = get_or items place 0; positive = true } → literal.atom < bound
goal_below bound goal items place literal below same less e =
    subst (λ (l : Literal). l.atom < bound) (sym e)
    (subst (AreBelow bound) (sym same) below place 0 less)

pub force-requires : goal.force-requires
force-requires g c =
    let wide = ap length c.loop-atom.invariant.followed.roots in
    let same = c.as_slice-goal.ensures.items in
    let low = goal_below (atoms c.args.problem.now.task) c.goal.result.now
    c.as_slice-goal.result.now c.loop-atom.atom-index c.goal_literal-literal.result
    c.goal.ensures.below same c.loop-atom-test.true c.goal_literal-literal.ensures in
    omega (arith, low, wide, c.requires.size)

pub returns-then-not-force-clause-followed : goal.returns-then-not-force-clause-followed
returns-then-not-force-clause-followed g c =
    let task = c.args.problem.now.task in
    let e = c.args.effect.now in
    let same = c.as_slice-goal.ensures.items ∙ c.goal.ensures.goal in
    followed_then _ (λ s. in_literal c.goal_literal-literal.result (over e s) ≡ true) _ _ _ _
    (λ s size holds. ap (λ (l : Literal). in_literal l (over e s)) c.goal_literal-literal.ensures
    ∙ (ap (λ xs. has_atom (over e s) (get_or xs c.loop-atom.atom-index 0)) same
    ∙ list_all_get (λ p. has_atom (over e s) p) task.goal c.loop-atom.atom-index 0 holds
    (let less = c.loop-atom-test.true in let wide = ap length same in omega arith)))
    c.loop-atom.invariant.followed (followed_from _ _ _ _ _ c.if-not-force.ensures.forced
    c.if-not-force.ensures.grown)

pub loop-atom-preserved : goal.loop-atom-preserved
loop-atom-preserved g c =
    let task = c.args.problem.now.task in
    let e = c.args.effect.now in
    let same = c.as_slice-goal.ensures.items ∙ c.goal.ensures.goal in
    record {
      followed = followed_then _ (λ s. in_literal c.goal_literal-literal.result (over e s) ≡ true) _
          _ _ _
          (λ s size holds. ap (λ (l : Literal). in_literal l (over e s))
          c.goal_literal-literal.ensures
          ∙ (ap (λ xs. has_atom (over e s) (get_or xs c.loop-atom.atom-index 0)) same
          ∙ list_all_get (λ p. has_atom (over e s) p) task.goal c.loop-atom.atom-index 0 holds
          (let less = c.loop-atom-test.true in let wide = ap length same in omega arith)))
          c.loop-atom.invariant.followed (followed_from _ _ _ _ _ c.if-not-force.ensures.forced
          c.if-not-force.ensures.grown);
      done = below_more (λ k. value_of e (marks_of c.force.new.marks)
          (record { atom = get_or c.as_slice-goal.result.now k 0; positive = true }) ≡ Some true)
          c.loop-atom.atom-index
          (λ k lower. value_extends e (marks_of c.loop-atom.marks) (marks_of c.force.new.marks)
          (record { atom = get_or c.as_slice-goal.result.now k 0; positive = true }) true
          c.if-not-force.ensures.grown.grows (c.loop-atom.invariant.done k lower))
          (subst (λ (l : Literal). value_of e (marks_of c.force.new.marks) l ≡ Some true)
          c.goal_literal-literal.ensures (c.if-not-force.ensures.forced.done refl));
    }

pub returns-clause-settled : goal.returns-clause-settled
returns-clause-settled g c = λ _.
    let task = c.args.problem.now.task in
    let long = length-map task.goal (λ atom. unit atom true) in
    let end = c.loop-atom-test.false in
    let same = c.as_slice-goal.ensures.items ∙ c.goal.ensures.goal in
    let wide = ap length same in
    units_settled c.args.effect.now (marks_of c.loop-atom.marks) (clauses_of_goal task.goal)
    (λ k. record { atom = get_or c.as_slice-goal.result.now k 0; positive = true })
    (λ k less. clause_of_goal_at task.goal k 0 (omega arith)
    ∙ ap (λ xs. unit (get_or xs k 0) true) (sym same))
    (λ k less. c.loop-atom.invariant.done k (omega arith))
