use Rattle.std.proofs.Common.{◌≡◌, true, false, Some, arith}
use Rattle.std.specs.List.{All}
use Rattle.hv_sets.specs.Truth.{in_literal}
use Rattle.hv_propagation.specs.Marks.{over}
use Rattle.hv_propagation.specs.Units.{value_of, AreFalse}
use Rattle.hv_propagation.proofs.Marked.{value_extends}
use Rattle.hv_propagation.proofs.Rounds.{conclude_all, conclude_fails, conclude_more, conclude_same}
use Rattle.hv_propagation.proofs.Rounds.{read_at}
use Rattle.hv_propagation.proofs.Steps.{all_false, deny_one}
use Rattle.hv_propagation.specs.Trail.{marks_of}
use Rattle.hv_propagation.proofs.Chasing.{grows_then}
use Rattle.hv_propagation.proofs.literals.deny.Goals as goal

pub returns-then-not-force-clause-denied : goal.returns-then-not-force-clause-denied
returns-then-not-force-clause-denied c =
    let e = c.args.effect.now in
    let clause = c.args.clause.now in
    conclude_same (λ s. All (λ x. in_literal x (over e s) ≡ false) clause) _ (AreFalse e clause) _
    (marks_of c.args.marks.now) (marks_of c.force.new.marks) _
    (λ s size holds. all_false clause (over e s) holds) (λ w size all. all)
    (conclude_fails (λ x s. in_literal x (over e s) ≡ false)
    (λ x w. value_of e w x ≡ Some false) clause
    c.loop-literal.literal-index _ c.loop-literal-test.true
    (read_at clause c.loop-literal.literal-index _ c.loop-literal-test.true)
    (marks_of c.args.marks.now) (marks_of c.loop-literal.marks) (marks_of c.force.new.marks)
    c.loop-literal.invariant.concluded
    (deny_one e _ (marks_of c.loop-literal.marks) (marks_of c.force.new.marks) _
    c.if-not-force.ensures.forced))

pub loop-literal-preserved : goal.loop-literal-preserved
loop-literal-preserved c =
    let e = c.args.effect.now in
    let clause = c.args.clause.now in
    record {
      concluded = conclude_more (λ x s. in_literal x (over e s) ≡ false)
          (λ x w. value_of e w x ≡ Some false) clause
          c.loop-literal.literal-index _ c.loop-literal-test.true
          (read_at clause c.loop-literal.literal-index _ c.loop-literal-test.true)
          (marks_of c.args.marks.now) (marks_of c.loop-literal.marks) (marks_of c.force.new.marks)
          (λ old new x grows h. value_extends e old new x false grows h)
          c.loop-literal.invariant.concluded (deny_one e _ (marks_of c.loop-literal.marks)
          (marks_of c.force.new.marks) _ c.if-not-force.ensures.forced);
      grown = grows_then _ _ _ c.loop-literal.invariant.grown c.if-not-force.ensures.grown;
    }

pub returns-clause-denied : goal.returns-clause-denied
returns-clause-denied c =
    let e = c.args.effect.now in
    let clause = c.args.clause.now in
    conclude_same (λ s. All (λ x. in_literal x (over e s) ≡ false) clause) _ (AreFalse e clause) _
    (marks_of c.args.marks.now) (marks_of c.loop-literal.marks) true
    (λ s size holds. all_false clause (over e s) holds) (λ w size all. all)
    (conclude_all (λ x s. in_literal x (over e s) ≡ false)
    (λ x w. value_of e w x ≡ Some false) clause
    c.loop-literal.literal-index (omega arith) (omega arith) (marks_of c.args.marks.now)
    (marks_of c.loop-literal.marks) true c.loop-literal.invariant.concluded)

pub returns-then-not-force-clause-grown : goal.returns-then-not-force-clause-grown
returns-then-not-force-clause-grown c = grows_then _ _ _ c.loop-literal.invariant.grown
    c.if-not-force.ensures.grown
