use Rattle.std.proofs.Common.{◌≡◌, true, Some, arith}
use Rattle.std.proofs.lemmas.List.Sums.{AllPass-from_list_all}
use Rattle.std.specs.List.{All}
use Rattle.hv_sets.specs.Truth.{in_literal}
use Rattle.hv_propagation.specs.Marks.{over}
use Rattle.hv_propagation.specs.Units.{value_of, AreKnownTrue}
use Rattle.hv_propagation.proofs.Marked.{value_extends}
use Rattle.hv_propagation.proofs.Rounds.{conclude_all, conclude_fails, conclude_more, conclude_same}
use Rattle.hv_propagation.proofs.Rounds.{read_at}
use Rattle.hv_propagation.specs.Trail.{marks_of}
use Rattle.hv_propagation.proofs.Chasing.{grows_then}
use Rattle.hv_propagation.proofs.literals.force_all.Goals as goal

pub returns-then-not-force-clause-forced : goal.returns-then-not-force-clause-forced
returns-then-not-force-clause-forced c =
    let e = c.args.effect.now in
    let literals = c.args.literals.now in
    conclude_same (λ s. All (λ x. in_literal x (over e s) ≡ true) literals) _
    (AreKnownTrue e literals) _
    (marks_of c.args.marks.now) (marks_of c.force.new.marks) _
    (λ s size holds. AllPass-from_list_all (λ x. in_literal x (over e s)) literals holds)
    (λ w size all. all)
    (conclude_fails (λ x s. in_literal x (over e s) ≡ true)
    (λ x w. value_of e w x ≡ Some true) literals
    c.loop-literal.literal-index _ c.loop-literal-test.true
    (read_at literals c.loop-literal.literal-index _ c.loop-literal-test.true)
    (marks_of c.args.marks.now) (marks_of c.loop-literal.marks) (marks_of c.force.new.marks)
    c.loop-literal.invariant.concluded c.if-not-force.ensures.forced)

pub loop-literal-preserved : goal.loop-literal-preserved
loop-literal-preserved c =
    let e = c.args.effect.now in
    let literals = c.args.literals.now in
    record {
      concluded = conclude_more (λ x s. in_literal x (over e s) ≡ true)
          (λ x w. value_of e w x ≡ Some true) literals
          c.loop-literal.literal-index _ c.loop-literal-test.true
          (read_at literals c.loop-literal.literal-index _ c.loop-literal-test.true)
          (marks_of c.args.marks.now) (marks_of c.loop-literal.marks) (marks_of c.force.new.marks)
          (λ old new x grows h. value_extends e old new x true grows h)
          c.loop-literal.invariant.concluded c.if-not-force.ensures.forced;
      grown = grows_then _ _ _ c.loop-literal.invariant.grown c.if-not-force.ensures.grown;
    }

pub returns-clause-forced : goal.returns-clause-forced
returns-clause-forced c =
    let e = c.args.effect.now in
    let literals = c.args.literals.now in
    conclude_same (λ s. All (λ x. in_literal x (over e s) ≡ true) literals) _
    (AreKnownTrue e literals) _
    (marks_of c.args.marks.now) (marks_of c.loop-literal.marks) true
    (λ s size holds. AllPass-from_list_all (λ x. in_literal x (over e s)) literals holds)
    (λ w size all. all)
    (conclude_all (λ x s. in_literal x (over e s) ≡ true)
    (λ x w. value_of e w x ≡ Some true) literals
    c.loop-literal.literal-index (omega arith) (omega arith) (marks_of c.args.marks.now)
    (marks_of c.loop-literal.marks) true c.loop-literal.invariant.concluded)

pub returns-then-not-force-clause-grown : goal.returns-then-not-force-clause-grown
returns-then-not-force-clause-grown c = grows_then _ _ _ c.loop-literal.invariant.grown
    c.if-not-force.ensures.grown
