use Rattle.std.proofs.Common.{◌≡◌, ◌<◌, ◌∙◌, Some, true, length, refl, ap, arith, below_more, subst}
use Rattle.hv_task.specs.State.{names_atom}
use Rattle.hv_task.specs.Strips.{atoms}
use Rattle.hv_sets.specs.declared.literal.Literal.{Literal}
use Rattle.hv_sets.specs.Truth.{in_literal}
use Rattle.hv_clauses.specs.Working.Operands.{clauses_of_state}
use Rattle.hv_propagation.specs.Marks.{over}
use Rattle.hv_propagation.specs.Trail.{marks_of}
use Rattle.hv_propagation.specs.Units.{value_of}
use Rattle.hv_propagation.proofs.Chasing.{followed_then}
use Rattle.hv_propagation.proofs.Marked.{value_extends}
use Rattle.hv_clauses.proofs.OperandClauses.{clause_of_state_at, length-clauses_of_state}
use Rattle.hv_clauses.proofs.Problems.{followed_from, start_literal_in, units_settled}
use Rattle.hv_clauses.proofs.problem.start_start.Goals as goal

pub force-requires : goal.force-requires
force-requires g c =
    let at = ap (λ (l : Literal). l.atom) c.start_literal-literal.ensures in
    let wide = ap length c.loop-atom.invariant.followed.roots in
    omega (arith, at, wide, c.requires.size, c.atoms-atom-end.ensures.atoms, c.loop-atom-test.true)

pub returns-then-not-force-clause-followed : goal.returns-then-not-force-clause-followed
returns-then-not-force-clause-followed g c =
    let task = c.args.problem.now.task in
    let e = c.args.effect.now in
    let less : c.loop-atom.atom < atoms task = omega (arith, c.atoms-atom-end.ensures.atoms) in
    followed_then _ (λ s. in_literal c.start_literal-literal.result (over e s) ≡ true) _ _ _ _
    (λ s size holds. ap (λ (l : Literal). in_literal l (over e s)) c.start_literal-literal.ensures
    ∙ start_literal_in (atoms task) task.start e c.loop-atom.atom s less (size ∙ c.requires.size)
    holds)
    c.loop-atom.invariant.followed (followed_from _ _ _ _ _ c.if-not-force.ensures.forced
    c.if-not-force.ensures.grown)

pub loop-atom-preserved : goal.loop-atom-preserved
loop-atom-preserved g c =
    let task = c.args.problem.now.task in
    let e = c.args.effect.now in
    let less : c.loop-atom.atom < atoms task = omega (arith, c.atoms-atom-end.ensures.atoms) in
    record {
      followed = followed_then _ (λ s. in_literal c.start_literal-literal.result (over e s) ≡ true)
          _ _ _ _
          (λ s size holds. ap (λ (l : Literal). in_literal l (over e s))
          c.start_literal-literal.ensures
          ∙ start_literal_in (atoms task) task.start e c.loop-atom.atom s less
          (size ∙ c.requires.size) holds)
          c.loop-atom.invariant.followed (followed_from _ _ _ _ _ c.if-not-force.ensures.forced
          c.if-not-force.ensures.grown);
      done = below_more (λ k. value_of e (marks_of c.force.new.marks)
          (record { atom = k; positive = names_atom task.start k }) ≡ Some true) c.loop-atom.atom
          (λ k lower. value_extends e (marks_of c.loop-atom.marks) (marks_of c.force.new.marks) _
          true c.if-not-force.ensures.grown.grows (c.loop-atom.invariant.done k lower))
          (subst (λ (l : Literal). value_of e (marks_of c.force.new.marks) l ≡ Some true)
          c.start_literal-literal.ensures (c.if-not-force.ensures.forced.done refl));
    }

pub returns-clause-settled : goal.returns-clause-settled
returns-clause-settled g c = λ _.
    let task = c.args.problem.now.task in
    let long = length-clauses_of_state (atoms task) task.start in
    let end = c.loop-atom-test.false in
    units_settled c.args.effect.now (marks_of c.loop-atom.marks)
    (clauses_of_state (atoms task) task.start)
    (λ k. record { atom = k; positive = names_atom task.start k })
    (λ k less. clause_of_state_at (atoms task) task.start k (omega arith))
    (λ k less. c.loop-atom.invariant.done k (omega (arith, c.atoms-atom-end.ensures.atoms)))
