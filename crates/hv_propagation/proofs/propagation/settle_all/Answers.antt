use Rattle.std.proofs.Common.{ap, arith, length, subst, sym, true}
use Rattle.hv_propagation.specs.Completion.{Completes, IsTried}
use Rattle.hv_propagation.specs.declared.completion.Completion.TheVariants as C
use Rattle.hv_propagation.specs.Marks.{AllKnown}
use Rattle.hv_propagation.specs.Trail.{marks_of}
use Rattle.hv_propagation.proofs.Chasing.{grows_same, grows_then}
use Rattle.hv_propagation.proofs.Completing.{tried_more, tried_none, tried_refuted}
use Rattle.hv_propagation.proofs.propagation.settle_all.Goals as goal

pub loop-atom-init : goal.loop-atom-init
loop-atom-init g c =
    let k = c.args.marks.now in
    record {
      tried = tried_none (g.C.Constraint.admits c.args.constraint.now)
          (g.C.Constraint.settled c.args.constraint.now) (marks_of k)
          (g.met.C.Constraint.left_ends c.args.constraint.now k (length k.trail) (omega arith)
          c.requires.left);
      grown = grows_same k;
      left = c.requires.left;
    }

pub settle-requires-clause-over : goal.settle-requires-clause-over
settle-requires-clause-over g c =
    subst (λ roots. g.C.Constraint.is_over c.args.constraint.now (length roots))
    (sym c.loop-atom.invariant.grown.roots) c.requires.over

pub settle-requires-clause-atom : goal.settle-requires-clause-atom
settle-requires-clause-atom g c =
    let less = c.loop-atom-test.true in
    let atoms = c.atoms-atom-end.ensures.atoms in
    let same = ap (λ roots. length roots) c.loop-atom.invariant.grown.roots in
    omega (arith, less, atoms, same)

pub settle-requires-clause-left : goal.settle-requires-clause-left
settle-requires-clause-left g c = c.loop-atom.invariant.left

pub settle-requires-clause-completes : goal.settle-requires-clause-completes
settle-requires-clause-completes g c =
    subst (λ roots. Completes C.Try (g.C.Constraint.admits c.args.constraint.now)
    (g.C.Constraint.settled c.args.constraint.now) (length roots))
    (sym c.loop-atom.invariant.grown.roots) c.requires.completes

pub returns-then-not-settle-clause-tried : goal.returns-then-not-settle-clause-tried
returns-then-not-settle-clause-tried g c =
    tried_refuted _ _ _ _ _ _ _ _ c.loop-atom.invariant.tried c.if-not-settle.ensures.tried

pub returns-then-not-settle-clause-grown : goal.returns-then-not-settle-clause-grown
returns-then-not-settle-clause-grown g c = grows_then _ _ _ c.loop-atom.invariant.grown
    c.if-not-settle.ensures.grown

pub loop-atom-preserved : goal.loop-atom-preserved
loop-atom-preserved g c = record {
  tried = tried_more _ _ _ _ _ _ c.loop-atom.invariant.tried c.if-not-settle.ensures.tried;
  grown = grows_then _ _ _ c.loop-atom.invariant.grown c.if-not-settle.ensures.grown;
  left = c.if-not-settle.ensures.left;
}

pub returns-clause-tried : goal.returns-clause-tried
returns-clause-tried g c =
    let past = c.loop-atom-test.false in
    let within = c.loop-atom.auto.atom-end in
    let atoms = c.atoms-atom-end.ensures.atoms in
    subst (λ n. IsTried (g.C.Constraint.admits c.args.constraint.now)
    (g.C.Constraint.settled c.args.constraint.now) (AllKnown n) (marks_of c.args.marks.now)
    (marks_of c.loop-atom.marks) true) (omega (arith, past, within, atoms))
    c.loop-atom.invariant.tried
