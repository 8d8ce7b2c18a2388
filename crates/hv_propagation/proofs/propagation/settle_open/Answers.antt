use Rattle.std.proofs.Common.{◌≡◌, ◌∙◌, ◌<◌, None, length, refl, subst, sym}
use Rattle.hv_propagation.specs.Completion.{Completes, IsTried}
use Rattle.hv_propagation.specs.declared.completion.Completion.TheVariants as C
use Rattle.hv_propagation.specs.Marks.{known}
use Rattle.hv_propagation.specs.Trail.{Grows, Knowledge, marks_of}
use Rattle.hv_propagation.proofs.propagation.settle_open.Goals as goal

pub weight-requires : goal.weight-requires
weight-requires g c = (length c.args.marks.now.roots, c.requires.over)

pub loop-init : goal.loop-init
loop-init g c = refl

pub settle_within-requires-clause-over : goal.settle_within-requires-clause-over
settle_within-requires-clause-over g c =
    subst (λ (n : Knowledge). g.C.Constraint.is_over c.args.constraint.now (length n.roots))
    (sym c.loop.invariant) c.requires.over

pub settle_within-requires-clause-atom : goal.settle_within-requires-clause-atom
settle_within-requires-clause-atom g c =
    subst (λ (n : Knowledge). c.args.atom < length n.roots) (sym c.loop.invariant) c.requires.atom

pub settle_within-requires-clause-open : goal.settle_within-requires-clause-open
settle_within-requires-clause-open g c =
    subst (λ (n : Knowledge). known (marks_of n) c.args.atom ≡ None) (sym c.loop.invariant)
    c.requires.open

pub settle_within-requires-clause-left : goal.settle_within-requires-clause-left
settle_within-requires-clause-left g c =
    subst (λ (n : Knowledge). g.C.Constraint.left c.args.constraint.now n (length n.trail))
    (sym c.loop.invariant) c.requires.left

pub settle_within-requires-clause-completes : goal.settle_within-requires-clause-completes
settle_within-requires-clause-completes g c =
    subst (λ (n : Knowledge). Completes C.Try (g.C.Constraint.admits c.args.constraint.now)
    (g.C.Constraint.settled c.args.constraint.now) (length n.roots)) (sym c.loop.invariant)
    c.requires.completes

pub returns-in-Some-clause-tried : goal.returns-in-Some-clause-tried
returns-in-Some-clause-tried g c =
    subst (λ (n : Knowledge). IsTried (g.C.Constraint.admits c.args.constraint.now)
    (g.C.Constraint.settled c.args.constraint.now)
    (λ marks. known marks c.args.atom ≡ None → ⊥) (marks_of n)
    (marks_of c.settle_within.new.marks) c.in-Some.settled) c.loop.invariant
    c.in-Some.ensures.tried

pub returns-in-Some-clause-grown : goal.returns-in-Some-clause-grown
returns-in-Some-clause-grown g c =
    subst (λ (n : Knowledge). Grows n c.settle_within.new.marks) c.loop.invariant
    c.in-Some.ensures.grown

pub loop-preserved : goal.loop-preserved
loop-preserved g c = c.in_default.ensures.tried ∙ c.loop.invariant

pub settle_within-requires-2-clause-over : goal.settle_within-requires-2-clause-over
settle_within-requires-2-clause-over g c =
    subst (λ (n : Knowledge). g.C.Constraint.is_over c.args.constraint.now (length n.roots))
    (sym c.loop.invariant) c.requires.over

pub settle_within-requires-2-clause-atom : goal.settle_within-requires-2-clause-atom
settle_within-requires-2-clause-atom g c =
    subst (λ (n : Knowledge). c.args.atom < length n.roots) (sym c.loop.invariant) c.requires.atom

pub settle_within-requires-2-clause-open : goal.settle_within-requires-2-clause-open
settle_within-requires-2-clause-open g c =
    subst (λ (n : Knowledge). known (marks_of n) c.args.atom ≡ None) (sym c.loop.invariant)
    c.requires.open

pub settle_within-requires-2-clause-left : goal.settle_within-requires-2-clause-left
settle_within-requires-2-clause-left g c =
    subst (λ (n : Knowledge). g.C.Constraint.left c.args.constraint.now n (length n.trail))
    (sym c.loop.invariant) c.requires.left

pub settle_within-requires-2-clause-completes : goal.settle_within-requires-2-clause-completes
settle_within-requires-2-clause-completes g c =
    subst (λ (n : Knowledge). Completes C.Try (g.C.Constraint.admits c.args.constraint.now)
    (g.C.Constraint.settled c.args.constraint.now) (length n.roots)) (sym c.loop.invariant)
    c.requires.completes

pub unwrap-requires : goal.unwrap-requires
unwrap-requires g c = c.settle_within-2.ensures.end refl

pub returns-clause-grown : goal.returns-clause-grown
returns-clause-grown g c =
    subst (λ (n : Knowledge). Grows n c.settle_within-2.new.marks) c.loop.invariant
    c.settle_within-2.ensures.grown

pub returns-clause-left : goal.returns-clause-left
returns-clause-left g c = c.settle_within-2.ensures.left
