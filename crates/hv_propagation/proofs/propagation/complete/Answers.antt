use Rattle.std.proofs.Common.{◌∙◌, true, false, length, sym, ap, arith, refl, subst}
use Rattle.hv_propagation.specs.Completion.{Completes, IsTried}
use Rattle.hv_propagation.proofs.Chasing.{grows_same}
use Rattle.hv_propagation.specs.Marks.{AllKnown}
use Rattle.hv_propagation.specs.Trail.{marks_of}
use Rattle.hv_propagation.proofs.Completing.{completed_filled, completed_tried}
use Rattle.hv_propagation.proofs.Marked.{length-filled}
use Rattle.hv_propagation.proofs.Trailed.{length-marks}
use Rattle.hv_propagation.proofs.propagation.complete.Goals as goal

pub fill-requires : goal.fill-requires
fill-requires g c = c.requires.state

pub settle_all-requires-clause-over : goal.settle_all-requires-clause-over
settle_all-requires-clause-over g c = c.requires.over

pub settle_all-requires-clause-left : goal.settle_all-requires-clause-left
settle_all-requires-clause-left g c = c.requires.left

pub settle_all-requires-clause-completes : goal.settle_all-requires-clause-completes
settle_all-requires-clause-completes g c =
    subst (λ how. Completes how (g.C.Constraint.admits c.args.constraint.now)
    (g.C.Constraint.settled c.args.constraint.now) (length c.args.marks.now.roots)) c.in-Try.is
    c.requires.completes

pub returns-then-not-settle_all-clause-grown : goal.returns-then-not-settle_all-clause-grown
returns-then-not-settle_all-clause-grown g c = c.if-not-settle_all.ensures.grown

pub returns-in-Fill-clause-grown : goal.returns-in-Fill-clause-grown
returns-in-Fill-clause-grown g c = grows_same c.args.marks.now

pub returns-else-not-settle_all-clause-grown : goal.returns-else-not-settle_all-clause-grown
returns-else-not-settle_all-clause-grown g c = c.if-not-settle_all.ensures.grown

pub returns-in-Fill-clause-completed : goal.returns-in-Fill-clause-completed
returns-in-Fill-clause-completed g c =
    let k = c.args.marks.now in
    let P = g.C.Constraint.admits c.args.constraint.now in
    let S = g.C.Constraint.settled c.args.constraint.now in
    completed_filled P S c.args.how c.in-Fill.value c.in-Fill.is (marks_of k) (marks_of k)
    c.fill.new.state refl
    (subst (λ n. Completes c.args.how P S n) (sym (length-marks k)) c.requires.completes)
    (g.met.C.Constraint.left_ends c.args.constraint.now k (length k.trail) (omega arith)
    c.requires.left) c.fill.ensures

pub returns-in-Fill-clause-state : goal.returns-in-Fill-clause-state
returns-in-Fill-clause-state g c =
    ap length c.fill.ensures ∙ (length-filled c.in-Fill.value (marks_of c.args.marks.now)
    ∙ (length-marks c.args.marks.now ∙ sym c.requires.state))

pub returns-else-not-settle_all-clause-completed : goal.returns-else-not-settle_all-clause-completed
returns-else-not-settle_all-clause-completed g c =
    let k = c.args.marks.now in
    let P = g.C.Constraint.admits c.args.constraint.now in
    let S = g.C.Constraint.settled c.args.constraint.now in
    completed_tried P S c.args.how c.in-Try.is (marks_of k) (marks_of c.settle_all.new.marks)
    (marks_of c.settle_all.new.marks) c.fill-in-Try.new.state refl
    (subst (λ n. Completes c.args.how P S n) (sym (length-marks k)) c.requires.completes)
    (subst (λ n. IsTried P S (AllKnown n) (marks_of k) (marks_of c.settle_all.new.marks) true)
    (sym (length-marks k)) c.if-not-settle_all.ensures.tried)
    c.fill-in-Try.ensures

pub returns-else-not-settle_all-clause-state : goal.returns-else-not-settle_all-clause-state
returns-else-not-settle_all-clause-state g c =
    let k = c.args.marks.now in
    ap length c.fill-in-Try.ensures
    ∙ (length-filled false (marks_of c.settle_all.new.marks)
    ∙ (length-marks c.settle_all.new.marks
    ∙ (ap length c.if-not-settle_all.ensures.grown.roots ∙ sym c.requires.state)))
