use Rattle.std.proofs.Common.{◌∙◌, Some, ap, inr, subst, sym}
use Rattle.hv_propagation.specs.declared.watched.ScanState.TheVariants as T
use Rattle.hv_propagation.specs.Trail.{marks_of}
use Rattle.hv_propagation.specs.Working.Scan.{IsSeenIn}
use Rattle.hv_propagation.proofs.Scanned.{open_there, seen_false, seen_open, true_there}
use Rattle.hv_propagation.proofs.watched.read.Goals as goal

pub returns-in-Some-true-clause-scan_state : goal.returns-in-Some-true-clause-scan_state
returns-in-Some-true-clause-scan_state c =
    true_there c.args.effect.now (marks_of c.args.marks.now) c.args.clause.now c.args.place
    c.requires.place _
    (sym c.value.ensures ∙ (c.in-Some-true.is ∙ ap Some c.in-Some-true.field-0-test))

pub returns-in-Some-false-clause-here : goal.returns-in-Some-false-clause-here
returns-in-Some-false-clause-here c =
    seen_false c.args.effect.now (marks_of c.args.marks.now) c.args.clause.now c.args.place
    c.requires.place _
    (sym c.value.ensures ∙ (c.in-Some-false.is ∙ ap Some c.in-Some-false.field-0-test))
    c.args.pending

pub returns-in-Some-false-clause-others : goal.returns-in-Some-false-clause-others
returns-in-Some-false-clause-others c = λ l seen. seen

pub returns-in-None-pending-clause-scan_state : goal.returns-in-None-pending-clause-scan_state
returns-in-None-pending-clause-scan_state c =
    open_there c.args.effect.now (marks_of c.args.marks.now) c.args.clause.now c.args.place
    c.requires.place _
    (sym c.value.ensures ∙ c.in-None.is) c.args.place

pub returns-in-None-pending-clause-here : goal.returns-in-None-pending-clause-here
returns-in-None-pending-clause-here c =
    seen_open c.args.effect.now (marks_of c.args.marks.now) c.args.clause.now c.args.place
    c.requires.place _ c.args.place

pub returns-in-None-pending-clause-others : goal.returns-in-None-pending-clause-others
returns-in-None-pending-clause-others c = λ l seen.
    inr (subst (λ p. IsSeenIn (T.Left p) c.args.effect.now (marks_of c.args.marks.now) l)
    c.in-None-pending.is seen)
