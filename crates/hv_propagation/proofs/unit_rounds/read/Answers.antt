use Rattle.std.proofs.Common.{◌∙◌, [], Some, ap, inr, subst, sym}
use Rattle.hv_propagation.specs.declared.watched.ScanState.TheVariants as T
use Rattle.hv_propagation.specs.Trail.{marked}
use Rattle.hv_propagation.specs.Working.Scan.{IsScanState, IsSeenIn}
use Rattle.hv_propagation.proofs.Scanned.{open_there, seen_false, seen_open, true_there}
use Rattle.hv_propagation.proofs.unit_rounds.read.Goals as goal

pub value_in-requires-clause-rises : goal.value_in-requires-clause-rises
value_in-requires-clause-rises c = c.requires.rises

pub value_in-requires-clause-atom : goal.value_in-requires-clause-atom
value_in-requires-clause-atom c = c.requires.below c.args.place _ c.requires.place

pub returns-in-Some-true-clause-scan_state : goal.returns-in-Some-true-clause-scan_state
returns-in-Some-true-clause-scan_state c =
    true_there [] (marked c.args.atoms c.args.literals.now) c.args.clause.now c.args.place
    c.requires.place _
    (sym c.value_in.ensures ∙ (c.in-Some-true.is ∙ ap Some c.in-Some-true.field-0-test))

pub returns-in-Some-false-clause-here : goal.returns-in-Some-false-clause-here
returns-in-Some-false-clause-here c =
    seen_false [] (marked c.args.atoms c.args.literals.now) c.args.clause.now c.args.place
    c.requires.place _
    (sym c.value_in.ensures ∙ (c.in-Some-false.is ∙ ap Some c.in-Some-false.field-0-test))
    c.args.pending

pub returns-in-Some-false-clause-others : goal.returns-in-Some-false-clause-others
returns-in-Some-false-clause-others c = λ l seen. seen

pub returns-in-None-pending-clause-scan_state : goal.returns-in-None-pending-clause-scan_state
returns-in-None-pending-clause-scan_state c =
    open_there [] (marked c.args.atoms c.args.literals.now) c.args.clause.now c.args.place
    c.requires.place _
    (sym c.value_in.ensures ∙ c.in-None.is) c.args.place

pub returns-in-None-pending-clause-here : goal.returns-in-None-pending-clause-here
returns-in-None-pending-clause-here c =
    seen_open [] (marked c.args.atoms c.args.literals.now) c.args.clause.now c.args.place
    c.requires.place _ c.args.place

pub returns-in-None-pending-clause-others : goal.returns-in-None-pending-clause-others
returns-in-None-pending-clause-others c = λ l seen.
    inr (subst (λ p. IsSeenIn (T.Left p) [] (marked c.args.atoms c.args.literals.now) l)
    c.in-None-pending.is seen)

pub returns-then-eq-clause-scan_state : goal.returns-then-eq-clause-scan_state
returns-then-eq-clause-scan_state c =
    subst (λ p. IsScanState (T.Left p) [] (marked c.args.atoms c.args.literals.now) c.args.clause.now)
    c.in-Some.is c.requires.pending

pub returns-then-eq-clause-others : goal.returns-then-eq-clause-others
returns-then-eq-clause-others c = λ l seen.
    subst (λ p. IsSeenIn (T.Left p) [] (marked c.args.atoms c.args.literals.now) l)
    c.in-Some.is seen
