use Rattle.std.proofs.Common.{◌≡◌, ◌∙◌, true, Some, take, refl, sym, ap, subst}
use Rattle.std.specs.List.{Contains}
use Rattle.hv_sets.specs.declared.literal.Literal.{Literal}
use Rattle.hv_sets.specs.Cubes.{SpeakBelow}
use Rattle.hv_sets.specs.Truth.{in_clause}
use Rattle.hv_propagation.specs.Marks.{over}
use Rattle.hv_propagation.specs.Trail.{Knowledge, marks_of}
use Rattle.hv_propagation.specs.Units.{value_of, AreFalse}
use Rattle.hv_propagation.proofs.Chasing.{undone_same}
use Rattle.hv_propagation.proofs.Covered.{true_where_known, true_where_undenied}
use Rattle.hv_propagation.proofs.Trailed.{length-marks}
use Rattle.hv_propagation.proofs.cover.breaks.Goals as goal

pub returns-then-has_true-clause-true_in : goal.returns-then-has_true-clause-true_in
returns-then-has_true-clause-true_in c = λ _ state size agrees.
    let k = c.args.marks.now in
    true_where_known c.args.clause.now (marks_of k) state (size ∙ sym (length-marks k)) agrees
    (subst (λ n. SpeakBelow n c.args.clause.now) (sym (length-marks k)) c.requires)
    (subst (λ e. (l : Literal) × Contains c.args.clause.now l
    × (value_of e (marks_of k) l ≡ Some true)) c.none-none.ensures (c.if-has_true.ensures.yes refl))

pub returns-then-deny-clause-broken : goal.returns-then-deny-clause-broken
returns-then-deny-clause-broken c = λ _. (
  subst (λ e. AreFalse e c.args.clause.now (marks_of c.deny.new.marks)) c.none-none.ensures
      (c.if-deny.ensures.denied.done refl),
  c.if-deny.ensures.grown,
)

pub returns-clause-same : goal.returns-clause-same
returns-clause-same c = λ _.
    let k = c.args.marks.now in
    undone_same k c.deny.new.marks c.undo.new.self c.if-deny.ensures.grown
    (c.undo.ensures ∙ ap (λ n. let z : Knowledge = record
    { roots = c.deny.new.marks.roots; trail = take n c.deny.new.marks.trail } in z)
    c.len-point.ensures.len)

pub returns-clause-true_in : goal.returns-clause-true_in
returns-clause-true_in c = λ _ state size agrees.
    let k = c.args.marks.now in
    true_where_undenied c.args.clause.now (marks_of k) state (size ∙ sym (length-marks k)) agrees
    (λ s long lies fits. c.if-deny.ensures.denied.broken refl s long
    (ap (λ e. in_clause c.args.clause.now (over e s)) c.none-none.ensures ∙ lies) fits)
