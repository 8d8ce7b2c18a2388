use Rattle.std.proofs.Common.{◌∙◌, [], length, sym, ap, subst}
use Rattle.hv_propagation.specs.Clauses.{AreClauses}
use Rattle.hv_propagation.specs.Forced.{AreNever}
use Rattle.hv_propagation.specs.Trail.{Knowledge, marks_of}
use Rattle.hv_propagation.specs.Units.{AreSettled}
use Rattle.hv_propagation.proofs.Chasing.{kept_settled}
use Rattle.hv_propagation.proofs.Trailed.{length-marked}
use Rattle.hv_formula.proofs.closure.try_values.Goals as goal

pub over-marks-requires-clause-few : goal.over-marks-requires-clause-few
over-marks-requires-clause-few g c = c.requires.basis.few

pub over-marks-requires-clause-rises : goal.over-marks-requires-clause-rises
over-marks-requires-clause-rises g c = c.requires.forced.rises

pub try_each-requires-clause-kind : goal.try_each-requires-clause-kind
try_each-requires-clause-kind g c = c.requires.kind

pub try_each-requires-clause-by_trials : goal.try_each-requires-clause-by_trials
try_each-requires-clause-by_trials g c = c.requires.by_trials

pub try_each-requires-clause-index : goal.try_each-requires-clause-index
try_each-requires-clause-index g c = c.requires.basis.index

pub try_each-requires-clause-clauses : goal.try_each-requires-clause-clauses
try_each-requires-clause-clauses g c =
    let wide = ap (λ (k : Knowledge). length k.roots) c.over-marks.ensures
    ∙ length-marked c.args.basis.now.atoms c.args.forced.now in
    subst (λ n. AreClauses n c.args.basis.now.bare.clauses.now) (sym wide) c.requires.basis.clauses

pub try_each-requires-clause-left : goal.try_each-requires-clause-left
try_each-requires-clause-left g c =
    let marks = c.over-marks.result in
    kept_settled [] c.args.basis.now.bare.clauses.now marks (length marks.trail)
    (subst (λ (k : Knowledge). AreSettled [] c.args.basis.now.bare.clauses.now (marks_of k))
    (sym c.over-marks.ensures) c.requires.forced.settled)

pub returns : goal.returns
returns g c = λ is.
    let wide = ap (λ (k : Knowledge). length k.roots) c.over-marks.ensures
    ∙ length-marked c.args.basis.now.atoms c.args.forced.now in
    subst (λ n. AreNever n c.args.basis.now.bare.clauses.now) wide (c.try_each.ensures is)
