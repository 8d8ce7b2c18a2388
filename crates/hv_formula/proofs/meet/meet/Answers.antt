use Rattle.std.proofs.Common.{◌∙◌, [], arith, length, sym, ap, subst}
use Rattle.hv_sets.specs.Cubes.{SpeakBelow}
use Rattle.hv_propagation.specs.Clauses.{AreClauses}
use Rattle.hv_propagation.specs.Forced.{AreForced}
use Rattle.hv_propagation.specs.Marks.{Agrees}
use Rattle.hv_propagation.specs.Trail.{Knowledge, marks_of}
use Rattle.hv_propagation.specs.Units.{AreSettled}
use Rattle.hv_propagation.proofs.Trailed.{length-marked}
use Rattle.hv_formula.proofs.meet.meet.Goals as goal

pub meet_from-requires-clause-marks : goal.meet_from-requires-clause-marks
meet_from-requires-clause-marks g c =
    ap (λ (k : Knowledge). length k.roots) c.over-marks.ensures
    ∙ (length-marked c.atoms-atoms.result c.in-Some.forced.now
    ∙ (c.atoms-atoms.ensures.atoms ∙ sym c.requires.atoms))

pub meet_from-requires-clause-settled : goal.meet_from-requires-clause-settled
meet_from-requires-clause-settled g c =
    let forced = c.in-Some.forced.now in
    let clauses = c.bare-bare.result.clauses.now in
    let at = subst (λ n. AreForced n clauses forced) (sym c.atoms-atoms.ensures.atoms)
    (subst (λ cs. AreForced c.args.set.now.atoms cs forced) (sym c.bare-bare.ensures.clauses)
    c.in-Some.ensures) in
    subst (λ (k : Knowledge). AreSettled [] clauses (marks_of k)) (sym c.over-marks.ensures)
    at.settled

pub meet_from-requires-clause-follows : goal.meet_from-requires-clause-follows
meet_from-requires-clause-follows g c = λ state size holds.
    let forced = c.in-Some.forced.now in
    let clauses = c.bare-bare.result.clauses.now in
    let at = subst (λ n. AreForced n clauses forced) (sym c.atoms-atoms.ensures.atoms)
    (subst (λ cs. AreForced c.args.set.now.atoms cs forced) (sym c.bare-bare.ensures.clauses)
    c.in-Some.ensures) in
    let wide = ap (λ (k : Knowledge). length k.roots) c.over-marks.ensures
    ∙ length-marked c.atoms-atoms.result forced in
    subst (λ (k : Knowledge). Agrees (marks_of k) state) (sym c.over-marks.ensures)
    (at.follows state (size ∙ wide) holds)

pub over-marks-requires-clause-few : goal.over-marks-requires-clause-few
over-marks-requires-clause-few g c =
    let atoms = c.atoms-atoms.ensures.atoms in
    let few = c.bare-bare.ensures.few in
    omega (arith, atoms, few)

pub meet_from-requires-clause-kind : goal.meet_from-requires-clause-kind
meet_from-requires-clause-kind g c = c.bare-bare.ensures.kind

pub meet_from-requires-clause-clauses : goal.meet_from-requires-clause-clauses
meet_from-requires-clause-clauses g c =
    subst (λ n. AreClauses n c.bare-bare.result.clauses.now) (sym c.requires.atoms)
    c.bare-bare.ensures.below

pub meet_from-requires-clause-index : goal.meet_from-requires-clause-index
meet_from-requires-clause-index g c = c.bare-bare.ensures.index

pub meet_from-requires-clause-cube : goal.meet_from-requires-clause-cube
meet_from-requires-clause-cube g c =
    subst (λ n. SpeakBelow n c.args.cube.now) (sym c.requires.atoms) c.requires.cube

pub meet_from-requires-clause-none : goal.meet_from-requires-clause-none
meet_from-requires-clause-none g c = ap (λ (k : Knowledge). k.trail) c.over-marks.ensures

pub returns-clause-state : goal.returns-clause-state
returns-clause-state g c = c.meet_from.ensures.state
