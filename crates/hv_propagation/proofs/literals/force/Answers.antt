use Rattle.std.proofs.Common.{◌≡◌, ◌∙◌, Some, arith, sym, subst, true}
use Rattle.hv_sets.specs.Truth.{in_literal}
use Rattle.hv_propagation.specs.Marks.{over}
use Rattle.hv_propagation.specs.Trail.{Grows, Knowledge, marks_of}
use Rattle.hv_propagation.specs.Units.{value_of, IsConcluded}
use Rattle.hv_propagation.proofs.Chasing.{grown_more, marked_more}
use Rattle.hv_propagation.proofs.Marked.{value_none}
use Rattle.hv_propagation.proofs.Steps.{force_known, force_open}
use Rattle.hv_propagation.proofs.Trailed.{length-marks}
use Rattle.hv_propagation.proofs.literals.force.Goals as goal

pub returns-in-Some-clause-forced : goal.returns-in-Some-clause-forced
returns-in-Some-clause-forced c =
    force_known c.args.effect.now (marks_of c.args.marks.now) c.args.literal c.in-Some.value
    (let size = length-marks c.args.marks.now in let h = c.requires in omega arith)
    (sym c.value.ensures ∙ c.in-Some.is)

pub returns-in-None-clause-forced : goal.returns-in-None-clause-forced
returns-in-None-clause-forced c =
    let k = c.args.marks.now in
    let l = c.args.literal in
    let nothing = sym c.value.ensures ∙ c.in-None.is in
    subst (λ (n : Knowledge). IsConcluded (λ s. in_literal l (over c.args.effect.now s) ≡ true)
    (λ m. value_of c.args.effect.now m l ≡ Some true) (marks_of k) (marks_of n) true)
    (sym c.write.ensures)
    (force_open c.args.effect.now (marks_of k) l _ nothing (marked_more k l c.requires)
    (let size = length-marks k in let h = c.requires in omega arith))

pub returns-in-None-clause-grown : goal.returns-in-None-clause-grown
returns-in-None-clause-grown c =
    let k = c.args.marks.now in
    let l = c.args.literal in
    subst (λ (n : Knowledge). Grows k n) (sym c.write.ensures)
    (grown_more k l c.requires (value_none c.args.effect.now (marks_of k) l
    (sym c.value.ensures ∙ c.in-None.is)).1)
