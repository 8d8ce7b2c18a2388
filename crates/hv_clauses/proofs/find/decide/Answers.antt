use Rattle.std.proofs.Common.{◌∙◌, take, refl, sym, ap}
use Rattle.hv_propagation.specs.Trail.{Knowledge}
use Rattle.hv_propagation.proofs.Chasing.{undone_same}
use Rattle.hv_propagation.proofs.Trailed.{length-marks}
use Rattle.hv_clauses.proofs.find.decide.Goals as goal

pub returns-then-is_refuted-clause-met : goal.returns-then-is_refuted-clause-met
returns-then-is_refuted-clause-met g c = λ state size fits.
    c.if-is_refuted.ensures refl state size
    (c.requires.rooted.roots.follows state (size
    ∙ sym (length-marks c.args.marks.now ∙ c.requires.rooted.wide)) fits.applies fits.inside)
    fits.inside fits.outside

pub returns-clause-same : goal.returns-clause-same
returns-clause-same g c =
    undone_same c.args.marks.now c.try_choice-met.new.marks c.undo.new.self
    c.try_choice-met.ensures.grown
    (c.undo.ensures ∙ ap (λ n. let z : Knowledge = record
    { roots = c.try_choice-met.new.marks.roots; trail = take n c.try_choice-met.new.marks.trail }
    in z) c.len-point.ensures.len)

pub is_refuted-requires : goal.is_refuted-requires
is_refuted-requires g c = c.requires.number

pub try_choice-met-requires-clause-rooted : goal.try_choice-met-requires-clause-rooted
try_choice-met-requires-clause-rooted g c = c.requires.rooted

pub returns-clause-met : goal.returns-clause-met
returns-clause-met g c = c.try_choice-met.ensures.met

pub returns-clause-state : goal.returns-clause-state
returns-clause-state g c = c.try_choice-met.ensures.state
