use Rattle.std.proofs.Common.{◌∙◌, [], ap, length}
use Rattle.hv_propagation.specs.Marks.{known}
use Rattle.hv_propagation.specs.Trail.{Knowledge, marks_of}
use Rattle.hv_propagation.proofs.Trailed.{known-replicate, length-marked}
use Rattle.hv_propagation.proofs.cover.cover.Goals as goal

pub cover_from-requires-clause-clauses : goal.cover_from-requires-clause-clauses
cover_from-requires-clause-clauses c = c.requires.clauses

pub cover_from-requires-clause-cube : goal.cover_from-requires-clause-cube
cover_from-requires-clause-cube c = c.requires.cube

pub cover_from-requires-clause-marks : goal.cover_from-requires-clause-marks
cover_from-requires-clause-marks c =
    ap (λ (k : Knowledge). length k.roots) c.over-marks.ensures
    ∙ (length-marked c.atoms-atoms.result [] ∙ c.atoms-atoms.ensures)

pub cover_from-requires-clause-none : goal.cover_from-requires-clause-none
cover_from-requires-clause-none c = λ p.
    ap (λ (k : Knowledge). known (marks_of k) p) c.over-marks.ensures
    ∙ known-replicate c.atoms-atoms.result p

pub returns-clause-covers : goal.returns-clause-covers
returns-clause-covers c = c.cover_from.ensures.covers

pub returns-clause-state : goal.returns-clause-state
returns-clause-state c = c.cover_from.ensures.state
