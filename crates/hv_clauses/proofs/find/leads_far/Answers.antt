use Rattle.std.proofs.Common.{◌∙◌, take, ap}
use Rattle.hv_propagation.specs.Trail.{Knowledge}
use Rattle.hv_propagation.proofs.Chasing.{undone_same}
use Rattle.hv_clauses.proofs.find.leads_far.Goals as goal

pub returns : goal.returns
returns g c =
    undone_same c.args.marks.now c.follow_first-far.new.marks c.undo.new.self
    c.follow_first-far.ensures
    (c.undo.ensures ∙ ap (λ n. let z : Knowledge = record
    { roots = c.follow_first-far.new.marks.roots; trail = take n c.follow_first-far.new.marks.trail }
    in z) c.len-point.ensures.len)
