use Rattle.std.proofs.Common.{◌∙◌, take, ap}
use Rattle.hv_propagation.specs.Trail.{Knowledge}
use Rattle.hv_propagation.proofs.Chasing.{undone_same}
use Rattle.hv_clauses.proofs.fronts.explore.Goals as goal

pub returns-clause-same : goal.returns-clause-same
returns-clause-same g c =
    undone_same c.args.marks.now c.explore_on-tried.new.marks c.undo.new.self
    c.explore_on-tried.ensures.grown
    (c.undo.ensures ∙ ap (λ n. let z : Knowledge = record {
      roots = c.explore_on-tried.new.marks.roots;
      trail = take n
          c.explore_on-tried.new.marks.trail;
    } in z) c.len-point.ensures.len)
