use Rattle.std.proofs.Common.{◌∙◌, ◌∷◌, ◌++◌, [], ap}
use Rattle.hv_bdd.proofs.node_fronts.Fronts.of.Goals as goal

pub returns-clause-level : goal.returns-clause-level
returns-clause-level c = (
  c.in_ok-level.level,
  c.in_ok-push.ensures.items
      ∙ ap (λ xs. xs ++ c.in_ok-level.level ∷ []) c.new-levels.ensures.items,
  c.in_ok-level.ensures.start,
  c.in_ok-level.ensures.moved,
)
