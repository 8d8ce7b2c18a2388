use Rattle.std.proofs.Common.{◌∙◌, ◌∷◌, [], ap, sym}
use Rattle.hv_basic.specs.Leaves.{places}
use Rattle.hv_basic.specs.Working.Work.{parts_on}
use Rattle.hv_basic.proofs.Leafing.{leaf_found}
use Rattle.hv_basic.proofs.leaves.leaves.Goals as goal

pub returns-in_ok-found-in-None-clause-leaves : goal.returns-in_ok-found-in-None-clause-leaves
returns-in_ok-found-in-None-clause-leaves c =
    leaf_found (parts_on c.args.side) c.args.table.now.lines c.args.root c.expr-expr.result.now
    (places c.in_ok-found-in-None.found.items) c.expr-expr.ensures.says (sym c.in-None.ensures)
    (ap places c.in_ok-found-in-None.ensures ∙ ap (λ p. p ∷ []) c.leaf_of.ensures.place)
