use Rattle.std.proofs.Common.{subst, sym}
use Rattle.hv_lines.specs.Shapes.{AskingsRise}
use Rattle.hv_basic.specs.Working.Asked.{AreChosen}
use Rattle.hv_basic.proofs.Ordering.{chosen_of, ordered_rises}
use Rattle.hv_basic.proofs.rising.in_order.Goals as goal

pub returns-clause-rises : goal.returns-clause-rises
returns-clause-rises c =
    subst AskingsRise (sym c.in_ok-list.ensures.list)
    (ordered_rises c.in_ok-keys.keys.keys c.in_ok-list.ensures.ordered)

pub returns-clause-chosen : goal.returns-clause-chosen
returns-clause-chosen c =
    subst (AreChosen c.args.askings.now c.args.positive) (sym c.in_ok-list.ensures.list)
    (chosen_of c.args.askings.now c.args.positive c.in_ok-keys.keys c.in_ok-keys.ensures)
