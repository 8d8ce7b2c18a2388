use Rattle.hv_reach.proofs.Cells.{next_new_from}
use Rattle.hv_reach.proofs.pair_table.next_new.Goals as goal

pub returns : goal.returns
returns c = next_new_from c.args.mask.now c.args.row.now c.args.from c.next_outside.result
    c.next_outside.ensures
