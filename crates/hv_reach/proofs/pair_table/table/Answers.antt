use Rattle.hv_reach.proofs.Cells.{table_none}
use Rattle.hv_reach.proofs.pair_table.table.Goals as goal

pub returns-clause-table : goal.returns-clause-table
returns-clause-table c =
    let e = c.in_ok-rows.ensures in
    table_none c.args.atoms c.in_ok-rows.rows.items e.size e.columns e.none
