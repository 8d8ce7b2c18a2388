use Rattle.std.proofs.Common.{[], arith}
use Rattle.hv_reach.proofs.Cells.{none_left, row_cleared, table_none}
use Rattle.hv_reach.proofs.pair_table.clear_table.Goals as goal

pub loop-atom-preserved : goal.loop-atom-preserved
loop-atom-preserved c =
    let i = c.loop-atom.invariant in
    let size = i.square.size in
    let done = row_cleared c.args.atoms c.loop-atom.rows.items c.loop-atom.atom (omega arith)
    i.square i.none in
    rw c.clear_row.ensures (record { square = done.0; none = done.1 })

pub returns-clause-table : goal.returns-clause-table
returns-clause-table c =
    let i = c.loop-atom.invariant in
    table_none c.args.atoms c.loop-atom.rows.items i.square.size (λ k less. i.square.each k [] less)
    (none_left c.args.atoms c.loop-atom.rows.items i.square.size
    (λ p q less. i.none p q (omega arith)))

pub returns-clause-none : goal.returns-clause-none
returns-clause-none c =
    let i = c.loop-atom.invariant in
    none_left c.args.atoms c.loop-atom.rows.items i.square.size
    (λ p q less. i.none p q (omega arith))
