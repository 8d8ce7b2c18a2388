use Rattle.hv_rows.proofs.Rowed.{is_in}
use Rattle.hv_basic.proofs.Applicable.{row_at}
use Rattle.hv_basic.proofs.Crossing.{no_row}
use Rattle.hv_basic.proofs.turned.row_of.Goals as goal

pub returns-in-Some : goal.returns-in-Some
returns-in-Some c = λ number inside.
    let found = c.in-Some.ensures.lookup in
    row_at c.args.rows.now c.args.atom c.in-Some.row.now c.as_slice.result.now found.3.0 found.1
    c.as_slice.ensures.value number (is_in c.args.rows.now c.args.atom number inside)

pub returns-in-None : goal.returns-in-None
returns-in-None c = λ number inside.
    absurd (no_row c.args.rows.now c.args.atom number c.in-None.ensures.lookup.3 inside)
