use Rattle.std.proofs.Common.{◌*◌, arith, length, subst, sym}
use Rattle.hv_reach.specs.Working.NoteRows.{AreRowsIn}
use Rattle.hv_reach.proofs.Entering.{blocks_more, none_columns}
use Rattle.hv_reach.proofs.note_rows.make_room.Goals as goal

pub returns-clause-kept : goal.returns-clause-kept
returns-clause-kept c =
    let e = c.in_ok-empty_states.ensures in
    let rows = c.args.rows.now.items in
    let blocks = c.args.blocks.now.items in
    let full = c.if-len.false in
    let upto = c.requires.upto in
    subst (λ bs. AreRowsIn c.args.atoms bs rows) (sym c.in_ok-push.ensures.items)
    (blocks_more c.args.atoms rows blocks c.in_ok-empty_states.field-0 c.requires
    (none_columns c.args.atoms (512 * length blocks) rows c.in_ok-empty_states.field-0.items e.size
    e.columns e.none upto)
    (omega arith))
