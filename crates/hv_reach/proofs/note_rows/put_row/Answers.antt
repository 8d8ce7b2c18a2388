use Rattle.std.proofs.Common.{◌≡◌, ◌*◌, ◌+◌, ◌-◌, ◌<◌, set, length, arith, sym, subst}
use Rattle.hv_reach.specs.Working.NoteRows.{AreRowsIn}
use Rattle.hv_reach.proofs.Entering.{kept_pushed}
use Rattle.hv_reach.proofs.Sets.{slice_get_at}
use Rattle.hv_reach.proofs.note_rows.put_row.Goals as goal

pub returns-clause-kept : goal.returns-clause-kept
returns-clause-kept c =
    let rows = c.args.rows.now.items in
    let w = c.enter.ensures in
    let blocks = c.args.blocks.now.items in
    let last = c.len-last.result - 1 in
    let place = c.len.result - last * 512 in
    let room = c.requires.room in
    let tight = c.requires.kept.tight in
    let count : length blocks ≡ last + 1 = omega arith in
    let where_is : 512 * last + place ≡ length rows = omega arith in
    let within : place < 512 = omega arith in
    let less : last < length blocks = omega arith in
    subst (AreRowsIn (length c.args.row) (set blocks last c.enter.new.columns))
    (sym c.push_reserved.ensures.items)
    (kept_pushed rows c.args.row blocks last place c.index_mut.result.now c.enter.new.columns
    c.requires.kept
    (slice_get_at blocks last c.index_mut.result.now less c.index_mut.ensures.value) count where_is
    within w.size w.columns w.here w.others)
