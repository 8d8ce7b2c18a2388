use Rattle.std.proofs.Common.{◌<◌, Some, arith, length, subst}
use Rattle.hv_reach.specs.Working.NoteRows.{IsFirstPlace, RowHas}
use Rattle.hv_reach.proofs.Described.{atoms_below, first_of_rows, none_of_rows}
use Rattle.hv_reach.proofs.Sets.{slice_get_at}
use Rattle.hv_reach.proofs.relaxed_pruner.first_noted.Goals as goal

pub first-requires : goal.first-requires
first-requires c =
    atoms_below c.args.task.now c.args.draft.now.lines c.args.noted.now.notes.items
    c.args.noted.now.rows.rows c.requires.described c.args.state.now c.requires.state
    c.args.held.now c.requires.held

pub returns-in-Some : goal.returns-in-Some
returns-in-Some c =
    let rows = c.args.noted.now.rows.rows in
    let told : IsFirstPlace (RowHas rows c.args.held.now) (length rows) 0 (Some c.in-Some.place) =
    subst (IsFirstPlace (RowHas rows c.args.held.now) (length rows) 0) c.in-Some.is
    c.in_ok-place.ensures in
    let less : c.in-Some.place < length c.args.noted.now.notes.items = let same =
    c.requires.described.0 in let below = told.1 in omega (arith, same, below) in
    first_of_rows c.args.task.now c.args.draft.now.lines c.args.noted.now.notes.items rows
    c.requires.described c.args.state.now c.requires.state
    c.args.held.now c.requires.held c.in-Some.place c.index.result.now
    (slice_get_at c.args.noted.now.notes.items c.in-Some.place c.index.result.now less
    c.index.ensures) told

pub returns-in-None : goal.returns-in-None
returns-in-None c =
    let rows = c.args.noted.now.rows.rows in
    none_of_rows c.args.task.now c.args.draft.now.lines c.args.noted.now.notes.items rows
    c.requires.described c.args.state.now c.requires.state
    c.args.held.now c.requires.held (subst
    (IsFirstPlace (RowHas rows c.args.held.now) (length rows) 0) c.in-None.is
    c.in_ok-place.ensures)

pub index-requires : goal.index-requires
index-requires c =
    let rows = c.args.noted.now.rows.rows in
    let told : IsFirstPlace (RowHas rows c.args.held.now) (length rows) 0 (Some c.in-Some.place) =
    subst (IsFirstPlace (RowHas rows c.args.held.now) (length rows) 0) c.in-Some.is
    c.in_ok-place.ensures in
    let same = c.requires.described.0 in let below = told.1 in omega (arith, same, below)
