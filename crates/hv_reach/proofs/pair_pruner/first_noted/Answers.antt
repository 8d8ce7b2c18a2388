use Rattle.std.proofs.Common.{◌∙◌, arith, length, subst, sym}
use Rattle.hv_task.specs.State.{AreBelow}
use Rattle.hv_reach.specs.Working.NoteRows.{IsFirstPlace, RowHas}
use Rattle.hv_reach.specs.Pruners.{HoldsPairsOf}
use Rattle.hv_reach.proofs.Described.{described_size, first_here, lacks_here, listed_below}
use Rattle.hv_reach.proofs.Described.{none_after, none_between, none_next, pair_atoms_below}
use Rattle.hv_reach.proofs.Described.{table_holds, table_listed}
use Rattle.hv_reach.proofs.Sets.{slice_get_at}
use Rattle.hv_reach.proofs.pair_pruner.first_noted.Goals as goal

pub first-requires : goal.first-requires
first-requires c =
    pair_atoms_below c.args.task.now c.args.draft.now.lines c.args.kept.now.noted.notes.items
    c.args.kept.now.reached.items c.requires.described c.args.kept.now.noted.rows.rows
    c.requires.diagonals c.args.state.now c.requires.state c.args.held.now c.requires.held

pub has_all-requires-clause-size : goal.has_all-requires-clause-size
has_all-requires-clause-size c =
    let place = c.in-Some.place in
    let told = subst (IsFirstPlace (RowHas c.args.kept.now.noted.rows.rows c.args.held.now)
    (length c.args.kept.now.noted.rows.rows) c.loop-place.from) c.in-Some.is c.in_ok-place.ensures
    in
    described_size HoldsPairsOf c.args.task.now c.args.draft.now.lines
    c.args.kept.now.noted.notes.items
    c.args.kept.now.reached.items c.requires.described place c.index.result.now
    (slice_get_at c.args.kept.now.reached.items place c.index.result.now
    (let same = c.requires.diagonals.size in let below = told.1 in omega (arith, same, below))
    c.index.ensures)
    ∙ (sym c.requires.state ∙ sym c.atoms.ensures)

pub has_all-requires-clause-below : goal.has_all-requires-clause-below
has_all-requires-clause-below c =
    subst (λ n. AreBelow n c.args.held.now) (sym c.atoms.ensures)
    (listed_below c.args.state.now c.args.held.now c.requires.held c.index.result.now)

pub loop-place-preserved : goal.loop-place-preserved
loop-place-preserved c =
    let place = c.in-Some.place in
    let told = subst (IsFirstPlace (RowHas c.args.kept.now.noted.rows.rows c.args.held.now)
    (length c.args.kept.now.noted.rows.rows) c.loop-place.from) c.in-Some.is c.in_ok-place.ensures
    in
    none_next c.args.task.now c.args.draft.now.lines c.args.kept.now.noted.notes.items
    c.args.state.now place
    (none_between c.args.task.now c.args.draft.now.lines c.args.kept.now.noted.notes.items
    c.args.kept.now.reached.items c.requires.described c.args.kept.now.noted.rows.rows
    c.requires.diagonals c.args.state.now c.requires.state c.args.held.now c.requires.held
    c.loop-place.from place c.loop-place.invariant told.3)
    (lacks_here HoldsPairsOf c.args.task.now c.args.draft.now.lines
    c.args.kept.now.noted.notes.items
    c.args.kept.now.reached.items c.requires.described c.args.state.now c.requires.state
    place c.index.result.now
    (slice_get_at c.args.kept.now.reached.items place c.index.result.now
    (let same = c.requires.diagonals.size in let below = told.1 in omega (arith, same, below))
    c.index.ensures)
    (λ holds. c.has_all.ensures.no c.if-has_all.false
    (table_listed c.args.state.now c.args.held.now c.requires.held c.index.result.now holds)))

pub returns-then-has_all : goal.returns-then-has_all
returns-then-has_all c =
    let place = c.in-Some.place in
    let told = subst (IsFirstPlace (RowHas c.args.kept.now.noted.rows.rows c.args.held.now)
    (length c.args.kept.now.noted.rows.rows) c.loop-place.from) c.in-Some.is c.in_ok-place.ensures
    in
    first_here HoldsPairsOf c.args.task.now c.args.draft.now.lines c.args.kept.now.noted.notes.items
    c.args.kept.now.reached.items c.requires.described c.args.state.now c.requires.state
    place c.index.result.now
    (slice_get_at c.args.kept.now.reached.items place c.index.result.now
    (let same = c.requires.diagonals.size in let below = told.1 in omega (arith, same, below))
    c.index.ensures)
    (table_holds c.args.state.now c.args.held.now c.requires.held c.index.result.now
    (c.has_all.ensures.yes c.if-has_all.true))
    c.index-then-has_all.result.now
    (slice_get_at c.args.kept.now.noted.notes.items place c.index-then-has_all.result.now
    (let same = c.requires.diagonals.size in let also = c.requires.described.0 in
    let below = told.1 in omega (arith, same, also, below)) c.index-then-has_all.ensures)
    (none_between c.args.task.now c.args.draft.now.lines c.args.kept.now.noted.notes.items
    c.args.kept.now.reached.items c.requires.described c.args.kept.now.noted.rows.rows
    c.requires.diagonals c.args.state.now c.requires.state c.args.held.now c.requires.held
    c.loop-place.from place c.loop-place.invariant told.3)

pub returns : goal.returns
returns c =
    none_after c.args.task.now c.args.draft.now.lines c.args.kept.now.noted.notes.items
    c.args.kept.now.reached.items c.requires.described c.args.kept.now.noted.rows.rows
    c.requires.diagonals c.args.state.now c.requires.state c.args.held.now c.requires.held
    c.loop-place.from c.loop-place.invariant
    (subst (IsFirstPlace (RowHas c.args.kept.now.noted.rows.rows c.args.held.now) (length
    c.args.kept.now.noted.rows.rows) c.loop-place.from) c.in_default.is c.in_ok-place.ensures)
