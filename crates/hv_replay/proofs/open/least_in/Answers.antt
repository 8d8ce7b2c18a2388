use Rattle.std.proofs.Common.{◌<◌, arith, length, refl, subst, sym}
use Rattle.std.specs.List.{Contains}
use Rattle.std.proofs.lemmas.Option.{slice_get_read}
use Rattle.hv_task.specs.State.{AreBelow}
use Rattle.hv_replay.proofs.open.least_in.Goals as goal

pub least_among-requires : goal.least_among-requires
least_among-requires c =
    let rows = c.args.rows.now.items in
    let size = c.requires.rows.size in
    let upto = c.requires.place in
    let less : c.args.place < length rows = omega arith in
    let row = c.index.result.now in
    subst (AreBelow (length c.args.origin.now.task.now.actions)) (sym c.as_slice.ensures.value)
    (c.requires.rows.below c.args.place row
    (slice_get_read rows (length rows) c.args.place row refl less c.index.ensures))

pub returns-clause-stay : goal.returns-clause-stay
returns-clause-stay c = λ action waits.
    let rows = c.args.rows.now.items in
    let size = c.requires.rows.size in
    let upto = c.requires.place in
    let less : c.args.place < length rows = omega arith in
    let row = c.index.result.now in
    c.least_among.ensures.stay action
    (subst (λ xs. Contains xs action) (sym c.as_slice.ensures.value) (waits row
    (slice_get_read rows (length rows) c.args.place row refl less c.index.ensures)))
