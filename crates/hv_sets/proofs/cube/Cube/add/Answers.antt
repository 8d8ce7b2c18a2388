use Rattle.std.proofs.Common.{◌∙◌, ap, refl, sym, is_ok}
use Rattle.hv_sets.proofs.Cubes.{Adds-insert, no_opposite, none_of_atom, rises_either}
use Rattle.hv_sets.proofs.Cubes.{opposite_test}
use Rattle.hv_sets.specs.Cubes.{put_in}
use Rattle.hv_sets.proofs.Placed.{placed_new, placed_there}
use Rattle.hv_sets.proofs.cube.Cube.add.Goals as goal

pub invariant_of-self-in-Err : goal.invariant_of-self-in-Err
invariant_of-self-in-Err c =
    let place = rw c.as_slice.ensures.value at c.in-Err.ensures in
    rises_either (is_ok c.insert.result) c.self.inside.items.items c.args.literal c.in-Err.place
    c.insert.new.self.items
    c.self.invariant place c.insert.ensures.items

pub returns-in_ok-insert-in-Err-clause-added : goal.returns-in_ok-insert-in-Err-clause-added
returns-in_ok-insert-in-Err-clause-added c = λ _.
    let place = rw c.as_slice.ensures.value at c.in-Err.ensures in
    rw (c.in_ok-insert-in-Err.ensures.items, ← c.self.view_is)
    (Adds-insert c.self.inside.items.items c.args.literal c.in-Err.place c.self.invariant place)

pub returns-in_ok-insert-in-Err-clause-opposite : goal.returns-in_ok-insert-in-Err-clause-opposite
returns-in_ok-insert-in-Err-clause-opposite c =
    let place = rw c.as_slice.ensures.value at c.in-Err.ensures in
    let none = no_opposite c.self.inside.items.items c.args.literal c.in-Err.place c.self.invariant
    place in
    (λ e. absurd cc, λ there. absurd (none (rw c.self.view_is there)))

pub returns-in-Ok-clause-opposite : goal.returns-in-Ok-clause-opposite
returns-in-Ok-clause-opposite c =
    let place = rw c.as_slice.ensures.value at c.in-Ok.ensures in
    rw (← c.self.view_is)
    (opposite_test c.self.inside.items.items c.args.literal c.in-Ok.place c.self.invariant place
    c.index.result.now (sym c.index.ensures))

pub returns-in_ok-insert-in-Err-clause-there : goal.returns-in_ok-insert-in-Err-clause-there
returns-in_ok-insert-in-Err-clause-there c = λ there.
    let place = rw c.as_slice.ensures.value at c.in-Err.ensures in
    let none = none_of_atom c.self.inside.items.items c.args.literal c.in-Err.place c.self.invariant
    place c.args.literal refl in
    absurd (none (rw c.self.view_is there))

pub returns-in_ok-insert-in-Err-clause-placed : goal.returns-in_ok-insert-in-Err-clause-placed
returns-in_ok-insert-in-Err-clause-placed c =
    let place = rw c.as_slice.ensures.value at c.in-Err.ensures in
    c.in_ok-insert-in-Err.ensures.items
    ∙ (placed_new c.self.inside.items.items c.args.literal c.in-Err.place place
    ∙ ap (put_in c.args.literal) c.self.view_is)

pub returns-in-Ok-clause-placed : goal.returns-in-Ok-clause-placed
returns-in-Ok-clause-placed c =
    let place = rw c.as_slice.ensures.value at c.in-Ok.ensures in
    sym c.self.view_is
    ∙ (placed_there c.self.inside.items.items c.args.literal c.in-Ok.place c.self.invariant place
    ∙ ap (put_in c.args.literal) c.self.view_is)
