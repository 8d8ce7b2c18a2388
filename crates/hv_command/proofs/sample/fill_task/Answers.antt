use Rattle.std.proofs.Common.{◌∙◌, ap}
use Rattle.hv_task.specs.Strips.{Strips, atoms}
use Rattle.hv_command.proofs.Sampled.{below_atoms, key_added, rooms_fit}
use Rattle.hv_command.proofs.sample.fill_task.Goals as goal

pub add_atom-requires : goal.add_atom-requires
add_atom-requires c = rooms_fit c.args.rooms c.add_rooms.new.task.names c.requires.rooms
    (ap (λ (t : Strips). t.names) c.in_ok-add_rooms.ensures)

pub set_goal-requires : goal.set_goal-requires
set_goal-requires c =
    below_atoms c.args.rooms c.in_ok-only-2.field-0 (atoms c.set_start.new.self)
    c.in_ok-only-2.ensures
    (ap atoms c.set_start.ensures
    ∙ key_added c.args.rooms c.add_rooms.new.task.names c.add_atom.new.self.names
    c.in_ok-new.field-0
    (ap (λ (t : Strips). t.names) c.in_ok-add_rooms.ensures)
    (ap (λ (t : Strips). t.names) c.in_ok-add_atom.ensures.ok))

pub add_moves-requires-clause-atoms : goal.add_moves-requires-clause-atoms
add_moves-requires-clause-atoms c =
    ap atoms c.set_goal.ensures
    ∙ (ap atoms c.set_start.ensures
    ∙ key_added c.args.rooms c.add_rooms.new.task.names c.add_atom.new.self.names
    c.in_ok-new.field-0
    (ap (λ (t : Strips). t.names) c.in_ok-add_rooms.ensures)
    (ap (λ (t : Strips). t.names) c.in_ok-add_atom.ensures.ok))
