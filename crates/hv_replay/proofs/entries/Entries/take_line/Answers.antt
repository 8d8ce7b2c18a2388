use Rattle.std.proofs.Common.{sym, subst, ◌+◌, ◌≤◌, length}
use Rattle.hv_bytes.specs.Fields.{cut_fields}
use Rattle.hv_bytes.specs.Working.Fields.{fields_behind}
use Rattle.hv_replay.specs.LogFile.{atoms_in}
use Rattle.hv_replay.specs.Logs.{listed_bytes}
use Rattle.hv_replay.specs.Working.Logs.{entries_of}
use Rattle.hv_replay.proofs.Fields.{parts_are, split_is}
use Rattle.hv_replay.proofs.Taken.{put_there, room_for}
use Rattle.hv_replay.proofs.entries.Entries.take_line.Goals as goal

pub end_entry-requires-clause-state : goal.end_entry-requires-clause-state
end_entry-requires-clause-state c =
    let r = c.args.self.now in
    let line = c.args.line.now in
    let letter = c.split_field.result.0.now in
    let fields = fields_behind c.split_field.result.1 (λ f. f.now) in
    (parts_are r.atoms line letter c.put_atoms.new.states.begun fields c.in-Some.expanded
    (split_is c.split_field.result.1 (λ f. f.now) (cut_fields line) letter
    c.split_field.ensures.fields) c.in-Some.ensures
    (put_there c.in_ok-put_atoms.field-0 c.put_atoms.new.states (atoms_in r.atoms 0 fields)
    c.if-not-branch.false c.in_ok-put_atoms.ensures.put)).legal

pub end_entry-requires-clause-room : goal.end_entry-requires-clause-room
end_entry-requires-clause-room c =
    let r = c.args.self.now in
    let line = c.args.line.now in
    let letter = c.split_field.result.0.now in
    let fields = fields_behind c.split_field.result.1 (λ f. f.now) in
    let states = c.put_atoms.new.states in
    room_for (entries_of r.expanded.items states.whole)
    (record { expanded = c.in-Some.expanded; state = states.begun }) line
    (parts_are r.atoms line letter states.begun fields c.in-Some.expanded
    (split_is c.split_field.result.1 (λ f. f.now) (cut_fields line) letter
    c.split_field.ensures.fields) c.in-Some.ensures
    (put_there c.in_ok-put_atoms.field-0 states (atoms_in r.atoms 0 fields)
    c.if-not-branch.false c.in_ok-put_atoms.ensures.put)).spelled
    (subst (λ w. listed_bytes (entries_of r.expanded.items w) + length line ≤ 8388608)
    (sym c.in_ok-put_atoms.ensures.others) c.requires.room)
