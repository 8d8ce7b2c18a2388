-- The sample: a task made from a number of rooms, and what is said of its two proofs.
use Rattle.std.specs.Prelude.{◌+◌, ◌-◌, ◌*◌, ◌/◌, ◌%◌, ℕ, List, [], ◌∷◌, ◌++◌, codes, decimal}
use Rattle.std.specs.Prelude.{map}
use Rattle.std.specs.List.{range_with_len}
use Rattle.hv_task.specs.Strips.{Strips}
use Rattle.hv_task.specs.declared.action.Action.{Action}
use Rattle.hv_command.specs.Replies.{line_of, unsolvable_text}

-- the name of the atom which says that one is in this room
abbrev pub room_name : ℕ → List ℕ
room_name room = codes "room_" ++ decimal room

-- the action that leads from this room to the next one, and from the last to the first
abbrev pub move_from : ℕ → ℕ → Action
move_from rooms room = record {
  name = codes "move_" ++ decimal room;
  cost = 1;
  pre = room ∷ [];
  add = (room + 1) % rooms ∷ [];
  del = room ∷ [];
}

-- the task of so many rooms in a ring: one begins in the first of them, and is to have the key,
-- which no action gives
abbrev pub sample_task : ℕ → Strips
sample_task rooms = record {
  names = map room_name (range_with_len 0 rooms) ++ codes "key" ∷ [];
  start = 0 ∷ [];
  goal = rooms ∷ [];
  actions = map (move_from rooms) (range_with_len 0 rooms);
}

-- how many pairs of atoms aren't reached: each two rooms, the key with each room, and the key
-- itself
abbrev pub unreached_pairs : ℕ → ℕ
unreached_pairs rooms = rooms * (rooms - 1) / 2 + rooms + 1

-- what is said of a proof, which is judged to show that the task has no plan: how many clauses its
-- formula has, and how many lines it has
abbrev pub proof_line : List ℕ → ℕ → ℕ → List ℕ
proof_line kind clauses lines =
    kind ++ codes " clauses " ++ decimal clauses ++ codes " lines " ++ decimal lines
    ++ codes " " ++ unsolvable_text

-- a number with its name before it
abbrev pub count_line : List ℕ → ℕ → List ℕ
count_line name number = line_of (name ++ decimal number)

-- what is said of the sample: the proof by reached atoms has a clause for the key, and that by
-- reached pairs one for each pair that isn't reached
abbrev pub sample_text : ℕ → List ℕ
sample_text rooms =
    count_line (codes "atoms ") (rooms + 1)
    ++ count_line (codes "actions ") rooms
    ++ proof_line (codes "relaxed") 1 16
    ++ proof_line (codes "pairs") (unreached_pairs rooms) 16
    ++ line_of (codes "done")
