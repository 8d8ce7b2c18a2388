-- The task that has a plan exactly where a given task has one that costs at most so much. It keeps
-- count by counter atoms, one for each amount that may be left to spend.
use Rattle.std.specs.Prelude.{ℕ, ◌+◌, ◌-◌, ◌<◌, ◌==◌, ◌++◌, ◌⊎◌, List, [], ◌∷◌, codes, decimal}
use Rattle.std.specs.Prelude.{if◌then◌else◌, length, map}
use Rattle.std.specs.List.{enumerate_from, flat_map, range_with_len}
use Rattle.hv_task.specs.declared.action.Action.{Action}
use Rattle.hv_task.specs.Strips.{Strips, atoms}

-- the name of the counter atom that says that so much is left
abbrev pub counter_name : ℕ → List ℕ
counter_name left = codes "left " ++ decimal left

-- the amounts from one to another, both included, rising: none where the first is greater
abbrev pub amounts : ℕ → ℕ → List ℕ
amounts least most = range_with_len least (most + 1 - least)

-- the name of the copy of an action for where so much is left
abbrev pub paid_name : ℕ → ℕ → List ℕ
paid_name number left = decimal number ++ 32 ∷ decimal left

-- the copy of an action that costs nothing: named by the action's number
abbrev pub free_copy : ℕ → Action → Action
free_copy number action = record action { name = decimal number }

-- The copy of an action for where so much is left: it takes the counter atom of this amount away,
-- and adds the one of what is left when the action is paid for. The first counter atom says that 0
-- is left, the next one that 1 is, and so on.
abbrev pub paid_copy : ℕ → ℕ → Action → ℕ → Action
paid_copy first_counter number action left = record {
  name = paid_name number left;
  cost = action.cost;
  pre = action.pre ++ (first_counter + left) ∷ [];
  add = action.add ++ (first_counter + left - action.cost) ∷ [];
  del = action.del ++ (first_counter + left) ∷ [];
}

-- the copies of an action, where at most so much may be spent: one where the action costs nothing,
-- and else one for each amount that pays for it
abbrev pub copies : ℕ → ℕ → ℕ → Action → List Action
copies first_counter most number action =
    if action.cost == 0
    then free_copy number action ∷ []
    else map (paid_copy first_counter number action) (amounts action.cost most)

-- the copies of all actions, in order
abbrev pub all_copies : ℕ → ℕ → List Action → List Action
all_copies first_counter most actions =
    flat_map (λ (number, action). copies first_counter most number action)
    (enumerate_from 0 actions)

-- the task where at most so much may be spent: at the start all of it is left
abbrev pub bounded_task : Strips → ℕ → Strips
bounded_task task most = record {
  names = task.names ++ map counter_name (amounts 0 most);
  start = task.start ++ (atoms task + most) ∷ [];
  goal = task.goal;
  actions = all_copies (atoms task) most task.actions;
}

-- it would have more than 65,535 atoms or more than 1,000,000 actions
abbrev pub IsTooLarge : Strips → ℕ → Type 0
IsTooLarge task most =
    (65535 < atoms task + (most + 1))
    ⊎ (1000000 < length (all_copies (atoms task) most task.actions))
