-- States as sets of atoms, and what an action does to them: STRIPS, as in Eriksson, Röger and
-- Helmert (2018).
use Rattle.std.specs.Prelude.{◌<◌, ◌==◌, ℕ, Bool, true, false, List, [], ◌∷◌, replicate}
use Rattle.std.specs.Prelude.{slice_index_or, slice_set}
use Rattle.std.specs.List.{list_all, list_any, All}
use Rattle.hv_task.specs.declared.action.Action.{Action}

-- A state of a task with n atoms is a list of n flags: the flag at place p says whether atom p is
-- in the state. An atom past the end is in no state.
abbrev pub has_atom : List Bool → ℕ → Bool
has_atom state atom = slice_index_or state atom false

-- the atom is among these
abbrev pub names_atom : List ℕ → ℕ → Bool
names_atom atoms atom = list_any (λ p. p == atom) atoms

-- each of these numbers is below the bound
abbrev pub AreBelow : ℕ → List ℕ → Type 0
AreBelow bound numbers = All (λ n. n < bound) numbers

-- the state holds all of these atoms
abbrev pub has_all : List ℕ → List Bool → Bool
has_all atoms state = list_all (λ p. has_atom state p) atoms

-- the state with each of these atoms put in (true) or taken out (false)
abbrev pub put_all : Bool → List ℕ → List Bool → List Bool
put_all value [] state = state
put_all value (atom ∷ atoms) state = put_all value atoms (slice_set state atom value)

-- the state of a task with so many atoms that holds these atoms and no other
abbrev pub state_of : ℕ → List ℕ → List Bool
state_of atoms held = put_all true held (replicate atoms false)

-- the action is applicable: the state holds its whole precondition
abbrev pub applicable : Action → List Bool → Bool
applicable action state = has_all action.pre state

-- the successor: the state without the delete set, and then with the add set, so an atom in both
-- sets is in it
abbrev pub successor : Action → List Bool → List Bool
successor action state = put_all true action.add (put_all false action.del state)
