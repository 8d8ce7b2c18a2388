-- Marks: what is known of the atoms of a state, by place. A mark of 0 says nothing, 1 that the atom
-- isn't in the state, and any other that it is.
use Rattle.std.specs.Prelude.{◌==◌, ℕ, Bool, not, if◌then◌else◌, List, [], ◌∷◌, length, replicate}
use Rattle.std.specs.Prelude.{Option, None, Some, slice_index_or, ◌≡◌, ◌<◌, false}
use Rattle.hv_task.specs.State.{has_atom}

-- what a mark says
abbrev pub mark_of : ℕ → Option Bool
mark_of mark = if mark == 0 then None else Some (not (mark == 1))

-- what is known of an atom; past the end nothing is
abbrev pub known : List ℕ → ℕ → Option Bool
known marks atom = mark_of (slice_index_or marks atom 0)

-- the value, if there is one, or else this one
abbrev pub or_else : Option Bool → Bool → Bool
or_else None value = value
or_else (Some found) value = found

-- the state with the marks put over it: an atom of which something is known is as the marks say,
-- and each other stays
abbrev pub over : List ℕ → List Bool → List Bool
over marks [] = []
over [] (flag ∷ flags) = flag ∷ flags
over (mark ∷ marks) (flag ∷ flags) = or_else (mark_of mark) flag ∷ over marks flags

-- the state with the marks put over it, in which each atom of which nothing is known has this value
abbrev pub filled : Bool → List ℕ → List Bool
filled value marks = over marks (replicate (length marks) value)

-- the mark of an atom that is in (true) or out (false)
abbrev pub mark_for : Bool → ℕ
mark_for value = if value then 2 else 1

-- the state is as the marks say
abbrev pub Agrees : List ℕ → List Bool → Type 0
Agrees marks state =
    (atom : ℕ) (value : Bool) → known marks atom ≡ Some value → has_atom state atom ≡ value

-- what was known stays known
abbrev pub KeepsKnown : List ℕ → List ℕ → Type 0
KeepsKnown old new =
    (atom : ℕ) (value : Bool) → known old atom ≡ Some value → known new atom ≡ Some value

-- something is known of each atom below this number
abbrev pub AllKnown : ℕ → List ℕ → Type 0
AllKnown atoms marks = (atom : ℕ) → atom < atoms → known marks atom ≡ None → ⊥

-- the state that has the atoms of which it is known that they are in, and no other
abbrev pub low : List ℕ → List Bool
low marks = filled false marks
