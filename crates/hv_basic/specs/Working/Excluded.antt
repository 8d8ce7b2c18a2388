-- Formulas of exclusions: each clause says of at most two atoms that they don't all have one value.
-- And which actions can lead into such a formula, or out of it.
use Rattle.std.specs.Prelude.{◌≡◌, ◌<◌, ◌≤◌, ◌⊎◌, ℕ, Bool, true, false, not, cond, List, []}
use Rattle.std.specs.Prelude.{Some, length, slice_get, slice_index_or, slice_set}
use Rattle.std.specs.List.{All, Contains}
use Rattle.hv_task.specs.declared.action.Action.{Action}
use Rattle.hv_task.specs.State.{AreBelow, applicable, has_atom}
use Rattle.hv_task.specs.Strips.{Strips, atoms}
use Rattle.hv_sets.specs.Query.{asked}
use Rattle.hv_sets.specs.Truth.{in_clauses}
use Rattle.hv_sets.specs.declared.literal.Literal.{Literal}
use Rattle.hv_basic.specs.ChangeRows.{changed_to}
use Rattle.hv_basic.specs.Working.Framed.{sign_to}
use Rattle.hv_basic.specs.declared.companions.Companions.{Companions}

-- the atom has the value in the state
abbrev pub has_value : Bool → List Bool → ℕ → Bool
has_value value state atom = cond value (has_atom state atom) (not (has_atom state atom))

-- the literal is of an atom below this number, and false where that has the value
abbrev pub IsAgainst : ℕ → Bool → Literal → Type 0
IsAgainst count value literal = (literal.atom < count) × (literal.positive ≡ not value)

-- the clause has at most two literals, which are false where their atoms have the value
abbrev pub IsExclusion : ℕ → Bool → List Literal → Type 0
IsExclusion count value clause = (length clause ≤ 2) × All (IsAgainst count value) clause

-- each literal of the clause is of one of the two atoms
abbrev pub IsOfTwo : List Literal → ℕ → ℕ → Type 0
IsOfTwo clause first second =
    (literal : Literal) → Contains clause literal
    → (literal.atom ≡ first) ⊎ (literal.atom ≡ second)

-- the second atom is in the row of the first
abbrev pub goes_with : List (List Bool) → ℕ → ℕ → Bool
goes_with rows first second = has_atom (slice_index_or rows first []) second

-- the rows without the second atom in that of the first
abbrev pub parted : List (List Bool) → ℕ → ℕ → List (List Bool)
parted rows first second =
    slice_set rows first (slice_set (slice_index_or rows first []) second false)

-- each row has as many flags as there are rows
abbrev pub AreSquare : List (List Bool) → Type 0
AreSquare rows = (p : ℕ) → p < length rows → length (slice_index_or rows p []) ≡ length rows

-- each literal of the clause has one whose atom isn't in its atom's row
abbrev pub HaveStrangers : List (List Bool) → List Literal → Type 0
HaveStrangers rows clause =
    (literal : Literal) → Contains clause literal
    → (other : Literal) × Contains clause other × (goes_with rows literal.atom other.atom ≡ false)

-- the state of so many atoms in which all are true
abbrev pub IsFull : ℕ → List Bool → Type 0
IsFull count state = (length state ≡ count) × ((p : ℕ) → p < count → has_atom state p ≡ true)

-- for each of so many atoms those that can have the value where it has it: all but those with which
-- it makes up a clause
pub record AreCompanions (count : ℕ) (clauses : List (List Literal)) (companions : Companions)
    : Type 0
  where
    pub all : IsFull count companions.all
    pub rows : length companions.rows.items ≡ count
    pub square : AreSquare companions.rows.items
    pub against : (clause : List Literal) → Contains clauses clause
        → All (IsAgainst count companions.value) clause
    pub apart : (clause : List Literal) → Contains clauses clause
        → HaveStrangers companions.rows.items clause
    pub only : (p q : ℕ) → p < count → q < count → goes_with companions.rows.items p q ≡ false
        → (clause : List Literal) × Contains clauses clause × IsOfTwo clause p q

-- where the action is applicable in a state, and the formula holds at the one time, after the
-- action (into) or before it, it holds at the other
abbrev pub KeepsFormula : ℕ → List (List Literal) → Bool → Action → Type 0
KeepsFormula count clauses into action =
    (state : List Bool) → length state ≡ count → applicable action state ≡ true
    → in_clauses clauses (asked (Some action) into state) ≡ true
    → in_clauses clauses (asked (Some action) (not into) state) ≡ true

-- where the action is applicable in a state, and the formula holds at the one time (into), the
-- atoms that have the value after the action (time), or before it, are all among these
abbrev pub AreAbleAt : ℕ → List (List Literal) → Bool → Bool → Bool → Action → List Bool → Type 0
AreAbleAt count clauses value into time action able =
    (state : List Bool) → length state ≡ count → applicable action state ≡ true
    → in_clauses clauses (asked (Some action) into state) ≡ true → (p : ℕ) → p < count
    → has_value value (asked (Some action) time state) p ≡ true → has_atom able p ≡ true

-- the atoms that have the value at the one time, after the action (into) or before it, but for
-- those that are deleted and added
abbrev pub fixed_first : Bool → Bool → Action → List ℕ
fixed_first value true action = changed_to value action
fixed_first true false action = action.pre
fixed_first false false action = []

-- the atoms that don't have the value at the other time, but for those that are deleted and added
abbrev pub fixed_later : Bool → Bool → Action → List ℕ
fixed_later value false action = changed_to (not value) action
fixed_later true true action = []
fixed_later false true action = action.pre

-- the atoms that can get the value between the two times
abbrev pub turned_atoms : Bool → Bool → Action → List ℕ
turned_atoms value into action = changed_to (sign_to into (not value)) action

-- after the action the atom isn't added, if the value is false: one that is deleted is false then
abbrev pub IsFixed : Bool → Bool → Action → ℕ → Type 0
IsFixed value into action atom =
    into ≡ true → value ≡ false → Contains action.add atom → ⊥

-- the list is of actions of the task, of which it has the first, and each one but for some that
-- keep the formula
pub record AreLeading (task : Strips) (clauses : List (List Literal)) (into : Bool)
    (listed : List ℕ) : Type 0
  where
    pub below : AreBelow (length task.actions) listed
    pub first : 0 < length task.actions → Contains listed 0
    pub each : (number : ℕ) (action : Action) → slice_get task.actions number ≡ Some action
        → KeepsFormula (atoms task) clauses into action ⊎ Contains listed number
