-- The atoms and the pairs of atoms that are reached from a state: least sets that have what the
-- state holds and what actions give. Pairs as in Haslum and Geffner, Admissible Heuristics for
-- Optimal Planning (2000).
use Rattle.std.specs.Prelude.{◌≡◌, ℕ, Bool, true, false, List, [], ◌∷◌, Some, slice_get}
use Rattle.std.specs.Prelude.{slice_index_or}
use Rattle.std.specs.List.{All}
use Rattle.hv_task.specs.declared.action.Action.{Action}
use Rattle.hv_task.specs.State.{has_atom, names_atom}
use Rattle.hv_task.specs.Strips.{Strips}

-- all of these atoms are in the set
abbrev pub AreIn : (ℕ → Bool) → List ℕ → Type 0
AreIn set atoms = All (λ p. set p ≡ true) atoms

-- each atom of the state is in the set
abbrev pub IsWithin : List Bool → (ℕ → Bool) → Type 0
IsWithin state set = (p : ℕ) → has_atom state p ≡ true → set p ≡ true

-- the set has, with all of an action's precondition, its add set
abbrev pub Keeps : List Action → (ℕ → Bool) → Type 0
Keeps actions set =
    (k : ℕ) (a : Action) → slice_get actions k ≡ Some a → AreIn set a.pre → AreIn set a.add

-- a set of atoms is closed from a state
pub record ClosedAtoms (task : Strips) (start : List Bool) (set : ℕ → Bool) : Type 0 where
  -- it has the atoms of the state
  pub begins : IsWithin start set
  -- and, with all of an action's precondition, its add set
  pub keeps : Keeps task.actions set

-- the atom is reached from the state: it is in every closed set
abbrev pub ReachedAtom : Strips → List Bool → ℕ → Type 0
ReachedAtom task start p =
    (set : ℕ → Bool) → ClosedAtoms task start set → set p ≡ true

-- each of the one list is in a pair with each of the other
abbrev pub ArePaired : (ℕ → ℕ → Bool) → List ℕ → List ℕ → Type 0
ArePaired set ps qs = All (λ p. All (λ q. set p q ≡ true) qs) ps

-- all pairs of these atoms are in the set, each atom's pair with itself included
abbrev pub HasPairsOf : (ℕ → ℕ → Bool) → List ℕ → Type 0
HasPairsOf set atoms = ArePaired set atoms atoms

-- the action neither adds nor deletes the atom
abbrev pub LeavesAlone : Action → ℕ → Type 0
LeavesAlone a q = (names_atom a.add q ≡ false) × (names_atom a.del q ≡ false)

-- a set of pairs of atoms is closed from a state; the two of a pair may be equal
pub record ClosedPairs (task : Strips) (start : List Bool) (set : ℕ → ℕ → Bool) : Type 0 where
  -- the order of the two doesn't matter
  pub even : (p q : ℕ) → set p q ≡ true → set q p ≡ true
  -- it has the pairs of atoms that are both in the state
  pub begins : (p q : ℕ) → has_atom start p ≡ true → has_atom start q ≡ true → set p q ≡ true
  -- with all pairs of an action's precondition, it has all pairs of its add set
  pub both : (k : ℕ) (a : Action) → slice_get task.actions k ≡ Some a
      → HasPairsOf set a.pre → HasPairsOf set a.add
  -- with all pairs over an action's precondition together with an atom that the action neither adds
  -- nor deletes, it has the pairs of this atom with each that the action adds
  pub other : (k : ℕ) (a : Action) (q : ℕ) → slice_get task.actions k ≡ Some a → LeavesAlone a q
      → HasPairsOf set (q ∷ a.pre) → All (λ p. set p q ≡ true) a.add

-- the pair is reached from the state: it is in every closed set
abbrev pub ReachedPair : Strips → List Bool → ℕ → ℕ → Type 0
ReachedPair task start p q =
    (set : ℕ → ℕ → Bool) → ClosedPairs task start set → set p q ≡ true

-- A set of pairs, as contracts see `Pairs`, is a table: a row of flags for each atom.

-- the pair is in the table
abbrev pub has_pair : List (List Bool) → ℕ → ℕ → Bool
has_pair rows p q = has_atom (slice_index_or rows p []) q
