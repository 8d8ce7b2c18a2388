-- How listed states are kept: in four bytes an atom or in one.
use Rattle.std.specs.Prelude.{◌≤◌, ◌-◌, ℕ, List, [], ◌∷◌, length, ⊤}
use Rattle.std.specs.List.{All}
use Rattle.std.specs.Rc.{rc_value}
use Rattle.hv_sets.specs.Gathered.{Gathered}
use Rattle.hv_sets.specs.declared.listed_state.KeptAtoms.{KeptAtoms}
use Rattle.hv_sets.specs.declared.listed_state.KeptAtoms.TheVariants as K
use Rattle.hv_sets.specs.declared.state_pieces.StatePieces.{StatePieces}
use Rattle.hv_sets.specs.declared.state_pieces.StatePieces.TheVariants as P
use Rattle.hv_sets.specs.declared.state_pieces.SharedStates.TheVariants as S

-- the atoms of a state, each in four bytes or in one
abbrev pub kept_atoms : KeptAtoms → List ℕ
kept_atoms (K.Wide atoms) = atoms.now
kept_atoms (K.Narrow atoms) = atoms.now

-- a state of at most 64 atoms
abbrev pub HasFewAtoms : List ℕ → Type 0
HasFewAtoms atoms = length atoms ≤ 64

-- only short states are kept in one byte an atom
abbrev pub FitsBuffer : KeptAtoms → Type 0
FitsBuffer (K.Wide atoms) = ⊤
FitsBuffer (K.Narrow atoms) = HasFewAtoms atoms.now

-- no piece from this place on, with these ends, has more than 64 items
abbrev pub AreShort : ℕ → List ℕ → Type 0
AreShort from [] = ⊤
AreShort from (end ∷ ends) = (end - from ≤ 64) × AreShort end ends

-- the states of a list, however they are kept
abbrev pub held_states : StatePieces → Gathered ℕ
held_states (P.Together (S.Wide shared)) = rc_value shared
held_states (P.Together (S.Narrow shared)) = rc_value shared
held_states (P.Alone flat) = flat
held_states (P.Few few) = few

-- only short states are kept in one byte an atom
abbrev pub AreFit : StatePieces → Type 0
AreFit (P.Together (S.Wide shared)) = ⊤
AreFit (P.Together (S.Narrow shared)) = All HasFewAtoms (rc_value shared).whole
AreFit (P.Alone flat) = ⊤
AreFit (P.Few few) = ⊤
