-- Tuples: a node for each of several operands, moved together by the bits of a state.
use Rattle.std.specs.Prelude.{◌≡◌, ◌<◌, ◌+◌, ◌&&◌, ℕ, Bool, true, List, [], ◌∷◌, Option, None, Some}
use Rattle.std.specs.Prelude.{cond, length, min, nat_eq, nat_lt, not, slice_index_or}
use Rattle.std.specs.List.{All}

-- how operands move: by the bits of a state, place by place
pub record Moves (O : Type 0) : Type 0 where
  pub atoms : ℕ
  -- the atom at a place
  pub atom_at : ℕ → ℕ
  -- the place for which a node of an operand asks; an end asks for none, and has the place past all
  -- others
  pub top : O → ℕ → ℕ
  -- the node to which a bit leads
  pub child : O → ℕ → Bool → ℕ
  -- whether the state has to be in the operand, or else outside it
  pub wants : O → Bool
  -- the bit that an operand sees where the state has this bit at a place
  pub seen : O → ℕ → Bool → Bool
  -- whether the state may have this bit at a place
  pub allows : ℕ → Bool → Bool

module _ {O : Type 0} (m : Moves O) where
  -- the least place for which a node of the tuple asks, or the place past all atoms
  abbrev pub least : List O → List ℕ → ℕ
  least [] nodes = m.atoms
  least (o ∷ os) [] = m.atoms
  least (o ∷ os) (i ∷ nodes) = min (m.top o i) (least os nodes)

  -- no place of the tuple is the end that rules its operand out: 0 for a positive one, 1 for a
  -- negative one
  abbrev pub is_live : List O → List ℕ → Bool
  is_live [] nodes = true
  is_live (o ∷ os) [] = true
  is_live (o ∷ os) (i ∷ nodes) = not (nat_eq i (cond (m.wants o) 0 1)) && is_live os nodes

  -- a node that asks for this place moves to its child, and any other stays
  abbrev pub move_one : ℕ → Bool → O → ℕ → ℕ
  move_one v bit o i = cond (nat_eq (m.top o i) v) (m.child o i (m.seen o v bit)) i

  -- each node of a tuple does so
  abbrev pub move_all : ℕ → Bool → List O → List ℕ → List ℕ
  move_all v bit [] nodes = []
  move_all v bit (o ∷ os) [] = []
  move_all v bit (o ∷ os) (i ∷ nodes) = move_one v bit o i ∷ move_all v bit os nodes

  -- the tuple, if it is live
  abbrev pub if_live : List O → List ℕ → Option (List ℕ)
  if_live os nodes = cond (is_live os nodes) (Some nodes) None

  -- the live tuple to which a bit at this place leads, if there is one
  abbrev pub move_at : List O → List ℕ → ℕ → Bool → Option (List ℕ)
  move_at os nodes v bit =
      cond (nat_lt v m.atoms && m.allows v bit) (if_live os (move_all v bit os nodes)) None

  -- the same at its least place
  abbrev pub next : List O → List ℕ → Bool → Option (List ℕ)
  next os nodes bit = move_at os nodes (least os nodes) bit

  -- where a list of bits leads
  abbrev pub follow : List O → List Bool → Option (List ℕ) → Option (List ℕ)
  follow os [] tuple = tuple
  follow os (bit ∷ bits) None = None
  follow os (bit ∷ bits) (Some nodes) = follow os bits (next os nodes bit)

  -- the tuple is reached: some list of bits leads to it from the tuple of roots, which, like it and
  -- each one on the way, is live
  abbrev pub IsReached : List O → List ℕ → List ℕ → Type 0
  IsReached os roots nodes = (bits : List Bool) × (follow os bits (if_live os roots) ≡ Some nodes)

  -- more tuples than the budget are reached: one more than it, without repeats
  abbrev pub TuplesPass : List O → List ℕ → ℕ → Type 0
  TuplesPass os roots budget =
      (tuples : List (List ℕ)) × (length tuples ≡ budget + 1) × All (IsReached os roots) tuples
      × ((i j : ℕ) → i < j → j < length tuples
      → slice_index_or tuples i [] ≡ slice_index_or tuples j [] → ⊥)
