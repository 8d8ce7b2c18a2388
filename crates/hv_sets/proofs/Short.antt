-- States that are short enough to be kept in one byte an atom.
use Rattle.std.proofs.Common.{◌≤◌, ◌-◌, ℕ, List, [], ◌∷◌, ◌++◌, drop, length, suc, zero, arith}
use Rattle.std.proofs.Math.Nat.{min-le_left}
use Rattle.std.proofs.lemmas.List.{length-take}
use Rattle.std.specs.List.{All}
use Rattle.std.specs.Prelude.{slice_range}
use Rattle.hv_sets.specs.Working.KeptStates.{AreShort, HasFewAtoms}
use Rattle.hv_sets.specs.Working.Pieces.{last_end, pieces}

-- one more piece
pub short-push : (from : ℕ) (ends : List ℕ) (end : ℕ) → AreShort from ends
    → end - last_end from ends ≤ 64 → AreShort from (ends ++ end ∷ [])
short-push from [] end short last = (last, tt)
short-push from (next ∷ ends) end short last = (short.0, short-push next ends end short.1 last)

-- what is between two near ends is short
pub short_range : (items : List ℕ) (from end : ℕ) → end - from ≤ 64
    → HasFewAtoms (slice_range items from end)
short_range items from end near =
    let rest = drop from items in
    let size = length-take (end - from) rest in
    let least = min-le_left (end - from) (length rest) in
    omega (arith, near, size, least)

-- the pieces between such ends are short
pub all_short : (items : List ℕ) (from : ℕ) (ends : List ℕ) → AreShort from ends
    → All HasFewAtoms (pieces items from ends)
all_short items from [] short k d place = omega (arith, place)
all_short items from (end ∷ ends) short zero d place = short_range items from end short.0
all_short items from (end ∷ ends) short (suc k) d place =
    all_short items end ends short.1 k d (omega (arith, place))
