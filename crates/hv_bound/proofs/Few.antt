-- How many steps a plan file says: told or not, each of them takes two bytes, but the last.
use Rattle.std.proofs.Common.{◌≡◌, ℕ, ◌*◌, ◌≤◌, Bool, false, List, length}

-- how many steps so many bytes may say
pub record AreFewSteps (steps : List ℕ) (earlier : ℕ) (ended : Bool) : Type 0 where
  pub few : length steps ≤ 4194304
  pub sized : ended ≡ false → 2 * length steps ≤ earlier
