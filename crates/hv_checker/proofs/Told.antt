-- What a test tells that says no.
use Rattle.std.proofs.Common.{◌≡◌, ◌↔◌, Bool, true, false, IsTrue}

pub untold : (b : Bool) (P : Type 0) → (IsTrue b ↔ P) → b ≡ false → P → ⊥
untold b P tells asked p = let yes : b ≡ true = tells.1 p in absurd (cc)
