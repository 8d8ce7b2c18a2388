-- Orders of places, as codes.
use Rattle.std.specs.Prelude.{◌≡◌, ◌<◌, ◌%◌, ℕ, List}
use Rattle.std.specs.List.{AllPairs, Contains}

-- the place for which a code stands
abbrev pub place_in : ℕ → ℕ
place_in c = c % 268435456

-- the codes denote the places below this number, each once, and no other
pub record OrdersUpto (upto : ℕ) (codes : List ℕ) : Type 0 where
  pub only : (c : ℕ) → Contains codes c → place_in c < upto
  pub each : (p : ℕ) → p < upto → (c : ℕ) × Contains codes c × (place_in c ≡ p)
  pub once : AllPairs (λ c d. place_in c ≡ place_in d → ⊥) codes
