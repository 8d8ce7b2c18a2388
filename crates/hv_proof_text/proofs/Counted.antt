-- Lists of one, two and three numbers.
use Rattle.std.proofs.Common.{◌≡◌, ℕ, List, [], ◌∷◌, length, refl, arith}

pub one_of : (xs : List ℕ) → length xs ≡ 1 → (n : ℕ) × (xs ≡ n ∷ [])
one_of [] size = absurd (omega arith)
one_of (n ∷ []) size = (n, refl)
one_of (n ∷ m ∷ xs) size = absurd (omega arith)

pub two_of : (xs : List ℕ) → length xs ≡ 2 → (m : ℕ) × (n : ℕ) × (xs ≡ m ∷ n ∷ [])
two_of [] size = absurd (omega arith)
two_of (m ∷ []) size = absurd (omega arith)
two_of (m ∷ n ∷ []) size = (m, n, refl)
two_of (m ∷ n ∷ l ∷ xs) size = absurd (omega arith)

pub three_of : (xs : List ℕ) → length xs ≡ 3 → (l : ℕ) × (m : ℕ) × (n : ℕ) × (xs ≡ l ∷ m ∷ n ∷ [])
three_of [] size = absurd (omega arith)
three_of (l ∷ []) size = absurd (omega arith)
three_of (l ∷ m ∷ []) size = absurd (omega arith)
three_of (l ∷ m ∷ n ∷ []) size = (l, m, n, refl)
three_of (l ∷ m ∷ n ∷ k ∷ xs) size = absurd (omega arith)
