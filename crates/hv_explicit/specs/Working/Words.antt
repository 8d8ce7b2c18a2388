-- States of a task with at most 64 atoms as words.
use Rattle.std.specs.Prelude.{◌==◌, ◌++◌, ◌∷◌, ℕ, zero, suc, List, [], cond}
use Rattle.std.specs.Int.{bit_at}

-- the atoms below the bound whose bits are set in the word, rising
abbrev pub bits_below : ℕ → ℕ → List ℕ
bits_below word zero = []
bits_below word (suc n) = bits_below word n ++ cond (bit_at word n == 1) (n ∷ []) []

-- the atoms of a state of which the word has a bit for each
unfoldable pub word_atoms : ℕ → List ℕ
word_atoms word = bits_below word 64
