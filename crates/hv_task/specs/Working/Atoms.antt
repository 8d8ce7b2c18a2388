-- Working definitions beside those of `Atoms`: for private contracts and proofs.
use Rattle.std.specs.Prelude.{ℕ, Bool, ◌||◌, Option}
use Rattle.hv_task.specs.Atoms.{IsNext}

-- the next atom of two sets together, by the next atom of each
abbrev pub IsNextOfBoth : Option ℕ → Option ℕ → Option ℕ → Type 0
IsNextOfBoth one other next =
    (left right : ℕ → Bool) (from : ℕ) → IsNext left from one → IsNext right from other
    → IsNext (λ p. left p || right p) from next
