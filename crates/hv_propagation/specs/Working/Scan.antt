-- What a look through the literals of a clause finds.
use Rattle.std.specs.Prelude.{◌≡◌, ◌<◌, ◌+◌, ◌⊎◌, ⊤, ℕ, false, List, None, Some}
use Rattle.std.specs.List.{All, Contains}
use Rattle.hv_sets.specs.declared.literal.Literal.{Literal}
use Rattle.hv_propagation.specs.declared.watched.Scan.{Scan}
use Rattle.hv_propagation.specs.declared.watched.ScanState.{ScanState}
use Rattle.hv_propagation.specs.Units.{IsSettled, value_of, AreFalse}
use Rattle.hv_propagation.specs.declared.watched.Scan.TheVariants as S
use Rattle.hv_propagation.specs.declared.watched.ScanState.TheVariants as T

-- it is settled; or this literal is the one open one, and the others are false; or all are false
abbrev pub Scans : Scan → List ℕ → List ℕ → List Literal → Type 0
Scans S.Settled effect marks clause = IsSettled effect marks clause
Scans (S.Unit literal) effect marks clause =
    Contains clause literal × (value_of effect marks literal ≡ None)
    × All (λ l. (l ≡ literal) ⊎ (value_of effect marks l ≡ Some false)) clause
Scans S.Broken effect marks clause = AreFalse effect clause marks

-- what is said of some literals of a clause is so: it is settled, or the literal that is left is an
-- open one of the clause
abbrev pub IsScanState : ScanState → List ℕ → List ℕ → List Literal → Type 0
IsScanState (T.Enough _) effect marks clause = IsSettled effect marks clause
IsScanState (T.Left None) effect marks clause = ⊤
IsScanState (T.Left (Some pending)) effect marks clause =
    Contains clause pending.literal × (value_of effect marks pending.literal ≡ None)

-- a literal can be among those of which this is told: it is false, or the one that is left
abbrev pub IsSeenIn : ScanState → List ℕ → List ℕ → Literal → Type 0
IsSeenIn (T.Enough _) effect marks literal = ⊤
IsSeenIn (T.Left None) effect marks literal = value_of effect marks literal ≡ Some false
IsSeenIn (T.Left (Some pending)) effect marks literal =
    (literal ≡ pending.literal) ⊎ (value_of effect marks literal ≡ Some false)

-- the place is so many steps after another one, where the first comes after the last
abbrev pub IsRoundFrom : ℕ → ℕ → ℕ → ℕ → Type 0
IsRoundFrom from step len place =
    (place < len) × ((place ≡ from + step) ⊎ (place + len ≡ from + step))
