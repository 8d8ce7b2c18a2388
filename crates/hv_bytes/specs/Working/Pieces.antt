-- Working definitions beside those of `Pieces`: for private contracts and proofs.
use Rattle.std.specs.Prelude.{◌≡◌, ℕ, List, ◌++◌, Option, None, Some}
use Rattle.hv_bytes.specs.LineCuts.{lines_of}
use Rattle.hv_bytes.specs.declared.cutting.Limits.{Limits}
use Rattle.hv_bytes.specs.Pieces.{pieces_after, pieces_of, as_pieces}

-- of a known file these lines were given, none of them long: with the pieces of the coming bytes
-- they are its pieces
abbrev pub GaveLines : Limits → Option (List ℕ) → List (List ℕ) → Option (List ℕ) → ℕ → Type 0
GaveLines limits None given coming earlier = Unit {0}
GaveLines limits (Some file) given None earlier = ⊥
GaveLines limits (Some file) given (Some coming) earlier =
    pieces_of limits file ≡ as_pieces given ++ pieces_after limits earlier (lines_of coming)
