-- Working definitions beside those of `LineCuts`: for private contracts and proofs.
use Rattle.std.specs.Prelude.{◌≡◌, ℕ, ◌+◌, ◌<◌, List, ◌∷◌, length, take, drop, sum_by}
use Rattle.hv_bytes.specs.LineCuts.{IsClean}

-- the first LF of these bytes is at this place
pub record IsFirstLf (bytes : List ℕ) (at : ℕ) : Type 0 where
  pub within : at < length bytes
  pub clean : IsClean (take at bytes)
  pub here : drop at bytes ≡ 10 ∷ drop (at + 1) bytes

-- how many bytes these lines have, each with its LF
abbrev pub bytes_in : List (List ℕ) → ℕ
bytes_in lines = sum_by (λ line. length line + 1) lines
