-- Working definitions beside those of `Fields`: for private contracts and proofs.
use Rattle.std.specs.Prelude.{◌≡◌, ℕ, ◌+◌, ◌<◌, List, [], ◌∷◌, Option, None, Some, length, take}
use Rattle.std.specs.Prelude.{drop}
use Rattle.hv_bytes.specs.Fields.{HasNoSpace, cut_fields}

-- the first space of these bytes is at this place
pub record IsFirstSpace (bytes : List ℕ) (at : ℕ) : Type 0 where
  pub within : at < length bytes
  pub clean : HasNoSpace (take at bytes)
  pub here : drop at bytes ≡ 32 ∷ drop (at + 1) bytes

-- the fields of what follows in a line, if anything does
abbrev pub fields_behind : {A : Type 0} → Option A → (A → List ℕ) → List (List ℕ)
fields_behind None now = []
fields_behind (Some rest) now = cut_fields (now rest)
