-- Working definitions beside those of `Files`: for private contracts and proofs.
use Rattle.std.specs.Prelude.{ℕ, List, [], unwrap_or, option_map, slice_get}
use Rattle.hv_bytes.specs.Files.{File}

-- the bytes of the file at this place: none past the end
abbrev pub bytes_at : List File → ℕ → List ℕ
bytes_at files place = unwrap_or (option_map (λ file. file.bytes) (slice_get files place)) []
