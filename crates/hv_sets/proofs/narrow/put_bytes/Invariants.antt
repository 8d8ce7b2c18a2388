use Rattle.std.proofs.Common.{◌≡◌, take, length}
use Rattle.hv_sets.proofs.narrow.put_bytes.Given as goal

abbrev pub invariant-loop-place : goal.invariant-loop-place
invariant-loop-place l =
    (take l.place l.bytes ≡ take l.place l.items) × (length l.bytes ≡ length l.items)
