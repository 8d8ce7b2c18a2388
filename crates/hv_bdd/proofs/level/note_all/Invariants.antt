use Rattle.std.proofs.Common.{◌≡◌, length}
use Rattle.hv_bdd.proofs.level.note_all.Given as goal

abbrev pub invariant-loop-k : goal.invariant-loop-k
invariant-loop-k l = length l.places.items ≡ length l.fn.places.items
