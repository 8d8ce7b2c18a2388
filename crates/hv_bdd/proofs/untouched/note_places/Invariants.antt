use Rattle.std.proofs.Common.{◌≡◌, length, take, true}
use Rattle.std.specs.List.{All}
use Rattle.hv_task.specs.State.{has_atom}
use Rattle.hv_bdd.proofs.untouched.note_places.Given as goal

abbrev pub invariant-loop-v : goal.invariant-loop-v
invariant-loop-v l = record {
  size : length l.places ≡ length l.fn.places;
  noted : All (λ v. has_atom l.places v ≡ true) (take l.v-index l.list);
}
