use Rattle.std.proofs.Common.{◌≡◌, ◌≤◌, length, take}
use Rattle.std.specs.List.{filter}
use Rattle.std.specs.Prelude.{nat_eq}
use Rattle.hv_bdd.proofs.place_sweep.count_of.Given as goal

abbrev pub invariant-loop-v : goal.invariant-loop-v
invariant-loop-v l = record {
  few : l.count ≤ l.v-index;
  count : l.count ≡ length (filter (λ v. nat_eq v l.place) (take l.v-index l.places));
}
