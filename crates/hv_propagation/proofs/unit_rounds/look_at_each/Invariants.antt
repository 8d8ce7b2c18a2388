use Rattle.std.proofs.Common.{◌≡◌, ◌<◌, ℕ, false, List, [], get_or}
use Rattle.hv_sets.specs.declared.literal.Literal.{Literal}
use Rattle.hv_propagation.specs.Units.{IsSettled}
use Rattle.hv_propagation.specs.Trail.{marked}
use Rattle.hv_propagation.specs.UnitRounds.{IsAround}
use Rattle.hv_propagation.proofs.unit_rounds.look_at_each.Given as goal

abbrev pub invariant-loop-place : goal.invariant-loop-place
invariant-loop-place l = record {
  around : IsAround l.atoms l.clauses l.cube;
  settled : l.moved ≡ false → (k : ℕ) (d : List Literal) → k < l.place
      → IsSettled [] (marked l.atoms l.cube) (get_or l.clauses k d);
}
