use Rattle.std.proofs.Common.{◌≡◌, ◌<◌, ℕ, true, get_or, length}
use Rattle.hv_task.specs.State.{has_atom}
use Rattle.hv_reach.specs.Reached.{has_pair}
use Rattle.hv_reach.specs.Working.Table.{IsJoined}
use Rattle.hv_reach.proofs.mask.join.Given as goal

abbrev pub invariant-loop-atom : goal.invariant-loop-atom
invariant-loop-atom l = record {
  size : length l.mask ≡ l.atoms;
  itself : (q : ℕ) → has_atom l.mask q ≡ true → has_pair l.rows.items q q ≡ true;
  done : (k : ℕ) → k < l.atom-index → (q : ℕ) → has_atom l.mask q ≡ true
      → has_pair l.rows.items (get_or l.list k 0) q ≡ true;
  complete : (q : ℕ) → IsJoined (has_pair l.rows.items) l.list q → has_atom l.mask q ≡ true;
}
