use Rattle.std.proofs.Common.{◌<◌, ◌≤◌, ℕ, length, slice_index_or}
use Rattle.std.specs.List.{Contains}
use Rattle.hv_formula.specs.Rest.{IsArranged}
use Rattle.hv_formula.specs.Working.Rest.{KeepsUpto}
use Rattle.hv_formula.proofs.arranged.Arranged.move_all.Given as goal

abbrev pub invariant-loop-at : goal.invariant-loop-at
invariant-loop-at l =
    ((count : ℕ) → IsArranged count l.fn.self
    → ((k : ℕ) → k < length l.clauses → slice_index_or l.clauses k 0 < count)
    → IsArranged count l.self)
    × KeepsUpto l.fn.self.done l.fn.self.order.items l.self.order.items
    × (l.fn.self.done ≤ l.self.done)
    × ((k : ℕ) → l.fn.self.done ≤ k → k < l.self.done
    → Contains l.clauses (slice_index_or l.self.order.items k 0))
