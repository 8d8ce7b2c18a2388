use Rattle.std.proofs.Common.{ℕ, take}
use Rattle.hv_propagation.specs.Clauses.{AreClauses}
use Rattle.hv_trap.specs.Working.Quick.{ArePairs}
use Rattle.hv_trap.proofs.quick.QuickClauses.set.Given as goal

abbrev pub invariant-loop-place : goal.invariant-loop-place
invariant-loop-place l = (bound : ℕ) → AreClauses bound l.clauses
    → ArePairs bound (take l.place l.clauses) l.self.pairs.items
