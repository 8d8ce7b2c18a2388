use Rattle.std.proofs.Common.{ℕ, ◌<◌}
use Rattle.hv_lines.specs.Rules.{Says}
use Rattle.hv_lines.specs.declared.line.Statement.TheVariants as T
use Rattle.hv_explain.proofs.needed.conclusion.Given as goal

abbrev pub invariant-loop-id : goal.invariant-loop-id
invariant-loop-id l = (earlier : ℕ) → earlier < l.id → Says l.table.lines earlier T.Unsolvable → ⊥
