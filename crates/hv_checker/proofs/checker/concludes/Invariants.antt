use Rattle.std.proofs.Common.{ℕ, ◌<◌}
use Rattle.hv_lines.specs.Rules.{Says}
use Rattle.hv_lines.specs.declared.line.Statement.TheVariants as T
use Rattle.hv_checker.proofs.checker.concludes.Given as goal

abbrev pub invariant-loop-premise : goal.invariant-loop-premise
invariant-loop-premise l = (premise : ℕ) → premise < l.premise
    → Says l.table.lines premise T.Unsolvable → ⊥
