use Rattle.std.proofs.Common.{ℕ, ◌<◌}
use Rattle.hv_lines.specs.Verdicts.{IsOutside}
use Rattle.hv_basic.specs.Cases.{lines_in}
use Rattle.hv_basic.proofs.acts_verdicts.verdict_by_flags.Given as goal

abbrev pub invariant-loop-action : goal.invariant-loop-action
invariant-loop-action l = (lower : ℕ) → lower < l.action
    → IsOutside l.case.task.now (lines_in l.case) l.first l.second lower → ⊥
