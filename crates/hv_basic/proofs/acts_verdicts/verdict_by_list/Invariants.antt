use Rattle.std.proofs.Common.{◌≡◌, ◌<◌, ℕ, get_or, length, true}
use Rattle.hv_basic.specs.Working.Flags.{flag_or_false}
use Rattle.hv_basic.proofs.acts_verdicts.verdict_by_list.Given as goal

abbrev pub invariant-loop-action : goal.invariant-loop-action
invariant-loop-action l = (j : ℕ) → j < l.action-index
    → get_or l.listed j 0 < length l.case.task.now.actions
    → flag_or_false l.seconds.flags.items (get_or l.listed j 0) ≡ true
