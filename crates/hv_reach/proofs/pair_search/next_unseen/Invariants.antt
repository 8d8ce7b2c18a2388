use Rattle.std.proofs.Common.{◌-◌, length}
use Rattle.hv_reach.proofs.pair_search.next_unseen.Given as goal

abbrev pub decreases-loop-flag : goal.decreases-loop-flag
decreases-loop-flag l = length l.search.flags - l.from
