use Rattle.std.proofs.Common.{◌≡◌, ◌<◌, ℕ, true, get_or}
use Rattle.std.specs.List.{All}
use Rattle.hv_reach.specs.Reached.{LeavesAlone, has_pair}
use Rattle.hv_reach.specs.Working.Table.{IsPairStep, KeepsPairs, PairsGrowWithin}
use Rattle.hv_reach.proofs.pair_visit.follow.Given as goal

abbrev pub invariant-loop-place : goal.invariant-loop-place
invariant-loop-place l = record {
  step : IsPairStep l.atoms l.fn.rows.items l.fn.flags l.rows.items l.flags l.moved;
  done : (k : ℕ) → k < l.place → LeavesAlone l.action (get_or l.news.atoms.items k 0)
      → All (λ p. has_pair l.fn.rows.items p (get_or l.news.atoms.items k 0) ≡ true) l.action.pre
      → All (λ p. has_pair l.rows.items p (get_or l.news.atoms.items k 0) ≡ true) l.action.add;
  least : PairsGrowWithin (λ set. KeepsPairs set l.action) l.fn.rows.items l.rows.items;
}
