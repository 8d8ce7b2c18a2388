use Rattle.std.proofs.Common.{◌≡◌, length}
use Rattle.hv_indexes.specs.Working.Pairs.{AreEntryPairs}
use Rattle.hv_indexes.proofs.partners.pairs_of.Given as goal

abbrev pub invariant-loop-place : goal.invariant-loop-place
invariant-loop-place l = record {
  size : length l.pairs.items ≡ l.place;
  are : AreEntryPairs l.clauses l.pairs.items;
}
