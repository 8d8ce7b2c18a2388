use Rattle.std.proofs.Common.{◌≡◌, length}
use Rattle.hv_bdd.specs.Working.Chains.{IsNodeLinked}
use Rattle.hv_bdd.proofs.chains.link_all.Given as goal

abbrev pub invariant-loop-place : goal.invariant-loop-place
invariant-loop-place l = record {
  linked : IsNodeLinked l.nodes l.before.items l.heads.items l.factor (length l.heads.items)
      l.place;
  before : length l.before.items ≡ length l.fn.before.items;
  heads : length l.heads.items ≡ length l.fn.heads.items;
}
