use Rattle.hv_explicit.specs.Working.Listing.{AreFirsts, IsIndex}
use Rattle.hv_explicit.proofs.firsts.enter_all.Given as goal

abbrev pub invariant-loop-place : goal.invariant-loop-place
invariant-loop-place l = record {
  firsts : AreFirsts l.states l.firsts.places.items l.place;
  index : IsIndex l.firsts.key l.firsts.codes l.firsts.places.items l.states;
}
