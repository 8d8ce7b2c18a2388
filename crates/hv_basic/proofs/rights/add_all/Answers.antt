use Rattle.std.proofs.Common.{◌≡◌, ◌-◌, ◌∙◌, arith, drop, length, subst}
use Rattle.std.proofs.lemmas.List.{length-map}
use Rattle.hv_basic.specs.Leaves.{places}
use Rattle.hv_basic.specs.Working.Sharing.{AreAddedTo}
use Rattle.hv_basic.proofs.Sharing.{added_at}
use Rattle.hv_basic.proofs.rights.add_all.Goals as goal

pub loop-count-preserved : goal.loop-count-preserved
loop-count-preserved c = record {
  side = c.in_ok-add_one.ensures.side c.if-not-branch.false;
  added =
      added_at c.args.leaves.now c.loop-count.count _ c.args.kept.now c.loop-count.kept
      c.add_one.new.kept c.loop-count-test.true c.loop-count.invariant.added
      (c.in_ok-add_one.ensures.added c.if-not-branch.false);
  root = c.in_ok-add_one.ensures.root ∙ c.loop-count.invariant.root;
  after = c.in_ok-add_one.ensures.after ∙ c.loop-count.invariant.after;
}

pub returns-clause-added : goal.returns-clause-added
returns-clause-added c = λ _.
    let size = length-map c.args.leaves.now (λ leaf. leaf.place) in
    let none : length (places c.args.leaves.now) - c.loop-count.count ≡ 0 = omega (arith, size) in
    subst (λ k. AreAddedTo (drop k (places c.args.leaves.now)) c.args.kept.now c.loop-count.kept)
    none c.loop-count.invariant.added
