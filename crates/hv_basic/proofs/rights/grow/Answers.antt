use Rattle.std.proofs.Common.{subst}
use Rattle.hv_basic.specs.Cases.{lines_in}
use Rattle.hv_basic.specs.Leaves.{places}
use Rattle.hv_basic.specs.Working.Sharing.{AreAddedTo}
use Rattle.hv_basic.proofs.Sharing.{kept_for}
use Rattle.hv_basic.proofs.rights.grow.Goals as goal

pub returns-clause-kept : goal.returns-clause-kept
returns-clause-kept c = record {
  below = c.requires.root;
  side = let side = c.in_ok-add_all.ensures.side c.if-not-branch.false in
      record {
        plain = side.plain;
        ways = side.ways;
        enough = side.enough;
        negations = side.negations;
        negated = side.negated;
        named = side.named;
      };
  leaves =
      kept_for (lines_in c.args.case.now) c.args.root c.args.part
      (places c.in_ok-leaves.leaves.items) c.args.kept.now c.add_all.new.kept c.requires.made
      c.in_ok-leaves.ensures.leaves
      (subst (λ ls. AreAddedTo (places ls) c.args.kept.now c.add_all.new.kept)
      c.deref.ensures.value (c.in_ok-add_all.ensures.added c.if-not-branch.false));
}
