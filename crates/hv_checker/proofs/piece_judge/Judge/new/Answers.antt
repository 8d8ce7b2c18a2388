use Rattle.std.proofs.Common.{subst, sym}
use Rattle.hv_lines.specs.Good.{AreGood}
use Rattle.hv_lines.specs.Setting.{setting_of}
use Rattle.hv_basic.specs.Stores.{IsStoreOf}
use Rattle.hv_checker.proofs.piece_judge.Judge.new.Goals as goal

pub invariant_of-result : goal.invariant_of-result
invariant_of-result c = record {
  setting = c.requires;
  good =
      subst (AreGood (setting_of c.args.task.now c.args.diagrams.now c.args.budget))
      (sym c.new.ensures) tt;
  stored =
      subst (λ lines. IsStoreOf c.args.task.now lines c.new-2.result) (sym c.new.ensures)
      (c.new-2.ensures.none c.args.task.now);
  kept = c.in_ok-new.ensures c.new.result.lines;
}
