use Rattle.std.proofs.Common.{◌-◌, drop, length}
use Rattle.hv_lines.specs.Shapes.{AskingsRise}
use Rattle.hv_basic.specs.Working.Asked.{AreChosen}
use Rattle.hv_basic.proofs.rising.from_last.Given as goal

abbrev pub invariant-loop-count : goal.invariant-loop-count
invariant-loop-count l = record {
  rises : AskingsRise l.chosen.items;
  chosen : AreChosen (drop (length l.askings - l.count) l.askings) l.positive l.chosen.items;
}
