use Rattle.std.proofs.Common.{◌-◌, []}
use Rattle.hv_grammar.specs.Parsers.{iterate}
use Rattle.hv_grammar.specs.Positions.{CanRead}
use Rattle.hv_grammar.proofs.Going.{Goes}
use Rattle.hv_sas.specs.Text.{effect}
use Rattle.hv_sas.specs.Working.Reading.{AreEffects, AreMarked}
use Rattle.hv_sas.proofs.read.effects.Given as goal

abbrev pub invariant-loop-done : goal.invariant-loop-done
invariant-loop-done g l = record {
  goes : Goes (iterate l.fn.count (effect l.fn.variables) [])
      (g.R.Source.position l.fn.reader)
      (iterate (l.fn.count - l.done) (effect l.fn.variables) l.effects)
      (g.R.Source.position l.reader);
  can : CanRead (g.R.Source.position l.reader);
  effects : AreEffects l.fn.variables l.effects;
  marked : AreMarked l.fn.variables l.effects l.marks;
}
