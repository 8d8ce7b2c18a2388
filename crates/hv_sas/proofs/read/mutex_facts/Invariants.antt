use Rattle.std.proofs.Common.{◌-◌}
use Rattle.hv_grammar.specs.Parsers.{iterate}
use Rattle.hv_grammar.specs.Positions.{CanRead}
use Rattle.hv_grammar.proofs.Going.{Goes}
use Rattle.hv_sas.specs.Text.{mutex_fact}
use Rattle.hv_sas.proofs.read.mutex_facts.Given as goal

abbrev pub invariant-loop-done : goal.invariant-loop-done
invariant-loop-done g l = record {
  goes : Goes (iterate l.fn.count (mutex_fact l.fn.variables) tt)
      (g.R.Source.position l.fn.reader)
      (iterate (l.fn.count - l.done) (mutex_fact l.fn.variables) tt)
      (g.R.Source.position l.reader);
  can : CanRead (g.R.Source.position l.reader);
}
