use Rattle.std.proofs.Common.{◌≡◌, ◌-◌, []}
use Rattle.hv_grammar.specs.Parsers.{iterate}
use Rattle.hv_grammar.specs.Positions.{CanRead}
use Rattle.hv_grammar.proofs.Going.{Goes}
use Rattle.hv_sas.specs.Variables.{values_in}
use Rattle.hv_sas.specs.Text.{variable}
use Rattle.hv_sas.specs.Working.Reading.{AreVariables}
use Rattle.hv_sas.proofs.read.variables.Given as goal

abbrev pub invariant-loop-done : goal.invariant-loop-done
invariant-loop-done g l = record {
  goes : Goes (iterate l.fn.count variable [])
      (g.R.Source.position l.fn.reader)
      (iterate (l.fn.count - l.done) variable l.variables)
      (g.R.Source.position l.reader);
  can : CanRead (g.R.Source.position l.reader);
  used : l.used ≡ values_in l.variables;
  variables : AreVariables l.variables;
}
