use Rattle.std.proofs.Common.{◌≡◌, ◌-◌, [], length}
use Rattle.hv_grammar.specs.Parsers.{iterate}
use Rattle.hv_grammar.specs.Positions.{CanRead}
use Rattle.hv_grammar.proofs.Going.{Goes}
use Rattle.hv_sas.specs.Text.{value}
use Rattle.hv_sas.specs.Working.Reading.{AreWithin}
use Rattle.hv_sas.proofs.read.values.Given as goal

abbrev pub invariant-loop-var : goal.invariant-loop-var
invariant-loop-var g l = record {
  goes : Goes (iterate (length l.fn.variables) (value l.fn.variables) [])
      (g.R.Source.position l.fn.reader)
      (iterate (length l.fn.variables - l.var) (value l.fn.variables) l.values)
      (g.R.Source.position l.reader);
  can : CanRead (g.R.Source.position l.reader);
  count : length l.values ≡ l.var;
  within : AreWithin l.fn.variables l.values;
}
