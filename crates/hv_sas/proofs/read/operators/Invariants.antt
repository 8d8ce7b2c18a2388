use Rattle.std.proofs.Common.{◌≡◌, ◌-◌, [], length}
use Rattle.std.specs.List.{All}
use Rattle.hv_grammar.specs.Parsers.{iterate}
use Rattle.hv_grammar.specs.Positions.{CanRead}
use Rattle.hv_grammar.proofs.Going.{Goes}
use Rattle.hv_sas.specs.Sound.{IsOperator}
use Rattle.hv_sas.specs.Text.{operator}
use Rattle.hv_sas.proofs.read.operators.Given as goal

abbrev pub invariant-loop-done : goal.invariant-loop-done
invariant-loop-done g l = record {
  goes : Goes (iterate l.fn.count (operator l.fn.variables) [])
      (g.R.Source.position l.fn.reader)
      (iterate (l.fn.count - l.done) (operator l.fn.variables) l.operators)
      (g.R.Source.position l.reader);
  can : CanRead (g.R.Source.position l.reader);
  operators : All (IsOperator l.fn.variables) l.operators;
  count : length l.operators ≡ l.done;
}
