use Rattle.std.proofs.Common.{◌-◌}
use Rattle.std.specs.List.{All}
use Rattle.hv_grammar.specs.Parsers.{one_more, iterate, repeat}
use Rattle.hv_grammar.specs.Positions.{CanRead}
use Rattle.hv_grammar.proofs.Going.{Goes}
use Rattle.hv_sas.specs.Variables.{IsFact}
use Rattle.hv_sas.specs.Text.{fact}
use Rattle.hv_sas.proofs.read.facts.Given as goal

abbrev pub invariant-loop-done : goal.invariant-loop-done
invariant-loop-done g l = record {
  goes : Goes (repeat l.fn.count (fact l.fn.kind l.fn.variables))
      (g.R.Source.position l.fn.reader)
      (iterate (l.fn.count - l.done) (one_more (fact l.fn.kind l.fn.variables)) l.facts)
      (g.R.Source.position l.reader);
  can : CanRead (g.R.Source.position l.reader);
  facts : All (IsFact l.fn.variables) l.facts;
}
