use Rattle.std.proofs.Common.{◌≡◌, ◌-◌, length}
use Rattle.hv_grammar.specs.Parsers.{one_more, iterate, repeat}
use Rattle.hv_grammar.specs.Positions.{CanRead}
use Rattle.hv_grammar.proofs.Going.{Goes}
use Rattle.hv_sas.specs.Text.{name_line}
use Rattle.hv_sas.proofs.read.names.Given as goal

abbrev pub invariant-loop-done : goal.invariant-loop-done
invariant-loop-done g l = record {
  goes : Goes (repeat l.fn.count (name_line l.fn.kind))
      (g.R.Source.position l.fn.reader)
      (iterate (l.fn.count - l.done) (one_more (name_line l.fn.kind)) l.names)
      (g.R.Source.position l.reader);
  can : CanRead (g.R.Source.position l.reader);
  count : length l.names ≡ l.done;
  kind : l.kind ≡ l.fn.kind;
}
