use Rattle.std.proofs.Common.{refl}
use Rattle.hv_lines.proofs.Elements.{got_in}
use Rattle.hv_basic.proofs.told.has_enough.Goals as goal

pub returns-then-are_among : goal.returns-then-are_among
returns-then-are_among c = λ _. record {
  expr = c.expr.result.now;
  at = c.expr.ensures.says;
  clauses = c.in-Some.clauses.now;
  of = c.in-Some.ensures;
  clause = c.get.result.now;
  among = got_in c.in-Some.clauses.now c.loop-place.place c.get.result.now c.get.ensures;
  enough = c.if-are_among.ensures refl;
}
