use Rattle.hv_set_tests.proofs.Wider.{IsWide}
use Rattle.hv_set_tests.proofs.listed.wide_query_of.Given as goal

abbrev pub invariant-loop-number : goal.invariant-loop-number
invariant-loop-number l = IsWide l.count l.number l.fn.action l.query
