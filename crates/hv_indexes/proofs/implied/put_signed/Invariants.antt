use Rattle.hv_indexes.specs.Working.Implied.{PutsUpto}
use Rattle.hv_indexes.proofs.implied.put_signed.Given as goal

abbrev pub invariant-loop-at : goal.invariant-loop-at
invariant-loop-at l =
    PutsUpto l.turned l.clauses l.sign l.heads l.at l.fn.codes.items l.codes.items
