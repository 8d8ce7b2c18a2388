use Rattle.hv_indexes.specs.Working.Implied.{PutsImplied}
use Rattle.hv_indexes.proofs.ImpliedRows.{Early}
use Rattle.hv_indexes.proofs.implied.put_standing.Given as goal

abbrev pub invariant-loop-index : goal.invariant-loop-index
invariant-loop-index l =
    PutsImplied l.turned l.clauses
    (Early l.turned l.clauses l.standing.literal l.standing.places.now l.index)
    l.standing.literal l.fn.codes.items l.codes.items
