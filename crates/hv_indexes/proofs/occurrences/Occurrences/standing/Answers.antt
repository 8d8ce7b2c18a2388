use Rattle.std.proofs.Common.{sym, subst}
use Rattle.hv_indexes.specs.Occurrences.{AreOccurrences}
use Rattle.hv_indexes.proofs.occurrences.Occurrences.standing.Goals as goal

pub standing-requires : goal.standing-requires
standing-requires c = (
  c.requires.0,
  subst (AreOccurrences c.args.literal.positive c.requires.0) (sym c.signed.ensures)
      (c.requires.1 c.args.literal.positive),
)

pub returns-clause-standing : goal.returns-clause-standing
returns-clause-standing c = λ clauses index. c.standing.ensures.standing clauses
    (subst (AreOccurrences c.args.literal.positive clauses) (sym c.signed.ensures)
    (index c.args.literal.positive))
