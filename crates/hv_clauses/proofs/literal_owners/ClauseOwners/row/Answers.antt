use Rattle.std.proofs.Common.{sym, subst}
use Rattle.hv_clauses.specs.Working.Owners.{AreSignedOwners}
use Rattle.hv_clauses.proofs.literal_owners.ClauseOwners.row.Goals as goal

pub row-requires : goal.row-requires
row-requires c = (
  c.requires.0,
  c.args.literal.positive,
  subst (AreSignedOwners c.requires.0 c.args.literal.positive) (sym c.signed.ensures)
      (c.requires.1 c.args.literal.positive),
)

pub returns : goal.returns
returns c = λ p are place owns.
    c.row.ensures p c.args.literal.positive
    (subst (AreSignedOwners p c.args.literal.positive) (sym c.signed.ensures)
    (are c.args.literal.positive)) place owns
