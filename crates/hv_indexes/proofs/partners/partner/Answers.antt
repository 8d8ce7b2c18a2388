use Rattle.std.proofs.Common.{ap, inl, inr, length}
use Rattle.hv_indexes.proofs.partners.partner.Goals as goal

pub returns-then-clause-ne2-clause-two : goal.returns-then-clause-ne2-clause-two
returns-then-clause-ne2-clause-two c = λ other either. elim either [
  | inl is ↦ absurd (c.if-clause-ne2.true (ap length is))
  | inr is ↦ absurd (c.if-clause-ne2.true (ap length is))
]
