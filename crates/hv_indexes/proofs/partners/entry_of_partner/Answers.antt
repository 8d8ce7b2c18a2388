use Rattle.std.proofs.Common.{◌∙◌, refl, sym}
use Rattle.hv_indexes.proofs.partners.entry_of_partner.Goals as goal

pub returns-in-None : goal.returns-in-None
returns-in-None c = record {
  pair = λ no. absurd (no refl);
  two = λ other e. let none = sym c.in-None.is ∙ c.partner.ensures.two other e in absurd cc;
}
