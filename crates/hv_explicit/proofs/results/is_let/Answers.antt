use Rattle.std.proofs.Common.{refl}
use Rattle.std.proofs.lemmas.Bool.{both_ways}
use Rattle.hv_explicit.proofs.results.is_let.Goals as goal

pub returns-then-not-names_atom : goal.returns-then-not-names_atom
returns-then-not-names_atom c = (
  λ _ has. absurd (both_ways c.names_atom.result c.if-not-names_atom.true
      (c.names_atom.ensures.1 has)),
  λ _. refl,
)

pub returns : goal.returns
returns c = (
  λ yes _. c.names_atom-2.ensures.0 yes,
  λ lets. c.names_atom-2.ensures.1 (lets (c.names_atom.ensures.0 c.if-not-names_atom.false)),
)
