use Rattle.std.proofs.Common.{◌∙◌, inl, inr, subst}
use Rattle.hv_basic.specs.Working.Denied.{HasDenial}
use Rattle.hv_basic.proofs.Crossing.{stored_clauses}
use Rattle.hv_basic.proofs.denied.flag_in.Goals as goal

pub returns-clause-denied : goal.returns-clause-denied
returns-clause-denied g c = λ count atom lists is on.
    elim (c.flag_denied.ensures.denied atom on) [
      | inl was ↦ inl was
      | inr own ↦ inr (subst (λ clauses. HasDenial clauses atom)
          (c.clauses.ensures.clauses
          ∙ stored_clauses count c.args.sets.now lists is c.args.number c.get.result.now
          c.get.ensures) own)
    ]
