use Rattle.std.proofs.Common.{subst}
use Rattle.std.specs.List.{All}
use Rattle.std.proofs.lemmas.List.Elements.{All-push}
use Rattle.hv_propagation.specs.Clauses.{AreClauses}
use Rattle.hv_formula.specs.Working.Kinded.{IsKinded}
use Rattle.hv_clauses.proofs.formulas.Formulas.add.Goals as goal

pub invariant_of-self : goal.invariant_of-self
invariant_of-self g c = rw c.in_err-push.ensures.items c.self.invariant

pub invariant_of-self-2 : goal.invariant_of-self-2
invariant_of-self-2 g c =
    rw c.in_ok-push.ensures.items
    (All-push (IsKinded g.K.ClauseKind.is_of) c.self.inside.sets.items c.args.set c.self.invariant
    (record {
      of_kind = subst (All g.K.ClauseKind.is_of) c.clauses.ensures.clauses c.clauses.ensures.kind;
      below = subst (AreClauses c.args.set.atoms) c.clauses.ensures.clauses c.clauses.ensures.below;
    }))
