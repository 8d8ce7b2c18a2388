use Rattle.std.proofs.Common.{Some, subst, sym}
use Rattle.hv_task.specs.Atoms.{IsNext}
use Rattle.hv_task.specs.State.{has_atom}
use Rattle.hv_bdd.specs.Nodes.{NodeList}
use Rattle.hv_bdd.specs.Order.{atom_at, atom_by}
use Rattle.hv_bdd.proofs.diagrams.Diagrams.next_place.Goals as goal

pub returns-in-None-clause-next : goal.returns-in-None-clause-next
unfolding atom_at
returns-in-None-clause-next c =
    subst (λ (list : NodeList).
    IsNext (λ v. has_atom c.args.held.now (atom_at list v)) c.args.from c.next.result)
    c.self.view_is
    (subst (λ o. IsNext (λ v. has_atom c.args.held.now (atom_by o v)) c.args.from c.next.result)
    (sym c.in-None.is) c.next.ensures.next)

pub returns-in-Some-next_below-clause-next : goal.returns-in-Some-next_below-clause-next
unfolding atom_at
returns-in-Some-next_below-clause-next c =
    subst (λ (list : NodeList).
    IsNext (λ v. has_atom c.args.held.now (atom_at list v)) c.args.from
    (Some c.in-Some-next_below.place))
    c.self.view_is
    (subst (λ o. IsNext (λ v. has_atom c.args.held.now (atom_by o v)) c.args.from
    (Some c.in-Some-next_below.place))
    (sym c.in-Some.is) c.in-Some-next_below.ensures.next)
