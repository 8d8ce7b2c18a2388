use Rattle.std.proofs.Common.{◌≡◌, ◌∙◌, ap, sym, subst}
use Rattle.hv_bdd.specs.Nodes.{NodeList}
use Rattle.hv_bdd.specs.Order.{atom_at, atom_by}
use Rattle.hv_bdd.proofs.diagrams.Diagrams.atom_at.Goals as goal

pub returns-in-None : goal.returns-in-None
unfolding atom_at
returns-in-None c = subst (λ (list : NodeList). c.args.place ≡ atom_at list c.args.place)
    c.self.view_is
    (sym (ap (λ o. atom_by o c.args.place) c.in-None.is))

pub returns-in-Some : goal.returns-in-Some
unfolding atom_at
returns-in-Some c = subst (λ (list : NodeList). c.atom_at.result ≡ atom_at list c.args.place)
    c.self.view_is
    (c.atom_at.ensures ∙ sym (ap (λ o. atom_by o c.args.place) c.in-Some.is))
