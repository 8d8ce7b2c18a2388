use Rattle.std.proofs.Common.{◌≡◌, ◌∙◌, ap, sym, subst}
use Rattle.hv_bdd.specs.Nodes.{NodeList}
use Rattle.hv_bdd.specs.Order.{place, place_by}
use Rattle.hv_bdd.proofs.diagrams.Diagrams.place.Goals as goal

pub returns-in-None : goal.returns-in-None
unfolding place
returns-in-None c = subst (λ (list : NodeList). c.args.atom ≡ place list c.args.atom) c.self.view_is
    (sym (ap (λ o. place_by o c.args.atom) c.in-None.is))

pub returns-in-Some : goal.returns-in-Some
unfolding place
returns-in-Some c = subst (λ (list : NodeList). c.place.result ≡ place list c.args.atom)
    c.self.view_is
    (c.place.ensures ∙ sym (ap (λ o. place_by o c.args.atom) c.in-Some.is))
