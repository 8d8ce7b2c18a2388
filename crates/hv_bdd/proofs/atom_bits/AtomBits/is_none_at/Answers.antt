use Rattle.std.proofs.Common.{◌≡◌, ◌∙◌, Bool, List, Option, length, subst, sym}
use Rattle.hv_bdd.specs.Working.Untouched.{MarksNone}
use Rattle.hv_bdd.proofs.Alike.{no_items, none_listed}
use Rattle.hv_bdd.proofs.atom_bits.AtomBits.is_none_at.Goals as goal

pub returns : goal.returns
returns c = λ yes.
    let m = c.self.inside in
    let list = c.args.nodes.now in
    let places = c.args.places.now in
    subst (λ (ms : List (Option Bool)). MarksNone list ms places) c.self.view_is
    (none_listed list c.are_apart.ensures.reduced places m.literals.now m.atoms m.ones.now
    m.zeros.now (no_items m.literals.now (sym c.is_empty.ensures ∙ c.if-not-is_empty.false))
    (subst (λ (ms : List (Option Bool)). length ms ≡ list.atoms) (sym c.self.view_is)
    c.requires.atoms)
    (c.are_apart.ensures.apart c.if-not-are_apart.false) (c.are_apart-2.ensures.apart yes))
