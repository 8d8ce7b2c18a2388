use Rattle.std.proofs.Common.{◌<◌, ◌∙◌, length, ap, refl, subst, sym}
use Rattle.hv_bdd.specs.Live.{bit_mark_of}
use Rattle.hv_bdd.proofs.Listed.{is_one, is_unmarked, is_zero, read_listed, read_signed}
use Rattle.hv_bdd.proofs.atom_bits.AtomBits.read.Goals as goal

pub returns-in-Some : goal.returns-in-Some
returns-in-Some c =
    let m = c.self.inside in
    sym (read_signed m.literals.now m.atoms c.args.atom m.ones.now m.zeros.now c.in-Some.sign
    c.self.invariant.0
    (subst (λ ms. c.args.atom < length ms) (sym c.self.view_is) c.requires) c.in-Some.ensures)
    ∙ ap (λ ms. bit_mark_of ms c.args.atom) c.self.view_is

pub returns-then-is_among : goal.returns-then-is_among
returns-then-is_among c =
    let m = c.self.inside in
    sym (read_listed m.literals.now m.atoms c.args.atom m.ones.now m.zeros.now
    (subst (λ ms. c.args.atom < length ms) (sym c.self.view_is) c.requires) c.in_default.ensures
    ∙ is_one m.ones.now m.zeros.now c.args.atom (c.if-is_among.ensures.0 refl))
    ∙ ap (λ ms. bit_mark_of ms c.args.atom) c.self.view_is

pub returns-then-is_among-2 : goal.returns-then-is_among-2
returns-then-is_among-2 c =
    let m = c.self.inside in
    sym (read_listed m.literals.now m.atoms c.args.atom m.ones.now m.zeros.now
    (subst (λ ms. c.args.atom < length ms) (sym c.self.view_is) c.requires) c.in_default.ensures
    ∙ is_zero m.ones.now m.zeros.now c.args.atom
    (λ has. let e = c.if-is_among.ensures.1 has in absurd cc) (c.if-is_among-2.ensures.0 refl))
    ∙ ap (λ ms. bit_mark_of ms c.args.atom) c.self.view_is

pub returns : goal.returns
returns c =
    let m = c.self.inside in
    sym (read_listed m.literals.now m.atoms c.args.atom m.ones.now m.zeros.now
    (subst (λ ms. c.args.atom < length ms) (sym c.self.view_is) c.requires) c.in_default.ensures
    ∙ is_unmarked m.ones.now m.zeros.now c.args.atom
    (λ has. let e = c.if-is_among.ensures.1 has in absurd cc)
    (λ has. let e = c.if-is_among-2.ensures.1 has in absurd cc))
    ∙ ap (λ ms. bit_mark_of ms c.args.atom) c.self.view_is
