use Rattle.std.proofs.Common.{◌∙◌, false, IsTrue, refl, sym, ap}
use Rattle.hv_propagation.specs.Marks.{known}
use Rattle.hv_propagation.proofs.Changes.{added, deleted, left_alone}
use Rattle.hv_propagation.proofs.effect.ActionEffect.read.Goals as goal

pub returns-then-is_among : goal.returns-then-is_among
returns-then-is_among c =
    let s = c.self.inside in
    sym (added s.atoms s.add.now s.del.now c.self.invariant.2 c.args.atom
    (c.if-is_among.ensures.0 refl))
    ∙ ap (λ m. known m c.args.atom) c.self.view_is

pub returns-then-is_among-2 : goal.returns-then-is_among-2
returns-then-is_among-2 c =
    let s = c.self.inside in
    sym (deleted s.atoms s.add.now s.del.now c.self.invariant.3 c.args.atom
    (λ has. no (c.if-is_among.ensures.1 has)) (c.if-is_among-2.ensures.0 refl))
    ∙ ap (λ m. known m c.args.atom) c.self.view_is
  where
    no : {P : Type 0} → IsTrue false → P
    no e = absurd cc

pub returns : goal.returns
returns c =
    let s = c.self.inside in
    sym (left_alone s.atoms s.add.now s.del.now c.args.atom
    (λ has. no (c.if-is_among.ensures.1 has)) (λ has. no (c.if-is_among-2.ensures.1 has)))
    ∙ ap (λ m. known m c.args.atom) c.self.view_is
  where
    no : {P : Type 0} → IsTrue false → P
    no e = absurd cc
