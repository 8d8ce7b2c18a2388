use Rattle.std.proofs.Common.{◌∙◌, Bool, Some, ap}
use Rattle.hv_propagation.specs.Marks.{known}
use Rattle.hv_propagation.proofs.Changes.{added_from, deleted_from}
use Rattle.hv_propagation.proofs.effect.ActionEffect.turned.Goals as goal

pub returns-then-value : goal.returns-then-value
returns-then-value c = λ p e.
    let s = c.self.inside in
    added_from s.atoms s.add.now s.del.now c.self.invariant.3 p
    (ap (λ m. known m p) c.self.view_is ∙ (e ∙ ap (λ (b : Bool). Some b) c.if-value.true))

pub returns-else-value : goal.returns-else-value
returns-else-value c = λ p e.
    let s = c.self.inside in
    deleted_from s.atoms s.add.now s.del.now c.self.invariant.2 p
    (ap (λ m. known m p) c.self.view_is ∙ (e ∙ ap (λ (b : Bool). Some b) c.if-value.false))
