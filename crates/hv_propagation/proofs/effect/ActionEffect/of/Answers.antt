use Rattle.std.proofs.Common.{◌∙◌, replicate, false, refl}
use Rattle.hv_propagation.specs.Working.Effect.{overwrite}
use Rattle.hv_propagation.proofs.Changes.{length-effect}
use Rattle.hv_propagation.proofs.Effects.{effect_of_none, effect_of_some}
use Rattle.hv_propagation.proofs.Trailed.{known-replicate}
use Rattle.hv_propagation.proofs.effect.ActionEffect.of.Goals as goal

pub returns-in-None-clause-effect : goal.returns-in-None-clause-effect
returns-in-None-clause-effect c =
    effect_of_none c.args.task.now c.args.action (replicate c.atoms-atoms.result 0) c.in-None.is
    (λ p. known-replicate c.atoms-atoms.result p)

pub returns-in-Some-clause-effect : goal.returns-in-Some-clause-effect
returns-in-Some-clause-effect c =
    effect_of_some c.args.task.now c.args.action c.in-Some.number c.action-action.result.now
    c.as_slice-in-Some.result.now c.as_slice.result.now
    (replicate c.atoms-atoms.result 0) (overwrite false c.as_slice-in-Some.result.now
    (replicate c.atoms-atoms.result 0)) _ c.in-Some.is
    c.action-action.ensures.named (λ p. known-replicate c.atoms-atoms.result p)
    c.as_slice-in-Some.ensures.items refl c.as_slice.ensures.items refl

pub returns-in-Some-clause-size : goal.returns-in-Some-clause-size
returns-in-Some-clause-size c =
    length-effect c.atoms-atoms.result c.as_slice.result.now c.as_slice-in-Some.result.now
    ∙ c.atoms-atoms.ensures.atoms
