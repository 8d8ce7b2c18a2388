use Rattle.std.proofs.Common.{◌≡◌, ◌∙◌, [], arith, length, get_or, sym, ap, subst, Some}
use Rattle.std.proofs.lemmas.Option.{get_or_from_slice_get}
use Rattle.hv_task.specs.State.{AreBelow, state_of}
use Rattle.hv_explicit.proofs.Walked.{last_below}
use Rattle.hv_explicit.proofs.state_walk.stand_at.Goals as goal

pub hold-requires : goal.hold-requires
hold-requires c =
    subst (λ xs. AreBelow (length c.args.state.now) xs)
    (get_or_from_slice_get c.args.states.now c.args.place c.slice-after.result.now []
    (c.get.ensures.state ∙ ap Some (sym c.slice-after.ensures.atoms)))
    (c.requires.below c.args.place [] c.requires.place)

pub change-requires-clause-before : goal.change-requires-clause-before
change-requires-clause-before c =
    subst (λ xs. AreBelow (length c.args.state.now) xs) (sym c.last_of.ensures)
    (last_below (length c.args.state.now) c.args.states.now c.args.place c.requires.below
    (let less = c.requires.place in omega arith))

pub change-requires-clause-after : goal.change-requires-clause-after
change-requires-clause-after c =
    subst (λ xs. AreBelow (length c.args.state.now) xs)
    (get_or_from_slice_get c.args.states.now c.args.place c.slice-after.result.now []
    (c.get.ensures.state ∙ ap Some (sym c.slice-after.ensures.atoms)))
    (c.requires.below c.args.place [] c.requires.place)

pub change-requires-clause-is : goal.change-requires-clause-is
change-requires-clause-is c =
    subst (λ xs. c.args.state.now ≡ state_of (length c.args.state.now) xs) (sym c.last_of.ensures)
    c.requires.is

pub returns-clause-held : goal.returns-clause-held
returns-clause-held c =
    c.change.ensures.held
    ∙ ap (state_of (length c.args.state.now))
    (sym (get_or_from_slice_get c.args.states.now c.args.place c.slice-after.result.now []
    (c.get.ensures.state ∙ ap Some (sym c.slice-after.ensures.atoms))))
