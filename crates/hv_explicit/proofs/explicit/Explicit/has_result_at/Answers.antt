use Rattle.std.proofs.Common.{◌≡◌, ◌∙◌, Some, [], ap, arith, subst, sym, true}
use Rattle.std.proofs.lemmas.Option.{get_or_from_slice_get}
use Rattle.hv_task.specs.Atoms.{is_after}
use Rattle.hv_sets.specs.Truth.{in_states}
use Rattle.hv_explicit.specs.Working.Codes.{IsSame}
use Rattle.hv_explicit.proofs.LookUp.{listed_decides}
use Rattle.hv_explicit.proofs.explicit.Explicit.has_result_at.Goals as goal

pub returns : goal.returns
returns c = λ yes state size agree.
    let set = is_after c.args.action.now c.args.held.now in
    let states = c.states-states.result.now in
    let n = c.args.self.now.atoms in
    subst (λ xs. in_states n xs state ≡ true) c.states-states.ensures.states
    ((listed_decides n set state size c.requires.below agree states c.states-states.ensures.below).1 (
      c.args.place,
      omega (arith, c.if-place-len.false),
      subst (IsSame set)
          (sym (get_or_from_slice_get states c.args.place c.slice.result.now []
          (c.get.ensures.state ∙ ap Some (sym c.slice.ensures.atoms))))
          (c.is_found_result.ensures yes),
    ))
