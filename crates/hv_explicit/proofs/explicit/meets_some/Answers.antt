use Rattle.std.proofs.Common.{◌≡◌, false, sym, ◌∙◌, ap, arith, get_or, inl, inr, length, subst, Some}
use Rattle.std.proofs.lemmas.Bool.{cases_lt}
use Rattle.std.proofs.lemmas.Option.{get_or_from_slice_get, slice_get_within}
use Rattle.hv_task.specs.State.{AreBelow, state_of}
use Rattle.hv_sets.specs.Cubes.{SpeakBelow}
use Rattle.hv_sets.specs.Truth.{in_cube}
use Rattle.hv_explicit.proofs.Listing.{found_meets, none_meets}
use Rattle.hv_explicit.proofs.explicit.meets_some.Goals as goal

pub hold-requires : goal.hold-requires
hold-requires c =
    let held = c.slice.result.now in
    let at = (c.get.ensures.state ∙ ap Some (sym c.slice.ensures.atoms)) in
    subst (λ n. AreBelow n held) (sym c.loop-place.invariant.size)
    (subst (AreBelow (length c.args.state.now))
    (get_or_from_slice_get c.args.states.now c.loop-place.place held held at)
    (c.requires.states c.loop-place.place held
    (slice_get_within c.args.states.now c.loop-place.place held at)))

pub has-requires : goal.has-requires
has-requires c =
    subst (λ n. SpeakBelow n c.args.cube.now)
    (sym (c.hold.ensures.atoms ∙ c.loop-place.invariant.size)) c.requires.cube

pub loop-place-preserved : goal.loop-place-preserved
loop-place-preserved c =
    let n = length c.args.state.now in
    let states = c.args.states.now in
    let place = c.loop-place.place in
    let held = c.slice.result.now in
    let at = (c.get.ensures.state ∙ ap Some (sym c.slice.ensures.atoms)) in
    record {
      size = c.hold.ensures.atoms ∙ c.loop-place.invariant.size;
      none = λ k d less. elim (cases_lt k place) [
        | inl old ↦ c.loop-place.invariant.none k d old
        | inr past ↦
            let here : place ≡ k = omega arith in
            subst (λ j. in_cube c.args.cube.now (state_of n (get_or states j d)) ≡ false) here
            (ap (λ s. in_cube c.args.cube.now s)
            (sym (c.hold.ensures.held ∙ (ap (λ m. state_of m held) c.loop-place.invariant.size
            ∙ ap (state_of n) (sym (get_or_from_slice_get states place held d at)))))
            ∙ (sym c.has.ensures ∙ c.if-has.false))
      ];
    }

pub returns-then-has-clause-length : goal.returns-then-has-clause-length
returns-then-has-clause-length c = c.hold.ensures.atoms ∙ c.loop-place.invariant.size

pub returns-then-has-clause-meets : goal.returns-then-has-clause-meets
returns-then-has-clause-meets c =
    let held = c.slice.result.now in
    let at = (c.get.ensures.state ∙ ap Some (sym c.slice.ensures.atoms)) in
    found_meets (length c.args.state.now) c.args.states.now c.args.cube.now c.loop-place.place held
    c.hold.new.self (slice_get_within c.args.states.now c.loop-place.place held at)
    (sym (get_or_from_slice_get c.args.states.now c.loop-place.place held held at))
    (c.hold.ensures.held ∙ ap (λ n. state_of n held) c.loop-place.invariant.size)
    (sym c.has.ensures ∙ c.if-has.true)

pub returns-clause-meets : goal.returns-clause-meets
returns-clause-meets c =
    let last = c.loop-place-test.false in
    none_meets (length c.args.state.now) c.args.states.now c.args.cube.now c.loop-place.state
    (λ k d within. c.loop-place.invariant.none k d (omega arith))
