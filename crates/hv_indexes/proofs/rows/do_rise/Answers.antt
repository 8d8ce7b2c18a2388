use Rattle.std.proofs.Common.{◌≡◌, ◌+◌, ◌-◌, ◌<◌, arith, false, inl, inr, subst, true}
use Rattle.std.proofs.lemmas.Bool.{cases_lt}
use Rattle.std.specs.Prelude.{slice_index}
use Rattle.hv_indexes.proofs.rows.do_rise.Goals as goal

pub returns-then-codes-place : goal.returns-then-codes-place
returns-then-codes-place c = λ is. absurd (let f : false ≡ true = is in cc)

pub loop-place-preserved : goal.loop-place-preserved
loop-place-preserved c = λ k less.
    let codes = c.args.codes.now in
    let place = c.loop-place.place in
    elim (cases_lt (k + 1) place) [
      | inl early ↦ c.loop-place.invariant k early
      | inr late ↦
          let at : place ≡ k + 1 = omega (arith, less, late) in
          let back : place - 1 ≡ k = omega (arith, at) in
          subst (λ j. slice_index codes j < slice_index codes (k + 1)) back
          (subst (λ j. slice_index codes (place - 1) < slice_index codes j) at
          c.if-codes-place.false)
    ]

pub returns : goal.returns
returns c = λ _ k less. c.loop-place.invariant k (omega (arith, less, c.loop-place-test.false))
