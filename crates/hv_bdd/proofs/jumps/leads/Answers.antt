use Rattle.std.proofs.Common.{◌≡◌, ◌<◌, ◌∙◌, arith, get_or, inl, inr, refl, subst, sym}
use Rattle.std.proofs.lemmas.Bool.{cases_lt}
use Rattle.hv_bdd.specs.Reduced.{top}
use Rattle.hv_bdd.proofs.Jumped.{ends, holds_next, none_to_end, none_to_next}
use Rattle.hv_bdd.proofs.jumps.leads.Goals as goal

pub loop-place-init : goal.loop-place-init
loop-place-init c = record {
  within = omega arith;
  past = λ k less within. absurd (omega arith);
  same = λ s holds. refl;
}

pub loop-place-preserved : goal.loop-place-preserved
loop-place-preserved c =
    let list = c.args.nodes.now in
    let places = c.args.places.now in
    let i = c.loop-place.place-index in
    let old = c.loop-place.invariant in
    let turns = c.behind-at.ensures in
    let within = c.loop-place-test.true in
    let below = c.requires.below i 0 within in
    record {
      within = let less = old.within in let upto = turns.upto in omega arith;
      past = λ k less in_k. elim (cases_lt k i) [
        | inl before ↦
            let past = old.past k before in_k in let further = turns.further in omega arith
        | inr behind ↦
            let last : i ≡ k = omega arith in
            subst (λ j. get_or places j 0 < top list c.behind-at.result) last turns.later
      ];
      same = λ s holds.
          sym (turns.same s
          (none_to_next list s places holds (top list c.loop-place.at) i old.past within
          (omega arith))
          (holds_next list s places holds i within below))
          ∙ old.same s holds;
    }

pub returns : goal.returns
returns c =
    let list = c.args.nodes.now in
    let places = c.args.places.now in
    let i = c.loop-place.place-index in
    let old = c.loop-place.invariant in
    let end = c.first_from.result in
    let passes = c.first_from.ensures.passes in
    let few = c.requires.jumps.few in
    let upto = passes.upto in
    let less = old.within in
    let node = c.requires.node in
    let atoms = c.atoms-atoms.ensures.atoms in
    let there = c.first_from.ensures.there in
    let all = c.loop-place-test.false in
    λ s holds.
    sym (ends list c.atoms-atoms.ensures.reduced end s (omega arith) (omega arith))
    ∙ (sym (passes.same s (λ v from before. none_to_end list s places holds
    (top list c.loop-place.at) i old.past (omega arith) v from (omega arith)))
    ∙ old.same s holds)
