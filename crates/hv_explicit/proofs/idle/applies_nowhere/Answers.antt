use Rattle.std.proofs.Common.{◌≡◌, ℕ, [], List, arith, below_more, get_or, subst, sym}
use Rattle.std.proofs.Common.{Some, ap, ◌∙◌}
use Rattle.std.proofs.lemmas.Bool.{both_ways}
use Rattle.std.proofs.lemmas.List.{get_or_default}
use Rattle.std.proofs.lemmas.Option.{get_or_from_slice_get}
use Rattle.std.specs.List.{All, Contains}
use Rattle.hv_explicit.proofs.idle.applies_nowhere.Goals as goal

pub loop-place-preserved : goal.loop-place-preserved
loop-place-preserved c =
    let states = c.args.states.now in
    let place = c.loop-place.place in
    below_more (λ k. All (λ p. Contains (get_or states k []) p) c.args.action.now.pre → ⊥) place
    c.loop-place.invariant
    (λ all. both_ways c.names_each.result c.if-names_each.false
    (c.names_each.ensures.1
    (subst (λ (xs : List ℕ). All (λ p. Contains xs p) c.as_slice.result.now)
    (get_or_from_slice_get states place c.slice-held.result.now []
    (c.get.ensures.state ∙ ap Some (sym c.slice-held.ensures.atoms)))
    (subst (λ (ys : List ℕ). All (λ p. Contains (get_or states place []) p) ys)
    (sym c.as_slice.ensures.items) all))))

pub returns-clause-none : goal.returns-clause-none
returns-clause-none c = λ yes k d within all.
    let last = c.loop-place-test.false in
    c.loop-place.invariant k (omega arith)
    (subst (λ (xs : List ℕ). All (λ p. Contains xs p) c.args.action.now.pre)
    (get_or_default c.args.states.now k d [] within) all)
