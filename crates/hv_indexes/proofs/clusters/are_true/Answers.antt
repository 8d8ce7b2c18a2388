use Rattle.std.proofs.Common.{◌≡◌, ◌∙◌, [], ap, arith, below_more, get_or, length, subst, sym, true}
use Rattle.std.proofs.lemmas.List.{get_or_default}
use Rattle.std.proofs.lemmas.Option.{get_or_from_slice_get}
use Rattle.hv_sets.specs.Cubes.{SpeakBelow}
use Rattle.hv_sets.specs.Truth.{in_clause}
use Rattle.hv_indexes.specs.Places.{clause_at}
use Rattle.hv_indexes.proofs.clusters.are_true.Goals as goal

pub is_true_in-requires : goal.is_true_in-requires
is_true_in-requires c =
    let place = get_or c.args.places.now c.loop-at.at 0 in
    subst (SpeakBelow (length c.args.state.now))
    (get_or_from_slice_get c.args.clauses.now place c.get.result.now [] c.get.ensures)
    (c.requires.clauses place [] (c.requires.places c.loop-at.at c.loop-at-test.true))

pub returns-then-not-is_true_in : goal.returns-then-not-is_true_in
returns-then-not-is_true_in c =
    let place = get_or c.args.places.now c.loop-at.at 0 in
    let here = get_or_from_slice_get c.args.clauses.now place c.get.result.now [] c.get.ensures in (
      place,
      c.requires.places c.loop-at.at c.loop-at-test.true,
      ap (λ ls. in_clause ls c.args.state.now) here ∙ sym c.if-not-is_true_in.ensures,
    )

pub loop-at-preserved : goal.loop-at-preserved
loop-at-preserved c =
    let clauses = c.args.clauses.now in
    let places = c.args.places.now in
    let state = c.args.state.now in
    let place = get_or places c.loop-at.at 0 in
    let here = get_or_from_slice_get clauses place c.get.result.now [] c.get.ensures in
    below_more (λ k. in_clause (clause_at clauses (get_or places k 0)) state ≡ true) c.loop-at.at
    c.loop-at.invariant (ap (λ ls. in_clause ls state) here ∙ sym c.if-not-is_true_in.ensures)

pub returns : goal.returns
returns c = λ number has.
    let within = has.1 in
    subst (λ n. in_clause (clause_at c.args.clauses.now n) c.args.state.now ≡ true)
    (get_or_default c.args.places.now has.0 0 number has.1 ∙ has.2)
    (c.loop-at.invariant has.0 (omega (arith, c.loop-at-test.false, within)))
