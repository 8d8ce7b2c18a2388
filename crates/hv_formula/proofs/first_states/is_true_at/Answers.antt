use Rattle.std.proofs.Common.{◌∙◌, [], ap, get_or, length, subst, sym}
use Rattle.std.proofs.lemmas.Option.{get_or_from_slice_get}
use Rattle.hv_sets.specs.Cubes.{SpeakBelow}
use Rattle.hv_sets.specs.Truth.{in_clause}
use Rattle.hv_indexes.proofs.Standings.{inside_at}
use Rattle.hv_formula.proofs.first_states.is_true_at.Goals as goal

pub get-requires : goal.get-requires
get-requires c = inside_at c.args.clauses.now c.args.standing.now c.requires.standing c.args.index
    c.requires.index

pub is_true_in-requires-2 : goal.is_true_in-requires-2
is_true_in-requires-2 c =
    let clauses = c.args.clauses.now in
    let place = get_or c.args.standing.now.places.now c.args.index 0 in
    let within = inside_at clauses c.args.standing.now c.requires.standing c.args.index
    c.requires.index in
    subst (λ ls. SpeakBelow (length c.args.state.now) ls)
    (get_or_from_slice_get clauses place c.get.result.now [] c.get.ensures)
    (c.requires.clauses place [] within)

pub returns : goal.returns
returns c =
    let clauses = c.args.clauses.now in
    let place = get_or c.args.standing.now.places.now c.args.index 0 in
    c.is_true_in-2.ensures
    ∙ ap (λ ls. in_clause ls c.args.state.now)
    (sym (get_or_from_slice_get clauses place c.get.result.now [] c.get.ensures))
