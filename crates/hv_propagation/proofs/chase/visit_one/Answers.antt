use Rattle.std.proofs.Common.{◌≡◌, ◌<◌, [], true, length, get_or, sym, subst}
use Rattle.std.proofs.lemmas.List.Elements.{All-contains}
use Rattle.std.proofs.lemmas.Option.{get_or_from_slice_get}
use Rattle.hv_sets.specs.declared.literal.Literal.{Literal}
use Rattle.hv_sets.specs.Cubes.{SpeakBelow}
use Rattle.hv_sets.specs.Truth.{in_clause}
use Rattle.hv_propagation.specs.Chase.{IsFollowed}
use Rattle.hv_indexes.specs.Places.{clause_at}
use Rattle.hv_propagation.specs.Marks.{over}
use Rattle.hv_propagation.specs.Trail.{marks_of}
use Rattle.hv_propagation.specs.Units.{IsSettled}
use Rattle.hv_propagation.proofs.PartnerEntries.{one_followed, pair_followed, pair_settled}
use Rattle.hv_indexes.proofs.Standings.{inside_at, pair_at}
use Rattle.hv_propagation.proofs.chase.visit_one.Goals as goal

pub force-requires : goal.force-requires
force-requires c =
    let clauses = c.args.clauses.now in
    let standing = c.args.standing.now in
    let index = c.args.index in
    let pair = pair_at clauses standing c.requires.standing index c.requires.index c.in-Some.other
    c.in-Some.ensures.0 c.in-Some.ensures.1 in
    All-contains (λ (l : Literal). l.atom < length c.args.marks.now.roots)
    (clause_at clauses (get_or standing.places.now index 0)) c.in-Some.other
    (c.requires.clauses (get_or standing.places.now index 0) []
    (inside_at clauses standing c.requires.standing index c.requires.index)) pair.has_second

pub get-requires : goal.get-requires
get-requires c = inside_at c.args.clauses.now c.args.standing.now c.requires.standing c.args.index
    c.requires.index

pub step-requires : goal.step-requires
step-requires c =
    let clauses = c.args.clauses.now in
    let place = get_or c.args.standing.now.places.now c.args.index 0 in
    let within = inside_at c.args.clauses.now c.args.standing.now c.requires.standing c.args.index
    c.requires.index in
    subst (λ ls. SpeakBelow (length c.args.marks.now.roots) ls)
    (get_or_from_slice_get clauses place c.get.result.now [] c.get.ensures)
    (c.requires.clauses place [] within)

pub returns-in-Some-clause-followed : goal.returns-in-Some-clause-followed
returns-in-Some-clause-followed c =
    let e = c.args.effect.now in
    let clauses = c.args.clauses.now in
    let standing = c.args.standing.now in
    let index = c.args.index in
    let place = get_or standing.places.now index 0 in
    let within = inside_at clauses standing c.requires.standing index c.requires.index in
    let pair = pair_at clauses standing c.requires.standing index c.requires.index c.in-Some.other
    c.in-Some.ensures.0 c.in-Some.ensures.1 in
    one_followed e clauses place c.args.marks.now c.force.new.marks c.force.result within
    (pair_followed e c.args.marks.now c.force.new.marks c.args.standing.now.literal c.in-Some.other
    (clause_at clauses place) c.force.result
    (c.requires.clauses place [] within) pair c.requires.out c.force.ensures.forced
    c.force.ensures.grown)

pub returns-in-Some-clause-settled : goal.returns-in-Some-clause-settled
returns-in-Some-clause-settled c = λ is.
    let clauses = c.args.clauses.now in
    let standing = c.args.standing.now in
    let index = c.args.index in
    let pair = pair_at clauses standing c.requires.standing index c.requires.index c.in-Some.other
    c.in-Some.ensures.0 c.in-Some.ensures.1 in
    pair_settled c.args.effect.now (marks_of c.force.new.marks) c.args.standing.now.literal
    c.in-Some.other
    (clause_at clauses (get_or standing.places.now index 0)) pair
    (c.force.ensures.forced.done is)

pub returns-in-None-clause-followed : goal.returns-in-None-clause-followed
returns-in-None-clause-followed c =
    let e = c.args.effect.now in
    let clauses = c.args.clauses.now in
    let place = get_or c.args.standing.now.places.now c.args.index 0 in
    let within = inside_at c.args.clauses.now c.args.standing.now c.requires.standing c.args.index
    c.requires.index in
    one_followed e clauses place c.args.marks.now c.step.new.marks c.step.result within
    (subst (λ ls. IsFollowed (λ s. in_clause ls (over e s) ≡ true) c.args.marks.now c.step.new.marks
    c.step.result)
    (sym (get_or_from_slice_get clauses place c.get.result.now [] c.get.ensures))
    c.step.ensures.followed)

pub returns-in-None-clause-settled : goal.returns-in-None-clause-settled
returns-in-None-clause-settled c = λ is.
    let clauses = c.args.clauses.now in
    let standing = c.args.standing.now in
    let index = c.args.index in
    let place = get_or standing.places.now index 0 in
    subst (λ ls. IsSettled c.args.effect.now (marks_of c.step.new.marks) ls)
    (sym (get_or_from_slice_get clauses place c.get.result.now [] c.get.ensures))
    (c.step.ensures.settled is)
