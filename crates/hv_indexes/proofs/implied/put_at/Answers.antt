use Rattle.std.proofs.Common.{◌<◌, [], get_or, subst, sym}
use Rattle.std.proofs.lemmas.List.Elements.{All-contains}
use Rattle.std.proofs.lemmas.Option.{get_or_from_slice_get}
use Rattle.hv_sets.specs.declared.literal.Literal.{Literal}
use Rattle.hv_sets.specs.Cubes.{SpeakBelow}
use Rattle.hv_indexes.specs.Places.{clause_at}
use Rattle.hv_indexes.specs.Working.Implied.{IsImpliedCode}
use Rattle.hv_indexes.specs.Working.Rows.{PutsCodes}
use Rattle.hv_indexes.proofs.ImpliedRows.{puts_clause, puts_pair}
use Rattle.hv_indexes.proofs.Standings.{inside_at, pair_at}
use Rattle.hv_indexes.proofs.implied.put_at.Goals as goal

pub put_either-requires-clause-first : goal.put_either-requires-clause-first
put_either-requires-clause-first c =
    let clauses = c.args.clauses.now in
    let standing = c.args.standing.now in
    let index = c.args.index in
    let place = get_or standing.places.now index 0 in
    let pair = pair_at clauses standing c.requires.standing index c.requires.index c.in-Some.other
    c.in-Some.ensures.0 c.in-Some.ensures.1 in
    All-contains (λ (l : Literal). l.atom < 2147483648) (clause_at clauses place) c.in-Some.other
    (c.requires.below place [] (inside_at clauses standing c.requires.standing index
    c.requires.index)) pair.has_second

pub put_either-requires-clause-second : goal.put_either-requires-clause-second
put_either-requires-clause-second c =
    let clauses = c.args.clauses.now in
    let standing = c.args.standing.now in
    let index = c.args.index in
    let place = get_or standing.places.now index 0 in
    let pair = pair_at clauses standing c.requires.standing index c.requires.index c.in-Some.other
    c.in-Some.ensures.0 c.in-Some.ensures.1 in
    All-contains (λ (l : Literal). l.atom < 2147483648) (clause_at clauses place) standing.literal
    (c.requires.below place [] (inside_at clauses standing c.requires.standing index
    c.requires.index)) pair.has_first

pub get-requires : goal.get-requires
get-requires c = inside_at c.args.clauses.now c.args.standing.now c.requires.standing c.args.index
    c.requires.index

pub put_clause-requires : goal.put_clause-requires
put_clause-requires c =
    let clauses = c.args.clauses.now in
    let place = get_or c.args.standing.now.places.now c.args.index 0 in
    subst (λ ls. SpeakBelow 2147483648 ls)
    (get_or_from_slice_get clauses place c.get.result.now [] c.get.ensures)
    (c.requires.below place [] (inside_at clauses c.args.standing.now c.requires.standing
    c.args.index c.requires.index))

pub returns-in_ok-put_either-in-Some : goal.returns-in_ok-put_either-in-Some
returns-in_ok-put_either-in-Some c =
    let clauses = c.args.clauses.now in
    let standing = c.args.standing.now in
    let index = c.args.index in
    puts_pair c.args.turned clauses standing.literal (get_or standing.places.now index 0)
    (inside_at clauses standing c.requires.standing index c.requires.index)
    c.args.codes.now.items c.put_either.new.codes.items c.in-Some.other
    (pair_at clauses standing c.requires.standing index c.requires.index c.in-Some.other
    c.in-Some.ensures.0 c.in-Some.ensures.1) c.in_ok-put_either-in-Some.ensures

pub returns-in_ok-put_clause-in-None : goal.returns-in_ok-put_clause-in-None
returns-in_ok-put_clause-in-None c =
    let clauses = c.args.clauses.now in
    let standing = c.args.standing.now in
    let place = get_or standing.places.now c.args.index 0 in
    puts_clause c.args.turned clauses standing.literal place
    (inside_at clauses standing c.requires.standing c.args.index c.requires.index)
    c.args.codes.now.items c.put_clause.new.codes.items
    (subst (λ ls. PutsCodes (IsImpliedCode ls) c.args.codes.now.items
    c.put_clause.new.codes.items)
    (sym (get_or_from_slice_get clauses place c.get.result.now [] c.get.ensures))
    c.in_ok-put_clause-in-None.ensures)
