use Rattle.std.proofs.Common.{length, get_or}
use Rattle.std.proofs.lemmas.List.Elements.{Contains-get_or}
use Rattle.hv_formula.proofs.Rest.{true_from}
use Rattle.hv_formula.proofs.rest_ask.tell_of.Goals as goal

pub move_all-requires : goal.move_all-requires
move_all-requires g c =
    let clauses = c.args.set.now.clauses in
    let row = (c.standing-standing.ensures.standing clauses c.occurs.ensures).row in
    let places = c.standing-standing.result.places.now in
    record {
      arranged = (
        length clauses,
        c.requires,
        λ k less. ((row.has (get_or places k 0)).0 (Contains-get_or places k 0 less)).among,
      );
    }

pub returns-clause-arranged : goal.returns-clause-arranged
returns-clause-arranged g c =
    let clauses = c.args.set.now.clauses in
    let row = (c.standing-standing.ensures.standing clauses c.occurs.ensures).row in
    let places = c.standing-standing.result.places.now in
    c.move_all.ensures.arranged (length clauses) c.requires
    (λ k less. ((row.has (get_or places k 0)).0 (Contains-get_or places k 0 less)).among)

pub returns-clause-more : goal.returns-clause-more
returns-clause-more g c =
    let clauses = c.args.set.now.clauses in
    let standing = c.standing-standing.result in
    let row = (c.standing-standing.ensures.standing clauses c.occurs.ensures).row in
    true_from clauses c.args.literal standing.literal standing.places.now
    c.move_all.new.self.order.items c.args.arranged.now.done c.move_all.new.self.done
    c.standing-standing.ensures.literal row c.move_all.ensures.more
