use Rattle.std.proofs.Common.{get_or}
use Rattle.hv_indexes.specs.Places.{clause_at}
use Rattle.hv_indexes.proofs.Standings.{pair_at}
use Rattle.hv_propagation.specs.Trail.{marks_of}
use Rattle.hv_propagation.proofs.PartnerEntries.{pair_settled}
use Rattle.hv_propagation.proofs.chase.is_true_beside.Goals as goal

pub returns-in-Some : goal.returns-in-Some
returns-in-Some c = λ is clauses are less.
    let standing = c.args.standing.now in
    let index = c.args.index in
    let pair = pair_at clauses standing are index less c.in-Some.other c.in-Some.ensures.0
    c.in-Some.ensures.1 in
    pair_settled c.args.effect.now (marks_of c.args.marks.now) standing.literal c.in-Some.other
    (clause_at clauses (get_or standing.places.now index 0)) pair
    (c.is_found_true.ensures is)
