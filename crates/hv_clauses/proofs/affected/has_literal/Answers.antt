use Rattle.std.proofs.Common.{subst}
use Rattle.std.specs.List.{Contains}
use Rattle.hv_indexes.specs.Places.{clause_at}
use Rattle.hv_clauses.proofs.affected.has_literal.Goals as goal

pub returns : goal.returns
returns c = λ is.
    let clauses = c.args.touched.now.clauses.now in
    let standing = c.standing-standing.ensures.standing clauses c.requires in
    subst (λ l. Contains (clause_at clauses c.args.place) l) c.standing-standing.ensures.literal
    ((standing.row.has c.args.place).0 (c.has_place.ensures is)).has
