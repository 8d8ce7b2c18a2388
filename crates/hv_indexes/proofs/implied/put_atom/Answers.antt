use Rattle.std.proofs.Common.{subst}
use Rattle.std.specs.List.{Contains}
use Rattle.hv_sets.specs.declared.literal.Literal.{Literal}
use Rattle.hv_indexes.specs.Rows.{IsRow}
use Rattle.hv_indexes.specs.Working.Implied.{PutsImplied}
use Rattle.hv_indexes.specs.Signed.{StandsAs}
use Rattle.hv_indexes.proofs.ImpliedRows.{standing_as}
use Rattle.hv_indexes.proofs.implied.put_atom.Goals as goal

pub put_standing-requires-clause-standing : goal.put_standing-requires-clause-standing
put_standing-requires-clause-standing c =
    c.standing-standing.ensures.standing c.args.clauses.now c.requires.index

pub returns : goal.returns
returns c =
    let clauses = c.args.clauses.now in
    let standing = c.standing-standing.result in
    let places = standing.places.now in
    let is = c.standing-standing.ensures.literal in
    let own : Literal = record { atom = c.args.atom; positive = c.args.sign } in
    let row = subst (λ (l : Literal). IsRow (StandsAs l.positive clauses) l.atom places) is
    (c.standing-standing.ensures.standing clauses c.requires.index).row in
    standing_as c.args.turned clauses own places c.args.codes.now.items
    c.put_standing.new.codes.items
    (StandsAs c.args.sign clauses c.args.atom) (λ p stands. (row.has p).1 stands)
    (subst (λ (l : Literal). PutsImplied c.args.turned clauses (Contains places) l
    c.args.codes.now.items c.put_standing.new.codes.items) is c.in_ok-put_standing.ensures)
