use Rattle.std.proofs.Common.{subst}
use Rattle.hv_sets.specs.declared.literal.Literal.{Literal}
use Rattle.hv_indexes.specs.Rows.{IsRow}
use Rattle.hv_indexes.specs.Signed.{StandsAs}
use Rattle.hv_formula.proofs.FirstTried.{row_tried}
use Rattle.hv_formula.proofs.first_states.are_true_with.Goals as goal

pub are_true_at-requires-clause-standing : goal.are_true_at-requires-clause-standing
are_true_at-requires-clause-standing c =
    c.standing-standing.ensures.standing c.args.bare.now.clauses.now c.requires.index

pub returns : goal.returns
returns c =
    let clauses = c.args.bare.now.clauses.now in
    let places = c.standing-standing.result.places.now in
    row_tried clauses c.args.state.now c.are_true_at.result c.args.atom places
    (subst (λ (l : Literal). IsRow (StandsAs l.positive clauses) l.atom places)
    c.standing-standing.ensures.literal
    (c.standing-standing.ensures.standing clauses c.requires.index).row)
    c.are_true_at.ensures
