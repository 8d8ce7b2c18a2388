use Rattle.std.proofs.Common.{◌∙◌}
use Rattle.hv_indexes.proofs.Standings.{rows_of_both}
use Rattle.hv_indexes.proofs.occurrences.ListedOccurrences.of.Goals as goal

pub returns : goal.returns
returns c = λ clauses.
    rows_of_both clauses c.args.negative c.args.positive c.in_ok-partners.partners
    c.len-upto.result (c.len-upto.ensures ∙ c.args.negative.places.ok.0) c.in_ok-partners.ensures
