use Rattle.std.proofs.Common.{ℕ, subst}
use Rattle.hv_indexes.specs.Implied.{ImpliesNumber}
use Rattle.hv_indexes.specs.Rows.{IsRow}
use Rattle.hv_indexes.proofs.Implying.{implied_is}
use Rattle.hv_indexes.proofs.implication_lists.ImplicationLists.row.Goals as goal

pub returns : goal.returns
returns c = λ clauses rows.
    implied_is clauses c.args.literal c.numbers_at.result.now
    (subst (λ (key : ℕ). IsRow (ImpliesNumber clauses) key c.numbers_at.result.now)
    c.number_of.ensures (c.numbers_at.ensures clauses rows))
