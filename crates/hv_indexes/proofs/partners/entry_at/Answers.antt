use Rattle.std.proofs.Common.{[], sym, subst}
use Rattle.std.proofs.lemmas.Option.{get_or_from_slice_get}
use Rattle.hv_indexes.specs.Places.{clause_at}
use Rattle.hv_indexes.specs.Occurrences.{IsPartner}
use Rattle.hv_indexes.proofs.partners.entry_at.Goals as goal

pub returns-then-place-pairs : goal.returns-then-place-pairs
returns-then-place-pairs c =
    c.entry_beside.ensures (clause_at c.args.clauses.now c.args.place)
    (c.requires.pairs c.args.place _ c.if-place-pairs.true)

pub returns : goal.returns
returns c =
    subst (λ ls. IsPartner ls c.args.own c.entry_of_partner.result)
    (sym (get_or_from_slice_get c.args.clauses.now c.args.place c.get.result.now []
    c.get.ensures)) c.entry_of_partner.ensures
