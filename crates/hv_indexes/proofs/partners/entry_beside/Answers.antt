use Rattle.std.proofs.Common.{◌≡◌, ◌∙◌, false, true, sym}
use Rattle.hv_indexes.proofs.Paired.{beside_first, beside_none, beside_second}
use Rattle.hv_indexes.proofs.partners.entry_beside.Goals as goal

pub returns-then-denotes : goal.returns-then-denotes
returns-then-denotes c = λ clause is.
    beside_first clause c.args.pair c.args.own is (c.denotes.ensures.0 c.if-denotes.true)

pub returns-then-denotes-2 : goal.returns-then-denotes-2
returns-then-denotes-2 c = λ clause is.
    beside_second clause c.args.pair c.args.own is (c.denotes-2.ensures.0 c.if-denotes-2.true)

pub returns : goal.returns
returns c = λ clause is.
    beside_none clause c.args.pair c.args.own is
    (λ same. let no : false ≡ true = sym c.if-denotes.false ∙ c.denotes.ensures.1 same in absurd cc)
    (λ same. let no : false ≡ true = sym c.if-denotes-2.false ∙ c.denotes-2.ensures.1 same in
    absurd cc)
