use Rattle.std.proofs.Common.{◌∙◌, arith, sym}
use Rattle.std.proofs.lemmas.List.Elements.{Contains-get_or}
use Rattle.hv_indexes.proofs.implied.other_of.Goals as goal

pub returns-then-ne-clause-has : goal.returns-then-ne-clause-has
returns-then-ne-clause-has c =
    Contains-get_or c.args.clause.now c.loop-literal.literal-index _ c.loop-literal-test.true

pub returns-clause-has : goal.returns-clause-has
returns-clause-has c = c.requires

pub returns-clause-only : goal.returns-clause-only
returns-clause-only c = λ _ l has.
    let within = has.1 in
    sym has.2
    ∙ c.loop-literal.invariant has.0 l (omega (arith, c.loop-literal-test.false, within))
