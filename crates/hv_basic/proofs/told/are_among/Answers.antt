use Rattle.std.proofs.Common.{arith, below_more, get_or, subst, sym}
use Rattle.std.proofs.lemmas.List.{get_or_default}
use Rattle.hv_sets.specs.declared.literal.Literal.{Literal}
use Rattle.hv_basic.specs.Sharing.{NamesLiteral}
use Rattle.hv_basic.proofs.told.are_among.Goals as goal

pub loop-literal-preserved : goal.loop-literal-preserved
loop-literal-preserved c = λ k d.
    below_more (λ j. NamesLiteral c.args.enough.now (get_or c.args.clause.now j d))
    c.loop-literal.literal-index (λ j. c.loop-literal.invariant j d)
    (subst (λ (l : Literal). NamesLiteral c.args.enough.now l)
    (get_or_default c.args.clause.now c.loop-literal.literal-index _ d
    c.loop-literal-test.true) (sym c.if-not-contains.ensures)) k

pub returns : goal.returns
returns c = λ _ literal has.
    subst (λ (l : Literal). NamesLiteral c.args.enough.now l) has.2
    (c.loop-literal.invariant has.0 literal (omega (arith, has.1)))
