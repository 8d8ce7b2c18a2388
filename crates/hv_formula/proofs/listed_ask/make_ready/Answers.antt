use Rattle.std.proofs.Common.{subst, sym}
use Rattle.hv_indexes.specs.Mates.{AreMates}
use Rattle.hv_indexes.specs.Occurrences.{IsIndexOf}
use Rattle.hv_formula.proofs.listed_ask.make_ready.Goals as goal

pub returns-then-ready : goal.returns-then-ready
returns-then-ready g c = c.requires c.if-ready.true

pub of-requires : goal.of-requires
of-requires g c =
    subst (λ cs. IsIndexOf cs c.occurs.result.now) (sym c.clauses.ensures.clauses) c.occurs.ensures

pub returns : goal.returns
returns g c =
    subst (λ cs. AreMates cs c.in_ok-mates.field-0) c.clauses.ensures.clauses c.in_ok-mates.ensures
