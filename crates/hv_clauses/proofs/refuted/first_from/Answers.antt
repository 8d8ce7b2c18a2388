use Rattle.std.proofs.Common.{arith}
use Rattle.hv_clauses.proofs.AffectedChoices.{none_between}
use Rattle.hv_clauses.proofs.refuted.first_from.Goals as goal

pub returns-clause-before : goal.returns-clause-before
returns-clause-before c =
    none_between c.args.places.now c.args.from c.place_from-at.result _ c.requires.rises
    c.place_from-at.ensures (λ within. omega arith)

pub returns-then-at-places-clause-before : goal.returns-then-at-places-clause-before
returns-then-at-places-clause-before c =
    none_between c.args.places.now c.args.from c.place_from-at.result _ c.requires.rises
    c.place_from-at.ensures (λ within. omega arith)
