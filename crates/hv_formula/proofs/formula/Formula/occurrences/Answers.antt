use Rattle.std.proofs.Common.{ap, subst}
use Rattle.hv_sets.specs.declared.literal.Literal.{Literal}
use Rattle.hv_formula.specs.Clausal.{FormulaState}
use Rattle.hv_formula.specs.Negative.{StandsNegatively}
use Rattle.hv_indexes.specs.Rows.{IsRow}
use Rattle.hv_indexes.specs.Signed.{StandsAs}
use Rattle.hv_formula.proofs.NegativeRows.{negative_row}
use Rattle.hv_formula.proofs.formula.Formula.occurrences.Goals as goal

pub standing-requires : goal.standing-requires
standing-requires g c = (c.self.inside.clauses, c.self.invariant.2.index)

pub returns : goal.returns
returns g c =
    let s = c.self.inside in
    subst (λ clauses. IsRow (StandsNegatively clauses) c.args.atom c.standing.result.places.now)
    (ap (λ (f : FormulaState). f.clauses) c.self.view_is)
    (negative_row s.clauses c.args.atom c.standing.result.places.now
    (subst (λ (l : Literal). IsRow (StandsAs l.positive s.clauses) l.atom
    c.standing.result.places.now) c.standing.ensures.literal
    (c.standing.ensures.standing s.clauses c.self.invariant.2.index).row))
