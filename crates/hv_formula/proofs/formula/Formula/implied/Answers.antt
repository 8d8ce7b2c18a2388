use Rattle.std.proofs.Common.{ap, subst}
use Rattle.hv_indexes.specs.Implied.{AreImplied}
use Rattle.hv_formula.specs.Clausal.{FormulaState}
use Rattle.hv_formula.specs.Working.Lists.{AreListsOf}
use Rattle.hv_formula.proofs.formula.Formula.implied.Goals as goal

pub row-requires-clause-lists : goal.row-requires-clause-lists
row-requires-clause-lists g c =
    let s = c.self.inside in (
      s.clauses,
      subst (λ how. AreListsOf how s.clauses s.lists) c.requires.listed c.self.invariant.3,
    )

pub returns : goal.returns
returns g c =
    let s = c.self.inside in
    subst (λ clauses. AreImplied clauses c.args.literal c.row.result.now)
    (ap (λ (f : FormulaState). f.clauses) c.self.view_is)
    (c.row.ensures s.clauses
    (subst (λ how. AreListsOf how s.clauses s.lists) c.requires.listed c.self.invariant.3))
