use Rattle.std.proofs.Common.{◌∙◌, Some, ap, sym}
use Rattle.hv_formula.specs.Clausal.{FormulaState}
use Rattle.hv_explicit.specs.ListedStates.{ListedStates}
use Rattle.hv_lines.proofs.Laws.{expr_below}
use Rattle.hv_lines.specs.declared.line.Expr.TheVariants as E
use Rattle.hv_basic.specs.Cases.{lines_in}
use Rattle.hv_basic.proofs.Mixing.{dual_found, found_is, found_within, horn_found, listed_found}
use Rattle.hv_basic.proofs.Mixing.{two_found}
use Rattle.hv_basic.proofs.any_formula.formula_of.Goals as goal

pub expr-requires : goal.expr-requires
expr-requires c =
    expr_below (lines_in c.args.case.now) c.args.set c.requires.1.0
    c.expr_count-count.ensures.table c.requires.1.1

pub number_of-requires : goal.number_of-requires
number_of-requires c =
    let found = (horn_found c.args.case.now.task.now (lines_in c.args.case.now)
    c.args.case.now.store.now c.args.case.now.stored c.expr_count-count.ensures.table c.args.set _
    (c.expr.ensures.says ∙ ap Some c.in-Horn.is)) in (found.number, found.named)

pub get-requires : goal.get-requires
get-requires c =
    found_within _ _ c.args.set _ (horn_found c.args.case.now.task.now (lines_in c.args.case.now)
    c.args.case.now.store.now c.args.case.now.stored c.expr_count-count.ensures.table c.args.set _
    (c.expr.ensures.says ∙ ap Some c.in-Horn.is))
    _ c.horns.ensures c.number_of.result c.number_of.ensures

pub returns-in-Horn-clause-is : goal.returns-in-Horn-clause-is
returns-in-Horn-clause-is c =
    (c.expr.ensures.says ∙ ap Some c.in-Horn.is) ∙ ap (λ (f : FormulaState). Some (E.Horn
    f.clauses))
    (sym (found_is _ _ c.args.set _ (horn_found c.args.case.now.task.now (lines_in c.args.case.now)
    c.args.case.now.store.now c.args.case.now.stored c.expr_count-count.ensures.table c.args.set _
    (c.expr.ensures.says ∙ ap Some c.in-Horn.is))
    _ c.horns.ensures c.number_of.result c.number_of.ensures c.get.result.now
    c.get.ensures))

pub returns-in-Horn-clause-over : goal.returns-in-Horn-clause-over
returns-in-Horn-clause-over c =
    ap (λ (f : FormulaState). f.atoms) (found_is _ _ c.args.set _ (horn_found
    c.args.case.now.task.now
    (lines_in c.args.case.now)
    c.args.case.now.store.now c.args.case.now.stored c.expr_count-count.ensures.table c.args.set _
    (c.expr.ensures.says ∙ ap Some c.in-Horn.is))
    _ c.horns.ensures c.number_of.result c.number_of.ensures c.get.result.now
    c.get.ensures)

pub number_of-requires-in-Dual : goal.number_of-requires-in-Dual
number_of-requires-in-Dual c =
    let found = (dual_found c.args.case.now.task.now (lines_in c.args.case.now)
    c.args.case.now.store.now c.args.case.now.stored c.expr_count-count.ensures.table c.args.set _
    (c.expr.ensures.says ∙ ap Some c.in-Dual.is)) in (found.number, found.named)

pub get-requires-in-Dual : goal.get-requires-in-Dual
get-requires-in-Dual c =
    found_within _ _ c.args.set _ (dual_found c.args.case.now.task.now (lines_in c.args.case.now)
    c.args.case.now.store.now c.args.case.now.stored c.expr_count-count.ensures.table c.args.set _
    (c.expr.ensures.says ∙ ap Some c.in-Dual.is))
    _ c.duals.ensures c.number_of-in-Dual.result c.number_of-in-Dual.ensures

pub returns-in-Dual-clause-is : goal.returns-in-Dual-clause-is
returns-in-Dual-clause-is c =
    (c.expr.ensures.says ∙ ap Some c.in-Dual.is) ∙ ap (λ (f : FormulaState). Some (E.Dual
    f.clauses))
    (sym (found_is _ _ c.args.set _ (dual_found c.args.case.now.task.now (lines_in c.args.case.now)
    c.args.case.now.store.now c.args.case.now.stored c.expr_count-count.ensures.table c.args.set _
    (c.expr.ensures.says ∙ ap Some c.in-Dual.is))
    _ c.duals.ensures c.number_of-in-Dual.result c.number_of-in-Dual.ensures
    c.get-in-Dual.result.now c.get-in-Dual.ensures))

pub returns-in-Dual-clause-over : goal.returns-in-Dual-clause-over
returns-in-Dual-clause-over c =
    ap (λ (f : FormulaState). f.atoms) (found_is _ _ c.args.set _ (dual_found
    c.args.case.now.task.now
    (lines_in c.args.case.now)
    c.args.case.now.store.now c.args.case.now.stored c.expr_count-count.ensures.table c.args.set _
    (c.expr.ensures.says ∙ ap Some c.in-Dual.is))
    _ c.duals.ensures c.number_of-in-Dual.result c.number_of-in-Dual.ensures
    c.get-in-Dual.result.now c.get-in-Dual.ensures)

pub number_of-requires-in-Two : goal.number_of-requires-in-Two
number_of-requires-in-Two c =
    let found = (two_found c.args.case.now.task.now (lines_in c.args.case.now)
    c.args.case.now.store.now c.args.case.now.stored c.expr_count-count.ensures.table c.args.set _
    (c.expr.ensures.says ∙ ap Some c.in-Two.is)) in (found.number, found.named)

pub get-requires-in-Two : goal.get-requires-in-Two
get-requires-in-Two c =
    found_within _ _ c.args.set _ (two_found c.args.case.now.task.now (lines_in c.args.case.now)
    c.args.case.now.store.now c.args.case.now.stored c.expr_count-count.ensures.table c.args.set _
    (c.expr.ensures.says ∙ ap Some c.in-Two.is))
    _ c.twos.ensures c.number_of-in-Two.result c.number_of-in-Two.ensures

pub returns-in-Two-clause-is : goal.returns-in-Two-clause-is
returns-in-Two-clause-is c =
    (c.expr.ensures.says ∙ ap Some c.in-Two.is) ∙ ap (λ (f : FormulaState). Some (E.Two f.clauses))
    (sym (found_is _ _ c.args.set _ (two_found c.args.case.now.task.now (lines_in c.args.case.now)
    c.args.case.now.store.now c.args.case.now.stored c.expr_count-count.ensures.table c.args.set _
    (c.expr.ensures.says ∙ ap Some c.in-Two.is))
    _ c.twos.ensures c.number_of-in-Two.result c.number_of-in-Two.ensures c.get-in-Two.result.now
    c.get-in-Two.ensures))

pub returns-in-Two-clause-over : goal.returns-in-Two-clause-over
returns-in-Two-clause-over c =
    ap (λ (f : FormulaState). f.atoms) (found_is _ _ c.args.set _ (two_found
    c.args.case.now.task.now
    (lines_in c.args.case.now)
    c.args.case.now.store.now c.args.case.now.stored c.expr_count-count.ensures.table c.args.set _
    (c.expr.ensures.says ∙ ap Some c.in-Two.is))
    _ c.twos.ensures c.number_of-in-Two.result c.number_of-in-Two.ensures c.get-in-Two.result.now
    c.get-in-Two.ensures)

pub number_of-requires-in-States : goal.number_of-requires-in-States
number_of-requires-in-States c =
    let found = (listed_found c.args.case.now.task.now (lines_in c.args.case.now)
    c.args.case.now.store.now c.args.case.now.stored c.expr_count-count.ensures.table c.args.set _
    (c.expr.ensures.says ∙ ap Some c.in-States.is)) in (found.number, found.named)

pub get-requires-in-States : goal.get-requires-in-States
get-requires-in-States c =
    found_within _ _ c.args.set _ (listed_found c.args.case.now.task.now (lines_in c.args.case.now)
    c.args.case.now.store.now c.args.case.now.stored c.expr_count-count.ensures.table c.args.set _
    (c.expr.ensures.says ∙ ap Some c.in-States.is))
    _ c.listed.ensures c.number_of-in-States.result c.number_of-in-States.ensures

pub returns-in-States-clause-is : goal.returns-in-States-clause-is
returns-in-States-clause-is c =
    (c.expr.ensures.says ∙ ap Some c.in-States.is) ∙ ap (λ (f : ListedStates). Some (E.States
    f.states))
    (sym (found_is _ _ c.args.set _ (listed_found c.args.case.now.task.now (lines_in
    c.args.case.now)
    c.args.case.now.store.now c.args.case.now.stored c.expr_count-count.ensures.table c.args.set _
    (c.expr.ensures.says ∙ ap Some c.in-States.is))
    _ c.listed.ensures c.number_of-in-States.result c.number_of-in-States.ensures
    c.get-in-States.result.now
    c.get-in-States.ensures))

pub returns-in-States-clause-over : goal.returns-in-States-clause-over
returns-in-States-clause-over c =
    ap (λ (f : ListedStates). f.atoms) (found_is _ _ c.args.set _ (listed_found
    c.args.case.now.task.now
    (lines_in c.args.case.now)
    c.args.case.now.store.now c.args.case.now.stored c.expr_count-count.ensures.table c.args.set _
    (c.expr.ensures.says ∙ ap Some c.in-States.is))
    _ c.listed.ensures c.number_of-in-States.result c.number_of-in-States.ensures
    c.get-in-States.result.now
    c.get-in-States.ensures)
