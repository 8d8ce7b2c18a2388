use Rattle.std.proofs.Common.{◌∙◌, ◌||◌, not, sym, ap}
use Rattle.std.proofs.lemmas.Bool.{not-false}
use Rattle.hv_formula.proofs.Asking.{asked_none}
use Rattle.hv_formula.proofs.formula_ask.FormulaAskAsker.is_open.Goals as goal

pub returns-clause-barren : goal.returns-clause-barren
returns-clause-barren g c = λ shut.
    let q = c.args.self.now in
    asked_none q.set.now q.marks q.place q.starts.items q.literals.items q.counts.items q.broken
    q.clashes c.requires (not-false (q.broken || q.clashes) (sym (ap not c.is_either.ensures) ∙ shut))
