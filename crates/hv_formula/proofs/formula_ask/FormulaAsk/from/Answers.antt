use Rattle.std.proofs.Common.{◌∙◌, [], false, sym, ap, subst}
use Rattle.hv_formula.specs.Working.Asking.{IsAskedAlong}
use Rattle.hv_propagation.specs.Trail.{Knowledge, marked}
use Rattle.hv_formula.proofs.Asking.{asked_first}
use Rattle.hv_formula.proofs.formula_ask.FormulaAsk.from.Goals as goal

pub returns-clause-stands : goal.returns-clause-stands
returns-clause-stands g c =
    let f = c.args.set.now in
    let k = c.in_ok-marks.marks in
    subst (λ ss. IsAskedAlong f k 0 ss c.new-literals.result.items c.new-counts.result.items
    c.args.broken false) (sym c.new-starts.ensures.items)
    (subst (λ ls. IsAskedAlong f k 0 [] ls c.new-counts.result.items c.args.broken false)
    (sym c.new-literals.ensures.items)
    (subst (λ ps. IsAskedAlong f k 0 [] [] ps c.args.broken false)
    (sym c.new-counts.ensures.items)
    (asked_first f k c.args.roots c.args.broken
    (c.in_ok-marks.ensures ∙ ap (λ n. let m : Knowledge = record
    { roots = marked n c.args.roots; trail = [] } in m) c.atoms.ensures.atoms)
    c.requires.never c.requires.forced)))
