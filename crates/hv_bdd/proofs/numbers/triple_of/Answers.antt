use Rattle.std.proofs.Common.{◌∙◌, ◌∷◌, ap, decimal}
use Rattle.hv_bdd.specs.Working.NodeText.{node_of}
use Rattle.hv_bdd.proofs.Parted.{none_of_four, none_of_second, none_of_third, three_decimals}
use Rattle.hv_bdd.proofs.numbers.triple_of.Goals as goal

pub returns-in_err-low : goal.returns-in_err-low
returns-in_err-low c =
    ap node_of c.from_residual-in_err-low.ensures
    ∙ none_of_second c.args.line.now (decimal c.in_ok-atom.atom) c.in_ok-behind.field-0.now
    (rw c.in_ok-behind.was at c.in_ok-atom.ensures.fields)
    c.in_err-low.ensures.none

pub returns-in_err-high : goal.returns-in_err-high
returns-in_err-high c =
    ap node_of c.from_residual-in_err-high.ensures
    ∙ none_of_third c.args.line.now (decimal c.in_ok-atom.atom) c.in_ok-behind.field-0.now
    (rw c.in_ok-behind.was at c.in_ok-atom.ensures.fields)
    (decimal c.in_ok-low.low) c.in_ok-behind-2.field-0.now
    (rw c.in_ok-behind-2.was at c.in_ok-low.ensures.fields)
    c.in_err-high.ensures.none

pub returns-in-Some : goal.returns-in-Some
returns-in-Some c =
    none_of_four c.args.line.now (decimal c.in_ok-atom.atom) c.in_ok-behind.field-0.now
    (rw c.in_ok-behind.was at c.in_ok-atom.ensures.fields)
    (decimal c.in_ok-low.low) c.in_ok-behind-2.field-0.now
    (rw c.in_ok-behind-2.was at c.in_ok-low.ensures.fields)
    (decimal c.in_ok-high.high) c.in-Some.field-0.now
    (rw c.in-Some.is at c.in_ok-high.ensures.fields)

pub returns-in-None : goal.returns-in-None
returns-in-None c =
    let atom = decimal c.in_ok-atom.atom in
    let low = decimal c.in_ok-low.low in
    let first = rw c.in_ok-behind.was at c.in_ok-atom.ensures.fields in
    let second = rw c.in_ok-behind-2.was at c.in_ok-low.ensures.fields in
    let third = rw c.in-None.is at c.in_ok-high.ensures.fields in
    three_decimals c.args.line.now c.in_ok-atom.atom c.in_ok-low.low c.in_ok-high.high
    c.in_ok-atom.ensures.number c.in_ok-low.ensures.number c.in_ok-high.ensures.number
    (first ∙ ap (λ fs. atom ∷ fs) (second ∙ ap (λ fs. low ∷ fs) third))
