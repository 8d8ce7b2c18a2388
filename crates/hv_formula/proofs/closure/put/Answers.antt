use Rattle.std.proofs.Common.{◌∙◌, ◌+◌, refl, sym, ap, arith, subst}
use Rattle.hv_formula.specs.Working.Closure.{ListsBelow}
use Rattle.hv_propagation.specs.Marks.{known}
use Rattle.hv_propagation.specs.Trail.{marked}
use Rattle.hv_formula.proofs.Forced.{listed_more, none_from, said_more, said_others}
use Rattle.hv_formula.proofs.closure.put.Goals as goal

pub returns-in_default-clause-here : goal.returns-in_default-clause-here
returns-in_default-clause-here c = λ n less.
    none_from c.args.forced.now.items c.args.atom c.requires n c.args.atom (omega arith)
    ∙ sym c.in_default.is

pub returns-clause-below : goal.returns-clause-below
returns-clause-below c =
    subst (λ ls. ListsBelow (c.args.atom + 1) ls) (sym c.in_ok-push.ensures.items)
    (listed_more c.args.forced.now.items c.args.atom c.requires
    (record { atom = c.args.atom; positive = c.in-Some.positive }) refl)

pub returns-clause-here : goal.returns-clause-here
returns-clause-here c = λ n less.
    ap (λ ls. known (marked n ls) c.args.atom) c.in_ok-push.ensures.items
    ∙ (said_more c.args.forced.now.items c.args.atom c.requires
    (record { atom = c.args.atom; positive = c.in-Some.positive }) refl n less
    ∙ sym c.in-Some.is)

pub returns-clause-others : goal.returns-clause-others
returns-clause-others c = λ n p other.
    ap (λ ls. known (marked n ls) p) c.in_ok-push.ensures.items
    ∙ said_others c.args.forced.now.items c.args.atom c.requires
    (record { atom = c.args.atom; positive = c.in-Some.positive }) refl n p other
