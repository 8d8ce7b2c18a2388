use Rattle.std.proofs.Common.{[], refl, subst, sym}
use Rattle.std.proofs.lemmas.Option.{get_or_from_slice_get}
use Rattle.std.specs.List.{Contains}
use Rattle.hv_formula.specs.Positive.{ArePositive}
use Rattle.hv_formula.proofs.FirstTried.{positive_pass, positive_put}
use Rattle.hv_formula.proofs.first_states.put_positive.Goals as goal

pub returns-then-has_negative : goal.returns-then-has_negative
returns-then-has_negative c =
    let clauses = c.args.clauses.now in
    let here = get_or_from_slice_get clauses c.args.place c.get.result.now [] c.get.ensures in
    let own = c.if-has_negative.ensures refl in
    positive_pass clauses c.args.place c.requires.place c.args.places.now.items
    c.requires.positive own.0 (subst (λ ls. Contains ls own.0) (sym here) own.1) own.2

pub returns : goal.returns
returns c =
    subst (ArePositive c.args.clauses.now _) (sym c.in_ok-push.ensures.items)
    (positive_put c.args.clauses.now c.args.place c.requires.place c.args.places.now.items
    c.requires.positive)
