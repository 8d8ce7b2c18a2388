use Rattle.std.proofs.Common.{◌≡◌, ◌∙◌, [], ap, get_or}
use Rattle.std.proofs.lemmas.Option.{get_or_from_slice_get}
use Rattle.hv_sets.specs.Truth.{in_clause}
use Rattle.hv_formula.proofs.Rest.{upto_more}
use Rattle.hv_formula.proofs.arranged.Arranged.move_if_true.Goals as goal

pub returns-clause-upto : goal.returns-clause-upto
returns-clause-upto c =
    let clauses = c.args.clauses.now in
    let old = c.args.self.now in
    let new = c.move_up.new.self in
    let here : get_or clauses c.args.place [] ≡ c.get.result.now =
    get_or_from_slice_get clauses c.args.place c.get.result.now [] c.get.ensures in
    upto_more clauses [] old.order.items new.order.items old.done new.done c.args.place
    (λ s. ap (λ ls. in_clause ls s) here
    ∙ c.in_ok-is_always_true.ensures c.if-not-branch.false s)
    c.move_up.ensures.keeps c.move_up.ensures.more c.requires.upto
