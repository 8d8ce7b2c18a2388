use Rattle.std.proofs.Common.{[], refl, arith}
use Rattle.hv_task.proofs.Next.{kept_next, kept_none}
use Rattle.hv_bdd.proofs.tuple_search.next_listed.Goals as goal

pub returns-then-at-places : goal.returns-then-at-places
returns-then-at-places c =
    kept_next [] c.args.places.now c.args.from c.first_from-at.result c.requires
    (λ k less upto none. let below = c.first_from-at.ensures.before k less in omega arith)
    c.if-at-places.true (c.first_from-at.ensures.after c.first_from-at.result (omega arith)
    c.if-at-places.true) refl

pub returns : goal.returns
returns c =
    kept_none [] c.args.places.now c.args.from c.first_from-at.result c.requires
    (λ k less upto none. let below = c.first_from-at.ensures.before k less in omega arith)
    c.if-at-places.false
