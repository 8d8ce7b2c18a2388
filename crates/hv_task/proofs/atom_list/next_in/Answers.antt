use Rattle.std.proofs.Common.{[], refl, arith}
use Rattle.hv_task.proofs.Next.{kept_next, kept_none}
use Rattle.hv_task.proofs.atom_list.next_in.Goals as goal

pub returns-then-place-list : goal.returns-then-place-list
returns-then-place-list c =
    kept_next [] c.args.list.now c.args.from c.place_from-place.result c.requires
    (λ k less upto none. let below = c.place_from-place.ensures.before k less in omega arith)
    c.if-place-list.true (c.place_from-place.ensures.after c.place_from-place.result (omega arith)
    c.if-place-list.true) refl

pub returns : goal.returns
returns c =
    kept_none [] c.args.list.now c.args.from c.place_from-place.result c.requires
    (λ k less upto none. let below = c.place_from-place.ensures.before k less in omega arith)
    c.if-place-list.false
