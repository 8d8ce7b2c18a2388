use Rattle.hv_task.proofs.Next.{first_from}
use Rattle.hv_task.proofs.atom_list.is_first_from.Goals as goal

pub returns-then-less_before : goal.returns-then-less_before
returns-then-less_before c = λ yes.
    first_from c.args.list.now c.args.from c.args.place c.requires c.if-place-list.false
    (c.less_before.ensures c.if-less_before.true) (c.not_less_at.ensures yes)
