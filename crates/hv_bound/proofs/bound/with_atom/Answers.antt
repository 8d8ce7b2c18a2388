use Rattle.std.proofs.Common.{ℕ, List, subst}
use Rattle.hv_task.specs.AtomList.{Inserts}
use Rattle.hv_bound.proofs.Copying.{inserts_last}
use Rattle.hv_bound.proofs.bound.with_atom.Goals as goal

pub returns : goal.returns
returns c =
    inserts_last c.args.set.now c.insert.new.self c.args.atom c.len-len.ensures.rises c.requires
    (subst (λ (old : List ℕ). Inserts old c.args.atom c.insert.new.self) c.in_ok-list.ensures
    c.in_ok-insert.ensures.ok)
