use Rattle.std.proofs.Common.{ℕ, List, subst}
use Rattle.hv_task.specs.AtomList.{Inserts}
use Rattle.hv_command.proofs.Sampled.{one_listed}
use Rattle.hv_command.proofs.sample.only.Goals as goal

pub returns : goal.returns
returns c =
    one_listed c.insert.new.self c.args.atom
    (subst (λ (old : List ℕ). Inserts old c.args.atom c.insert.new.self) c.new-list.ensures
    c.in_ok-insert.ensures.ok)
