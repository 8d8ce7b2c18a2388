use Rattle.std.proofs.Common.{◌<◌, sym, subst}
use Rattle.std.proofs.lemmas.List.Elements.{All-nil}
use Rattle.hv_task.proofs.Rising.{AreBelow-Inserts}
use Rattle.hv_task.specs.State.{AreBelow}
use Rattle.hv_set_tests.proofs.diagrams.one_atom.Goals as goal

pub returns : goal.returns
returns c =
    AreBelow-Inserts 3 c.new-list.result c.args.atom c.insert.new.self c.in_ok-insert.ensures.ok
    (subst (AreBelow 3) (sym c.new-list.ensures) (All-nil (λ a. a < 3))) c.requires
