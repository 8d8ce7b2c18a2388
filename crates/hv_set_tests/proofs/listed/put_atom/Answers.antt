use Rattle.hv_task.proofs.Rising.{AreBelow-Inserts}
use Rattle.hv_set_tests.proofs.listed.put_atom.Goals as goal

pub returns : goal.returns
returns c =
    AreBelow-Inserts 2 c.args.list.now c.args.atom c.insert.new.self c.in_ok-insert.ensures.ok
    c.requires.list c.requires.atom
