use Rattle.std.proofs.Common.{arith}
use Rattle.hv_task.proofs.Rising.{AreBelow-Inserts}
use Rattle.hv_proof_tests.proofs.tasks.put.Goals as goal

pub returns : goal.returns
returns c =
    AreBelow-Inserts c.args.bound c.args.list.now c.args.atom c.insert.new.self
    c.in_ok-insert.ensures.ok c.requires (let h = c.if-atom-bound.false in omega arith)
