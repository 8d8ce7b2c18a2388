use Rattle.std.proofs.Common.{◌+◌, length}
use Rattle.hv_proof_tests.proofs.decide.is_decided.Goals as goal

pub decide-requires-clause-nodes : goal.decide-requires-clause-nodes
decide-requires-clause-nodes c = c.requires.nodes (length c.args.diagrams.now.nodes + 2)
