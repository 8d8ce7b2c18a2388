use Rattle.std.proofs.Common.{ap, ◌∙◌}
use Rattle.hv_grammar.proofs.Lined.{line_read}
use Rattle.hv_bdd.specs.NodeFile.{first_in}
use Rattle.hv_bdd.proofs.Joined.{begun_by}
use Rattle.hv_bdd.proofs.read.first_line.Goals as goal

pub returns-clause-reads : goal.returns-clause-reads
returns-clause-reads g c =
    line_read _ _ _ _ _ _ c.in_ok-next_line.ensures
    (c.in_ok-said.ensures ∙ ap (first_in c.args.atoms) c.line.ensures) c.at_line.ensures

pub returns-clause-begun : goal.returns-clause-begun
returns-clause-begun g c =
    begun_by c.args.atoms c.line.result.now _ c.in_ok-said.said c.at_line.result
    c.in_ok-said.ensures c.at_line.ensures
