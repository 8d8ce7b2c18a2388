use Rattle.std.proofs.Common.{◌∙◌, subst, sym}
use Rattle.hv_bytes.specs.Files.{Opens}
use Rattle.hv_grammar.proofs.Whole.{whole_answer}
use Rattle.hv_bdd.specs.NodeFile.{node_file}
use Rattle.hv_bdd.proofs.Joined.{answers_fault, answers_list}
use Rattle.hv_bdd.proofs.read.read_nodes.Goals as goal

pub returns-in-Ok-clause-read : goal.returns-in-Ok-clause-read
returns-in-Ok-clause-read g c =
    let held = g.S.Shelf.held c.args.shelf.now in
    answers_list held c.args.name.now c.args.limits c.args.atoms c.in-Ok.list
    (whole_answer (node_file c.args.atoms) held c.args.name.now c.args.limits _ _ _
    (subst (λ shelf. Opens held c.args.name.now (g.S.Shelf.left shelf))
    (sym c.new-reader.ensures.shelf) c.in_ok-lines.ensures.opened)
    (c.new-reader.ensures.lines ∙ c.in_ok-lines.ensures.lines) c.in-Ok.ensures.reads)

pub returns-clause-read : goal.returns-clause-read
returns-clause-read g c =
    let held = g.S.Shelf.held c.args.shelf.now in
    answers_fault held c.args.name.now c.args.limits c.args.atoms c.in-Err.fault c.from.result
    c.from.ensures
    (whole_answer (node_file c.args.atoms) held c.args.name.now c.args.limits _ _ _
    (subst (λ shelf. Opens held c.args.name.now (g.S.Shelf.left shelf))
    (sym c.new-reader.ensures.shelf) c.in_ok-lines.ensures.opened)
    (c.new-reader.ensures.lines ∙ c.in_ok-lines.ensures.lines) c.in-Err.ensures.reads)
