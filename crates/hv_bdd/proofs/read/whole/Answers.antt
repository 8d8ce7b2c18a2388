use Rattle.std.proofs.Common.{refl}
use Rattle.hv_grammar.specs.Parsers.{end_of_input, pure, ◌>>=◌, ◌>>◌}
use Rattle.hv_grammar.proofs.Going.{done, go, start}
use Rattle.hv_bdd.specs.declared.fault.NodeKind.TheVariants as K
use Rattle.hv_bdd.specs.declared.fault.NodeRefusal.TheVariants as R
use Rattle.hv_bdd.specs.NodeFile.{behind_first, node_file}
use Rattle.hv_bdd.proofs.read.whole.Goals as goal

pub returns-clause-reads : goal.returns-clause-reads
returns-clause-reads g c =
    let list = c.in_ok-list.list in
    done (node_file c.args.atoms) list list _ _
    (go (λ _. pure list)
    (go (λ l. end_of_input (R.Place K.End) >> pure l)
    (go (λ first. behind_first c.args.atoms first >>= λ l.
    end_of_input (R.Place K.End) >> pure l)
    (start (node_file c.args.atoms) (g.R.Source.position c.args.reader.now))
    c.in_ok-first.ensures.reads)
    c.in_ok-list.ensures.reads)
    c.in_ok-end_of_input.ensures)
    c.in_ok-end_of_input.ensures.can refl
