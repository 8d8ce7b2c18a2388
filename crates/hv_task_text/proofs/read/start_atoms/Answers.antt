use Rattle.hv_grammar.proofs.Going.{go, last, start, stops}
use Rattle.hv_task_text.specs.TaskFile as text
use Rattle.hv_task_text.proofs.read.start_atoms.Goals as goal

pub returns-in_err-word_line-clause-reads : goal.returns-in_err-word_line-clause-reads
returns-in_err-word_line-clause-reads g c =
    stops _ (start (text.start_atoms c.args.atoms) _) c.in_err-word_line.ensures
    c.from_residual.ensures.1

pub returns-clause-reads : goal.returns-clause-reads
returns-clause-reads g c =
    last _ _ _ _ _ _ (go _ (start (text.start_atoms c.args.atoms) _) c.in_ok-word_line.ensures)
    c.atom_set.ensures.reads
