use Rattle.std.proofs.Common.{Ok, subst, sym, ◌∙◌}
use Rattle.std.specs.Prelude.{IfSome}
use Rattle.hv_bytes.specs.Files.{Names, Opens, bytes_of}
use Rattle.hv_bytes.specs.Pieces.{pieces_of}
use Rattle.hv_grammar.specs.Working.Reads.{IsReadAs}
use Rattle.hv_grammar.proofs.Whole.{whole_answer}
use Rattle.hv_task.specs.Strips.{atoms}
use Rattle.hv_replay.specs.LogFile.{log_file}
use Rattle.hv_replay.specs.LogText.{log_limits}
use Rattle.hv_replay.specs.Working.Reading.{log_of}
use Rattle.hv_replay.proofs.Joined.{answers_log}
use Rattle.hv_replay.proofs.read.read_log.Goals as goal

pub returns-clause-read : goal.returns-clause-read
returns-clause-read g c =
    let held = g.S.Shelf.held c.args.shelf.now in
    let name = c.args.name.now in
    let log = log_of c.in_ok-entries.entries in
    answers_log held name (atoms c.args.task.now) c.in_ok-log.log log c.in_ok-log.ensures
    (subst (λ n. IfSome held (λ (f : Names).
    IsReadAs (log_file n 0 (pieces_of log_limits (bytes_of f name))) (Ok log)))
    c.atoms.ensures.atoms
    (whole_answer (log_file c.atoms.result) held name log_limits _ _ _
    (subst (λ shelf. Opens held name (g.S.Shelf.left shelf)) (sym c.new-reader.ensures.shelf)
    c.in_ok-lines.ensures.opened)
    (c.new-reader.ensures.lines ∙ c.in_ok-lines.ensures.lines) c.in_ok-entries.ensures.reads))
