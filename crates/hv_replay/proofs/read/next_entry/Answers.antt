use Rattle.std.proofs.Common.{subst, sym, ◌+◌, ◌≤◌, length, List, ℕ}
use Rattle.hv_replay.proofs.Taken.{bytes_taken, counted_bytes}
use Rattle.hv_replay.specs.Working.Reading.{entries_in}
use Rattle.hv_replay.proofs.read.next_entry.Goals as goal

pub returns-clause-bytes : goal.returns-clause-bytes
returns-clause-bytes g c =
    let old = (g.R.Source.position c.args.reader.now).lines in
    let new = (g.R.Source.position c.next_line.new.reader).lines in
    let line = c.line.result.now in
    bytes_taken (entries_in c.args.entries.now) c.take_line.new.self c.take_line.result
    c.args.entries.now.atoms c.number.result old.earlier new.earlier line c.take_line.ensures.said
    c.take_line.ensures.same c.requires.bytes
    (subst (λ (l : List ℕ). old.earlier + length l ≤ new.earlier) (sym c.line.ensures)
    (counted_bytes old.earlier new.earlier new.line new.ended
    c.in_ok-next_line.ensures.fetched.counted))
