use Rattle.std.proofs.Common.{◌≡◌, ◌≤◌, ◌-◌, []}
use Rattle.hv_grammar.specs.Parsers.{many_till}
use Rattle.hv_grammar.specs.Positions.{CanRead}
use Rattle.hv_grammar.proofs.Going.{Goes}
use Rattle.hv_replay.specs.LogFile.{log_line}
use Rattle.hv_replay.specs.Logs.{listed_bytes}
use Rattle.hv_replay.specs.LogText.{log_limits}
use Rattle.hv_replay.specs.Working.Reading.{IsReadingLog, entries_in}
use Rattle.hv_replay.specs.declared.fault.LogRefusal.TheVariants as R
use Rattle.hv_replay.proofs.read.entries.Given as goal

abbrev pub invariant-lines : goal.invariant-lines
invariant-lines g l = record {
  goes : Goes (many_till R.Place (log_line l.fn.atoms) []) (g.R.Source.position l.fn.reader)
      (many_till R.Place (log_line l.fn.atoms) (entries_in l.entries))
      (g.R.Source.position l.reader);
  can : CanRead (g.R.Source.position l.reader);
  limits : (g.R.Source.position l.reader).lines.limits ≡ log_limits;
  ready : IsReadingLog l.entries;
  atoms : l.entries.atoms ≡ l.fn.atoms;
  bytes : listed_bytes (entries_in l.entries) ≤ (g.R.Source.position l.reader).lines.earlier;
}

abbrev pub decreases-lines : goal.decreases-lines
decreases-lines g l = log_limits.file - (g.R.Source.position l.reader).lines.number
