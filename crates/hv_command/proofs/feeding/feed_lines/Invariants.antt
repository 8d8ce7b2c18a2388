use Rattle.std.proofs.Common.{◌≡◌, ◌≤◌, ◌-◌, true}
use Rattle.hv_bytes.specs.Standard.{most_file_bytes, standard}
use Rattle.hv_bytes.specs.States.{coming_of}
use Rattle.hv_command.proofs.FedFiles.{IsFeeding}
use Rattle.hv_command.proofs.feeding.feed_lines.Given as goal

abbrev pub invariant-feeding : goal.invariant-feeding
invariant-feeding g l = record {
  feeding : IsFeeding (g.S.Shelf.left l.fn.shelf)
      (coming_of l.lines (g.S.Shelf.left l.shelf)) l.lines.earlier l.lines.number l.checker;
  setting : l.checker.setting ≡ l.fn.checker.setting;
  live : l.lines.live ≡ true;
  limits : l.lines.limits ≡ standard;
  few : l.lines.number ≤ most_file_bytes;
  held : g.S.Shelf.held l.shelf ≡ g.S.Shelf.held l.fn.shelf;
  allows : g.S.Shelf.allows l.shelf ≡ g.S.Shelf.allows l.fn.shelf;
  later : g.S.Shelf.faults l.fn.shelf ≤ g.S.Shelf.faults l.shelf;
}

abbrev pub decreases-feeding : goal.decreases-feeding
decreases-feeding g l = most_file_bytes - l.lines.number
