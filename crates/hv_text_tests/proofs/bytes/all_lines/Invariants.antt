use Rattle.std.proofs.Common.{◌≡◌, ◌≤◌, ◌-◌, List, ℕ, map, IsTrue}
use Rattle.hv_bytes.specs.Working.Pieces.{GaveLines}
use Rattle.hv_bytes.specs.States.{coming_of}
use Rattle.hv_text_tests.proofs.bytes.all_lines.Given as goal

-- the lines so far were given, and more can be asked for
abbrev pub invariant-reading : goal.invariant-reading
invariant-reading g l =
    GaveLines l.fn.limits (g.S.Shelf.left l.initial.shelf) (map (λ v. v.items) l.all.items)
    (coming_of l.lines (g.S.Shelf.left l.shelf)) l.lines.earlier
    × IsTrue l.lines.live × (l.lines.number ≤ l.lines.limits.file) × (l.lines.limits ≡ l.fn.limits)

abbrev pub decreases-reading : goal.decreases-reading
decreases-reading g l = l.lines.limits.file - l.lines.number
