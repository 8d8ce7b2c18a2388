use Rattle.std.proofs.Common.{◌≡◌, ◌≤◌, ◌-◌, [], vec_len}
use Rattle.std.specs.Io.KnownBytes.{Consumes, prepend_known}
use Rattle.hv_bytes.specs.LineCuts.{IsClean}
use Rattle.hv_bytes.specs.Working.LineParts.{BeginsWith, FitsSoFar}
use Rattle.hv_bytes.proofs.buffer.read_on.Given as goal

-- the line so far was the prefix of the coming bytes, has no LF and fits, and no byte is held
abbrev pub invariant-parts : goal.invariant-parts
invariant-parts g l =
    Consumes (prepend_known l.initial.line.items (g.S.Shelf.left l.initial.shelf))
    (prepend_known l.block.held (g.S.Shelf.left l.shelf)) l.line.items × IsClean l.line.items
    × (l.block.held ≡ [])
    × FitsSoFar l.limits.line l.limits.file l.earlier l.line.items
    × BeginsWith l.initial.line.items l.line.items
    × (g.S.Shelf.held l.shelf ≡ g.S.Shelf.held l.initial.shelf)
    × (g.S.Shelf.allows l.shelf ≡ g.S.Shelf.allows l.initial.shelf)
    × (g.S.Shelf.faults l.initial.shelf ≤ g.S.Shelf.faults l.shelf)

abbrev pub decreases-parts : goal.decreases-parts
decreases-parts g l = l.limits.line - vec_len l.line
