use Rattle.std.proofs.Common.{◌≡◌, []}
use Rattle.hv_lines.specs.Drafts.{onto, prelude}
use Rattle.hv_lines.proofs.draft.begun_table.Given as goal

abbrev pub invariant-loop-line : goal.invariant-loop-line
invariant-loop-line l =
    (goal.iterator-loop-line).can_next l.line-iterator
    × (goal.iterator-loop-line).is_finite l.line-iterator
    × (onto l.line-iterator.rest.items l.table.lines ≡ onto prelude [])
