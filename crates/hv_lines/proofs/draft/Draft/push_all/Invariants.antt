use Rattle.std.proofs.Common.{◌≡◌, ◌+◌, length}
use Rattle.hv_lines.specs.Drafts.{IsGoodTable, onto}
use Rattle.hv_lines.proofs.draft.Draft.push_all.Given as goal

abbrev pub invariant-loop-line : goal.invariant-loop-line
invariant-loop-line l =
    (goal.iterator-loop-line).can_next l.line-iterator
    × (goal.iterator-loop-line).is_finite l.line-iterator
    × (onto l.line-iterator.rest.items l.self.lines ≡ onto l.fn.lines.items l.fn.self.lines)
    × IsGoodTable l.task (onto l.line-iterator.rest.items l.self.lines)
    × (l.self.spare + length l.fn.lines.items ≡ l.fn.self.spare + length l.line-iterator.rest.items)
