use Rattle.std.proofs.Common.{◌≡◌, Bool, List, take}
use Rattle.std.specs.List.{filter}
use Rattle.hv_sets.specs.declared.literal.Literal.{Literal}
use Rattle.hv_trap.specs.Working.Marks.{AreMarks}
use Rattle.hv_trap.proofs.clause_marks.left_of.Given as goal

abbrev pub invariant-loop-place : goal.invariant-loop-place
invariant-loop-place l = (stays : List Literal → Bool) → AreMarks stays l.clauses l.left.items
    → l.kept ≡ filter stays (take l.place l.clauses)
