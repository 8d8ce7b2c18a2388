use Rattle.std.proofs.Common.{◌<◌, ℕ, slice_index_or}
use Rattle.hv_sets.specs.declared.literal.Literal.{Literal}
use Rattle.hv_indexes.specs.Implied.{IsEither}
use Rattle.hv_indexes.proofs.screens.are_all.Given as goal

abbrev pub invariant-loop-literal : goal.invariant-loop-literal
invariant-loop-literal l =
    (k : ℕ) (d : Literal) → k < l.literal-index
    → IsEither l.first l.second (slice_index_or l.clause k d)
