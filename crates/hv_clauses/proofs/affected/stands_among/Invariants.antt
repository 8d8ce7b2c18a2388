use Rattle.std.proofs.Common.{ℕ, ◌<◌, List, get_or}
use Rattle.hv_sets.specs.declared.literal.Literal.{Literal}
use Rattle.hv_indexes.specs.Occurrences.{IsIndexOf}
use Rattle.hv_indexes.specs.Signed.{StandsAs}
use Rattle.hv_clauses.proofs.affected.stands_among.Given as goal

abbrev pub invariant-loop-atom : goal.invariant-loop-atom
invariant-loop-atom g l = (clauses : List (List Literal)) → IsIndexOf clauses l.occurs → (k : ℕ)
    → k < l.atom-index → (place : ℕ)
    → StandsAs l.positive clauses (get_or l.turned k 0) place → ⊥
