use Rattle.hv_clauses.specs.Working.Owners.{ListsUpto}
use Rattle.hv_clauses.proofs.literal_owners.codes_of.Given as goal

abbrev pub invariant-loop-place : goal.invariant-loop-place
invariant-loop-place g l = ListsUpto l.problem l.sign l.place l.codes.items
