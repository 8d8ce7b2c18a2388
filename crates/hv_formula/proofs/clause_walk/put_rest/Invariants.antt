use Rattle.std.proofs.Common.{◌≡◌, take}
use Rattle.hv_formula.specs.Working.Walked.{denied_along}
use Rattle.hv_formula.proofs.clause_walk.put_rest.Given as goal

abbrev pub invariant-loop-place : goal.invariant-loop-place
invariant-loop-place l = l.literals.items ≡ take l.place (denied_along l.clause l.codes)
