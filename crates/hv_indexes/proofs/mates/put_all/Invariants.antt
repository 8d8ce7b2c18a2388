use Rattle.hv_indexes.specs.Working.Mates.{ArePut}
use Rattle.hv_indexes.proofs.mates.put_all.Given as goal

abbrev pub invariant-loop-place : goal.invariant-loop-place
invariant-loop-place l = ArePut l.clauses l.place l.put
