use Rattle.std.proofs.Common.{◌↔◌, Bool, IsTrue, List, Option, is_some, refl, subst}
use Rattle.hv_reach.specs.Written.{PairsExclude}
use Rattle.hv_reach.proofs.pair_formula.pairs_proof.Goals as goal

pub proof_by-requires-clause-excludes : goal.proof_by-requires-clause-excludes
proof_by-requires-clause-excludes c = (rw c.in-Some.is at c.in_ok-pairs.ensures.some).0 refl

pub proof_by-requires-clause-reached : goal.proof_by-requires-clause-reached
proof_by-requires-clause-reached c = rw c.in-Some.is at c.in_ok-pairs.ensures.reached

pub returns-in_ok-draft-in-Some-clause-some : goal.returns-in_ok-draft-in-Some-clause-some
returns-in_ok-draft-in-Some-clause-some c =
    let out = (rw c.in-Some.is at c.in_ok-pairs.ensures.some).0 refl in (λ _. out, λ _. refl)

pub returns-in-None-clause-some : goal.returns-in-None-clause-some
returns-in-None-clause-some c =
    subst (λ (f : Option (List (List Bool))). IsTrue (is_some f) ↔ PairsExclude c.args.task.now)
    c.in-None.is c.in_ok-pairs.ensures.some
