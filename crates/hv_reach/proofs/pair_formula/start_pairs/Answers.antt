use Rattle.std.proofs.Common.{◌≡◌, ◌↔◌, ℕ, IfOk, IfSome, IsTrue, is_some, subst, true}
use Rattle.hv_reach.specs.Reached.{ReachedPair, has_pair}
use Rattle.hv_reach.specs.Written.{PairsExcludeFrom}
use Rattle.hv_reach.proofs.pair_formula.start_pairs.Goals as goal

pub returns-clause-some : goal.returns-clause-some
returns-clause-some c =
    subst (λ s. IfOk c.reason_from.result (λ found. IsTrue (is_some found)
    ↔ PairsExcludeFrom c.args.task.now s)) c.in_ok-start.ensures.start c.reason_from.ensures.some

pub returns-clause-reached : goal.returns-clause-reached
returns-clause-reached c =
    subst (λ s. IfOk c.reason_from.result (λ found. IfSome found (λ pairs. (p q : ℕ)
    → (has_pair pairs p q ≡ true) ↔ ReachedPair c.args.task.now s p q)))
    c.in_ok-start.ensures.start c.reason_from.ensures.reached
