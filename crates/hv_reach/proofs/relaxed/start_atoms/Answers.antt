use Rattle.std.proofs.Common.{◌≡◌, ◌↔◌, ℕ, IfOk, IfSome, IsTrue, is_some, subst, true}
use Rattle.hv_task.specs.State.{has_atom}
use Rattle.hv_reach.specs.Reached.{ReachedAtom}
use Rattle.hv_reach.specs.Written.{RelaxedExcludesFrom}
use Rattle.hv_reach.proofs.relaxed.start_atoms.Goals as goal

pub returns-clause-some : goal.returns-clause-some
returns-clause-some c =
    subst (λ s. IfOk c.reason.result (λ found. IsTrue (is_some found)
    ↔ RelaxedExcludesFrom c.args.task.now s)) c.in_ok-start.ensures.start c.reason.ensures.some

pub returns-clause-size : goal.returns-clause-size
returns-clause-size c = c.reason.ensures.size

pub returns-clause-reached : goal.returns-clause-reached
returns-clause-reached c =
    subst (λ s. IfOk c.reason.result (λ found. IfSome found (λ held. (p : ℕ)
    → (has_atom held p ≡ true) ↔ ReachedAtom c.args.task.now s p)))
    c.in_ok-start.ensures.start c.reason.ensures.reached
