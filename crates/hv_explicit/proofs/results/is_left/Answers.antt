use Rattle.std.proofs.Common.{subst}
use Rattle.std.specs.List.{All, Contains}
use Rattle.hv_explicit.proofs.Merging.{made_left}
use Rattle.hv_explicit.proofs.results.is_left.Goals as goal

pub returns : goal.returns
returns c = λ e.
    let held = c.args.held.now in
    let action = c.args.action.now in
    made_left held action.add action.del
    (subst (All (λ p. Contains held p)) c.as_slice.ensures.items
    (c.names_all.ensures.0 c.if-not-names_all.false))
    (subst (λ del. All (λ a. Contains held a → Contains action.add a) del)
    c.as_slice-2.ensures.items
    (subst (λ add. All (λ a. Contains held a → Contains add a) c.as_slice-2.result.now)
    c.as_slice-3.ensures.items (c.has_no_other.ensures.0 e)))
