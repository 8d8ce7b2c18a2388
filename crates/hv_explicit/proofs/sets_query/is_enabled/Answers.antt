use Rattle.std.proofs.Common.{◌↔◌, ℕ, List, IsTrue, subst}
use Rattle.std.specs.List.{All, Contains}
use Rattle.hv_explicit.proofs.sets_query.is_enabled.Goals as goal

pub returns : goal.returns
returns c =
    subst (λ (xs : List ℕ). IsTrue c.names_each.result
    ↔ All (λ p. Contains c.args.held.atoms.now p) xs) c.as_slice.ensures.items
    c.names_each.ensures
