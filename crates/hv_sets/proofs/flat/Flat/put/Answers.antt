use Rattle.std.proofs.Common.{◌∙◌, ◌++◌, ◌∷◌, [], sym, ap, subst}
use Rattle.hv_sets.specs.Working.Pieces.{EndWithin, gathered}
use Rattle.hv_sets.proofs.Pieces.{ends-more, gathered-more}
use Rattle.hv_sets.proofs.flat.Flat.put.Goals as goal

pub invariant_of-self-2 : goal.invariant_of-self-2
invariant_of-self-2 g c =
    subst (λ xs. EndWithin xs 0 c.self.inside.ends.items) (sym c.in_ok-push.ensures.items)
    (ends-more c.self.inside.items.items (c.args.item ∷ []) 0 c.self.inside.ends.items
    c.self.invariant)

pub returns-clause-ok : goal.returns-clause-ok
returns-clause-ok g c =
    ap (λ xs. gathered xs c.self.inside.ends.items) c.in_ok-push.ensures.items
    ∙ (gathered-more c.self.inside.items.items (c.args.item ∷ []) c.self.inside.ends.items
    c.self.invariant
    ∙ ap (λ v. record { whole = v.whole; begun = v.begun ++ c.args.item ∷ [] }) c.self.view_is)
