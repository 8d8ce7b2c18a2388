use Rattle.std.proofs.Common.{◌≡◌, ◌∙◌, ◌++◌, ◌∷◌, [], length, sym, ap, subst, arith}
use Rattle.hv_sets.specs.Working.Pieces.{EndWithin, gathered}
use Rattle.hv_sets.proofs.Pieces.{ends-end, gathered-end}
use Rattle.hv_sets.proofs.flat.Flat.end.Goals as goal

pub invariant_of-self-2 : goal.invariant_of-self-2
invariant_of-self-2 g c =
    let at : c.in-Some.end ≡ length c.self.inside.items.items =
    omega (arith, c.in-Some.ensures, c.len.ensures, c.self.inside.items.ok.0) in
    subst (λ es. EndWithin c.self.inside.items.items 0 es) (sym c.in_ok-push.ensures.items)
    (ends-end c.self.inside.items.items 0 c.self.inside.ends.items c.in-Some.end at
    c.self.invariant)

pub returns-clause-ok : goal.returns-clause-ok
returns-clause-ok g c =
    let at : c.in-Some.end ≡ length c.self.inside.items.items =
    omega (arith, c.in-Some.ensures, c.len.ensures, c.self.inside.items.ok.0) in
    ap (λ es. gathered c.self.inside.items.items es) c.in_ok-push.ensures.items
    ∙ (gathered-end c.self.inside.items.items c.self.inside.ends.items c.in-Some.end at
    ∙ ap (λ v. record { whole = v.whole ++ v.begun ∷ []; begun = [] }) c.self.view_is)
