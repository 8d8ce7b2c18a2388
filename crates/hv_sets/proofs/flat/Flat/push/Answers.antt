use Rattle.std.proofs.Common.{◌+◌, ◌++◌, ◌∷◌, [], ◌∙◌, sym, ap, ap₂, subst, length}
use Rattle.hv_sets.specs.Working.Pieces.{EndWithin, gathered}
use Rattle.hv_sets.proofs.Pieces.{ends-push, gathered-push}
use Rattle.hv_sets.proofs.flat.Flat.push.Goals as goal

pub invariant_of-self-2 : goal.invariant_of-self-2
invariant_of-self-2 g c =
    let size = c.in-Some.ensures ∙ ap (λ n. n + length c.args.items.now)
    (c.len.ensures ∙ c.self.inside.items.ok.0) in
    let ends = c.push_reserved.ensures.items ∙ ap (λ xs. xs ++ c.in-Some.end ∷ [])
    c.in_ok-reserve.ensures.items in
    subst (λ xs. EndWithin xs 0 c.push_reserved.new.self.items)
    (sym c.in_ok-extend_from_slice.ensures.items)
    (subst (EndWithin (c.self.inside.items.items ++ c.args.items.now) 0) (sym ends)
    (ends-push c.self.inside.items.items c.args.items.now c.self.inside.ends.items
    c.in-Some.end size c.self.invariant))

pub returns-clause-ok : goal.returns-clause-ok
returns-clause-ok g c =
    let size = c.in-Some.ensures ∙ ap (λ n. n + length c.args.items.now)
    (c.len.ensures ∙ c.self.inside.items.ok.0) in
    let ends = c.push_reserved.ensures.items ∙ ap (λ xs. xs ++ c.in-Some.end ∷ [])
    c.in_ok-reserve.ensures.items in
    let none = ap (λ v. v.begun) c.self.view_is ∙ c.requires in
    ap₂ (λ xs es. gathered xs es) c.in_ok-extend_from_slice.ensures.items ends
    ∙ (gathered-push c.self.inside.items.items c.args.items.now c.self.inside.ends.items
    c.in-Some.end size c.self.invariant none
    ∙ ap₂ (λ xs ys. record { whole = xs ++ c.args.items.now ∷ []; begun = ys })
    (ap (λ v. v.whole) c.self.view_is) (sym c.requires))
