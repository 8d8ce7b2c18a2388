use Rattle.std.proofs.Common.{[], ◌∷◌, ◌++◌, ◌∙◌, if◌then◌else◌, ap, sym}
use Rattle.hv_reach.specs.Written.{denied}
use Rattle.hv_reach.proofs.relaxed.deny_atom.Goals as goal

pub returns : goal.returns
returns c =
    c.in_ok-push_literals.ensures.ok
    ∙ (ap (λ l. c.args.clauses.now ++ (l ∷ []) ∷ []) c.denied.ensures
    ∙ ap (λ xs. c.args.clauses.now ++ xs)
    (sym (ap (λ b. if b then [] else (denied c.args.atom ∷ []) ∷ [])
    (sym c.has.ensures ∙ c.if-has.false))))
