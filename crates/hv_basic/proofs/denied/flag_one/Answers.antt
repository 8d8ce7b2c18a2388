use Rattle.std.proofs.Common.{◌∷◌, ◌∙◌, ℕ, List, [], false, ap, inl, inr, sym}
use Rattle.hv_sets.specs.declared.literal.Literal.{Literal}
use Rattle.hv_basic.proofs.denied.flag_one.Goals as goal

pub returns-in-Some-clause-denied : goal.returns-in-Some-clause-denied
returns-in-Some-clause-denied c = λ atom on.
    let denial : ℕ → List Literal = λ n. record { atom = n; positive = false } ∷ [] in
    elim (c.set_flag.ensures.only atom on) [
      | inl was ↦ inl was
      | inr same ↦ inr (c.in-Some.ensures ∙ ap denial (sym same))
    ]
