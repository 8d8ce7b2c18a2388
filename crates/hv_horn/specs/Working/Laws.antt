-- The laws of clauses whose literals of one sign are of one atom at most: the short ones are such
-- clauses, and of two different open literals of one one has the other sign, so that it is true
-- where open atoms are given that sign. For Horn clauses the sign is that of the positive literals,
-- and open atoms are left out; for dual Horn clauses it is the other way round.
use Rattle.std.proofs.Common.{◌≡◌, ◌∙◌, ◌⊎◌, ℕ, Bool, true, false, not, List, length, None, refl}
use Rattle.std.proofs.Common.{sym, ap, inl, inr}
use Rattle.std.specs.List.{Contains}
use Rattle.hv_sets.specs.declared.literal.Literal.{Literal}
use Rattle.hv_sets.specs.Cubes.{SpeakBelow}
use Rattle.hv_sets.specs.Kinds.{IsHeaded}
use Rattle.hv_sets.specs.Truth.{in_clause}
use Rattle.hv_formula.specs.Kinded.{IsShort}
use Rattle.hv_propagation.specs.Marks.{filled, over}
use Rattle.hv_propagation.specs.Units.{IsSettled, value_of}
use Rattle.hv_formula.proofs.Kinded.{below, clause_true, known_filled, open_filled}

pub short_are_headed : (sign : Bool) (clause : List Literal) → IsShort clause
    → IsHeaded sign clause
short_are_headed sign clause short l k cl ck pl pk = ap (λ x. x.atom) (short l k cl ck)

of_sign : (sign value : Bool) → (value ≡ sign) ⊎ (value ≡ not sign)
of_sign true true = inl refl
of_sign true false = inr refl
of_sign false true = inr refl
of_sign false false = inl refl

pub headed_completes : (sign : Bool) (effect marks : List ℕ) (clause : List Literal)
    → SpeakBelow (length marks) clause → IsHeaded sign clause
    → IsSettled effect marks clause
    → in_clause clause (over effect (filled (not sign) marks)) ≡ true
headed_completes sign effect marks clause speaks headed settled =
    elim settled [
      | inl it ↦ known_filled effect marks clause speaks (not sign) it.0 it.1 it.2
      | inr two ↦ split two.0 two.1 two.2 two.3 two.4 two.5 two.6 (of_sign sign two.0.positive)
          (of_sign sign two.1.positive)
    ]
  where
    split : (l k : Literal) → Contains clause l → Contains clause k → (l ≡ k → ⊥)
        → value_of effect marks l ≡ None
        → value_of effect marks k ≡ None
        → (l.positive ≡ sign) ⊎ (l.positive ≡ not sign)
        → (k.positive ≡ sign) ⊎ (k.positive ≡ not sign)
        → in_clause clause (over effect (filled (not sign) marks)) ≡ true
    split l k cl ck differ open_l open_k (inr e) right =
        clause_true clause l (over effect (filled (not sign) marks)) cl
        (open_filled effect marks (not sign) l e open_l (below effect marks clause speaks l cl))
    split l k cl ck differ open_l open_k (inl e) (inr f) =
        clause_true clause k (over effect (filled (not sign) marks)) ck
        (open_filled effect marks (not sign) k f open_k (below effect marks clause speaks k ck))
    split l k cl ck differ open_l open_k (inl e) (inl f) =
        let atom : l.atom ≡ k.atom = headed l k cl ck e f in
        let same_sign : l.positive ≡ k.positive = e ∙ sym f in
        let same : l ≡ k = λ i. record { atom = atom i; positive = same_sign i } in
        absurd (differ same)
