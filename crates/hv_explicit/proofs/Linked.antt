-- Chains of places, and one place more.
use Rattle.std.proofs.Common.{◌≡◌, ℕ, ◌-◌, ◌<◌, ◌≤◌, ◌∙◌, List, [], ◌∷◌, ◌++◌, length, get_or, sym}
use Rattle.std.proofs.Common.{ap, subst, arith}
use Rattle.std.proofs.lemmas.List.{get_or_append_left}
use Rattle.hv_explicit.specs.Working.Places.{IsEnd, IsLinked, slot_at, slot_of}

-- codes that agree up to the bound give the same ends
end_agree : (f g : ℕ → ℕ) (x n end : ℕ) → ((k : ℕ) → k < n → f k ≡ g k) → IsEnd f x n end
    → IsEnd g x n end
end_agree f g x n end agree is = record {
  upto = is.upto;
  after = λ k less same. is.after k less (agree k less ∙ same);
  there = λ some. let u = is.upto in sym (agree (end - 1) (omega arith)) ∙ is.there some;
}

-- a code that comes last is in no chain yet
pub linked_push : (codes before heads : List ℕ) (factor slots n code : ℕ)
    → IsLinked codes before heads factor slots n → n ≤ length codes
    → IsLinked (codes ++ code ∷ []) before heads factor slots n
linked_push codes before heads factor slots n code linked fits = record {
  starts = λ b below. end_agree (slot_at codes factor slots)
      (slot_at (codes ++ code ∷ []) factor slots) b n (get_or heads b 0)
      (λ k less. agree k (omega arith)) (linked.starts b below);
  chain = λ p below.
      subst (λ b. IsEnd (slot_at (codes ++ code ∷ []) factor slots) b p (get_or before p 0))
      (agree p (omega arith))
      (end_agree (slot_at codes factor slots) (slot_at (codes ++ code ∷ []) factor slots)
      (slot_at codes factor slots p) p (get_or before p 0) (λ k less. agree k (omega arith))
      (linked.chain p below));
}
  where
    agree : (k : ℕ) → k < length codes → slot_at codes factor slots k
        ≡ slot_at (codes ++ code ∷ []) factor slots k
    agree k less = ap (slot_of factor slots) (sym (get_or_append_left codes (code ∷ []) 0 k less))
