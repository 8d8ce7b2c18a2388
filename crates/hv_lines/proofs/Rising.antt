-- What rises is one list, by what it contains.
use Rattle.std.proofs.Common.{◌≡◌, ℕ, suc, ◌∙◌, ◌↔◌, Bool, true, false, [], ◌∷◌, Some, refl, sym}
use Rattle.std.proofs.Common.{ap, ap₂, subst, inl, inr, arith}
use Rattle.std.specs.List.{Contains}
use Rattle.std.proofs.lemmas.Option.{slice_get-get_or}
use Rattle.hv_lines.specs.Shapes.{Askings, AskedBefore, AskingsRise}
use Rattle.hv_lines.proofs.Elements.{cons_cases, head_in, nothing_in, tail_in}

-- of two, only one comes before the other
before_once : (a b : ℕ × Bool) → AskedBefore a b → AskedBefore b a → ⊥
before_once a b (inl less) (inl more) = omega (arith, less, more)
before_once a b (inl less) (inr same) = omega (arith, less, same.0)
before_once a b (inr same) (inl more) = omega (arith, same.0, more)
before_once a b (inr same) (inr also) = let e : false ≡ true = sym same.1 ∙ also.2 in cc (e)

tail_rises : (x : ℕ × Bool) (xs : Askings) → AskingsRise (x ∷ xs) → AskingsRise xs
tail_rises x xs rises i j first second less at_first at_second = rises (suc i) (suc j) first second
    (omega arith) at_first at_second

-- the first comes before each other one
first_before : (x : ℕ × Bool) (xs : Askings) → AskingsRise (x ∷ xs) → (y : ℕ × Bool) → Contains xs y
    → AskedBefore x y
first_before x xs rises y c =
    rises 0 (suc c.0) x y (omega arith) refl (slice_get-get_or xs c.0 y c.1 ∙ ap Some c.2)

-- what is in two rising lists whose heads are the same is in the tail of both or of none
same_tail : (x : ℕ × Bool) (xs ys : Askings) → AskingsRise (x ∷ xs)
    → ((a : ℕ × Bool) → Contains (x ∷ xs) a → Contains (x ∷ ys) a)
    → (a : ℕ × Bool) → Contains xs a → Contains ys a
same_tail x xs ys rises within a c =
    elim (cons_cases x ys a (within a (tail_in x xs a c))) [
      | inl same ↦
          let before : AskedBefore x a = first_before x xs rises a c in
          let back : AskedBefore a x = subst (λ b. AskedBefore b x) same
          (subst (AskedBefore x) (sym same) before) in
          absurd (before_once x a before back)
      | inr there ↦ there
    ]

same_head : (x y : ℕ × Bool) (xs ys : Askings) → AskingsRise (x ∷ xs) → AskingsRise (y ∷ ys)
    → Contains (y ∷ ys) x → Contains (x ∷ xs) y
    → x ≡ y
same_head x y xs ys rises also x_in y_in =
    elim (cons_cases y ys x x_in) [
      | inl same ↦ sym same
      | inr there ↦ elim (cons_cases x xs y y_in) [
        | inl same ↦ same
        | inr here ↦ absurd (before_once x y (first_before x xs rises y here)
            (first_before y ys also x there))
      ]
    ]

pub rising_once : (xs ys : Askings) → AskingsRise xs → AskingsRise ys
    → ((a : ℕ × Bool) → Contains xs a ↔ Contains ys a) → xs ≡ ys
rising_once [] [] rises also same = refl
rising_once [] (y ∷ ys) rises also same = absurd (nothing_in y ((same y).1 (head_in y ys)))
rising_once (x ∷ xs) [] rises also same = absurd (nothing_in x ((same x).0 (head_in x xs)))
rising_once (x ∷ xs) (y ∷ ys) rises also same =
    let head : x ≡ y = same_head x y xs ys rises also ((same x).0 (head_in x xs))
    ((same y).1 (head_in y ys)) in
    let rest : AskingsRise (x ∷ ys) = subst (λ z. AskingsRise (z ∷ ys)) (sym head) also in
    let there : (a : ℕ × Bool) → Contains (x ∷ xs) a → Contains (x ∷ ys) a =
    λ a c. subst (λ z. Contains (z ∷ ys) a) (sym head) ((same a).0 c) in
    let back : (a : ℕ × Bool) → Contains (x ∷ ys) a → Contains (x ∷ xs) a =
    λ a c. (same a).1 (subst (λ z. Contains (z ∷ ys) a) head c) in
    ap₂ (λ z zs. z ∷ zs) head
    (rising_once xs ys (tail_rises x xs rises) (tail_rises y ys also)
    (λ a. (same_tail x xs ys rises there a, same_tail x ys xs rest back a)))
