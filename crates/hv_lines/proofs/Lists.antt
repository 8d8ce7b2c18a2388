-- Lists that are joined of pieces, and ranges of numbers.
use Rattle.std.proofs.Common.{◌≡◌, ℕ, zero, suc, ◌+◌, ◌-◌, ◌<◌, ◌≤◌, ◌∙◌, Bool, true, List, [], ◌∷◌}
use Rattle.std.proofs.Common.{◌++◌, length, refl, sym, ap, subst, inl, inr, arith}
use Rattle.std.proofs.Common.{length-append}
use Rattle.std.proofs.lemmas.Bool.{and_from, and_parts, cases_eq}
use Rattle.std.proofs.lemmas.List.{flat_map_more}
use Rattle.std.proofs.lemmas.List.Elements.{All-append, All-cons, All-head, All-nil, All-tail}
use Rattle.std.proofs.lemmas.List.Folds.{list_all-append}
use Rattle.std.specs.List.{All, flat_map, list_all, range_with_len}

module _ {X Y : Type 0} (f : X → List Y) where
  -- what holds of each element of the pieces holds of each element of all
  pub All-flat_map : (P : Y → Type 0) (xs : List X) → All (λ x. All P (f x)) xs
      → All P (flat_map f xs)
  All-flat_map P [] each = All-nil P
  All-flat_map P (x ∷ xs) each =
      All-append P (f x) (flat_map f xs) (All-head (λ y. All P (f y)) x xs each)
      (All-flat_map P xs (All-tail (λ y. All P (f y)) x xs each))

  -- a test that each element of all passes, each element of each piece passes
  pub pieces_pass : (p : Y → Bool) (xs : List X) → list_all p (flat_map f xs) ≡ true
      → All (λ x. list_all p (f x) ≡ true) xs
  pieces_pass p [] all = All-nil (λ x. list_all p (f x) ≡ true)
  pieces_pass p (x ∷ xs) all =
      let both =
      and_parts (list_all p (f x)) (list_all p (flat_map f xs))
      (sym (list_all-append p (f x) (flat_map f xs)) ∙ all) in
      All-cons (λ y. list_all p (f y) ≡ true) x xs both.0 (pieces_pass p xs both.1)

  pub all_pass : (p : Y → Bool) (xs : List X) → All (λ x. list_all p (f x) ≡ true) xs
      → list_all p (flat_map f xs) ≡ true
  all_pass p [] each = refl
  all_pass p (x ∷ xs) each =
      list_all-append p (f x) (flat_map f xs)
      ∙ and_from (list_all p (f x)) (list_all p (flat_map f xs))
      (All-head (λ y. list_all p (f y) ≡ true) x xs each)
      (all_pass p xs (All-tail (λ y. list_all p (f y) ≡ true) x xs each))

  -- pieces of at most one element
  pub length-pieces : (xs : List X) → ((x : X) → length (f x) ≤ 1)
      → length (flat_map f xs) ≤ length xs
  length-pieces [] few = omega arith
  length-pieces (x ∷ xs) few = omega (
    arith,
    length-append (f x) (flat_map f xs),
    few x,
    length-pieces xs few,
  )

pub range_push : (a n : ℕ) → range_with_len a (n + 1) ≡ range_with_len a n ++ (a + n) ∷ []
range_push a zero = ap (λ x. x ∷ []) (omega arith)
range_push a (suc n) =
    let more : suc n + 1 ≡ suc (n + 1) = omega arith in
    ap (range_with_len a) more
    ∙ ap (λ xs. a ∷ xs) (range_push (a + 1) n
    ∙ ap (λ x. range_with_len (a + 1) n ++ x ∷ []) (omega arith))

-- the pieces of a range of numbers and of one more
pub pieces_next : {Y : Type 0} (f : ℕ → List Y) (n : ℕ) (now new : List Y)
    → now ≡ flat_map f (range_with_len 0 n) → new ≡ now ++ f n
    → new ≡ flat_map f (range_with_len 0 (n + 1))
pieces_next f n now new is more =
    let same : n ≡ 0 + n = omega arith in
    more
    ∙ (ap (λ ys. ys ++ f n) is
    ∙ (ap (λ k. flat_map f (range_with_len 0 n) ++ f k) same
    ∙ (flat_map_more f [] (range_with_len 0 n) (0 + n) ∙ ap (flat_map f) (sym (range_push 0 n)))))

-- the same behind other elements, of a range from a number on
pub pieces_more : {Y : Type 0} (f : ℕ → List Y) (a n : ℕ) (old now new : List Y) → a ≤ n
    → now ≡ old ++ flat_map f (range_with_len a (n - a)) → new ≡ now ++ f n
    → new ≡ old ++ flat_map f (range_with_len a (n + 1 - a))
pieces_more f a n old now new upto is more =
    let same : n ≡ a + (n - a) = omega (arith, upto) in
    let next : n - a + 1 ≡ n + 1 - a = omega (arith, upto) in
    more
    ∙ (ap (λ ys. ys ++ f n) is
    ∙ (ap (λ k. (old ++ flat_map f (range_with_len a (n - a))) ++ f k) same
    ∙ (flat_map_more f old (range_with_len a (n - a)) (a + (n - a))
    ∙ (ap (λ xs. old ++ flat_map f xs) (sym (range_push a (n - a)))
    ∙ ap (λ k. old ++ flat_map f (range_with_len a k)) next))))

module _ (P : ℕ → Type 0) where
  -- each number of a range
  pub in_range : (a n : ℕ) → All P (range_with_len a n) → (x : ℕ) → a ≤ x → x < a + n → P x
  in_range a zero all x from below = absurd (omega (arith, from, below))
  in_range a (suc n) all x from below =
      elim (cases_eq a x) [
        | inl same ↦ subst P same (All-head P a (range_with_len (a + 1) n) all)
        | inr other ↦
            in_range (a + 1) n (All-tail P a (range_with_len (a + 1) n) all) x
            (omega (arith, from, other)) (omega (arith, below))
      ]

  pub All-range : (a n : ℕ) → ((x : ℕ) → a ≤ x → x < a + n → P x) → All P (range_with_len a n)
  All-range a zero each = All-nil P
  All-range a (suc n) each =
      All-cons P a (range_with_len (a + 1) n) (each a (omega arith) (omega arith))
      (All-range (a + 1) n (λ x from below. each x (omega (arith, from)) (omega (arith, below))))

  -- the same of the numbers below one
  pub All-below : (n : ℕ) → ((x : ℕ) → x < n → P x) → All P (range_with_len 0 n)
  All-below n each = All-range 0 n (λ x from below. each x (omega (arith, below)))
