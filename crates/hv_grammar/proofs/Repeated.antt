-- Parts that come again and again.
use Rattle.std.proofs.Common.{◌≡◌, ℕ, zero, suc, ◌+◌, List, [], ◌∷◌, Option, None, Some, Ok, Err}
use Rattle.std.proofs.Common.{◌++◌, length, length-append, refl, ap, arith, subst}
use Rattle.std.specs.Prelude.{Result}
use Rattle.hv_bytes.specs.Pieces.{PieceBytes}
use Rattle.hv_grammar.specs.Parsers.{Outcome, Parser, after, done_or, followed, iterate, line, many}
use Rattle.hv_grammar.specs.Parsers.{many_till, onward, one_more, optional, parsed, pure, repeat}
use Rattle.hv_grammar.specs.Parsers.{long, refused, tested, till, ◌>>=◌}
use Rattle.hv_grammar.specs.Positions.{Position}
use Rattle.hv_grammar.proofs.Going.{Goes}

-- one more turn is left
pub turn : {A B : Type 0} (whole : Parser B A) (part : A → Parser B A) (a : A) (k j : ℕ)
    (old mid : Position) → Goes whole old (iterate k part a) mid → k ≡ suc j
    → Goes whole old (part a >>= λ b. iterate j part b) mid
turn whole part a k j old mid g e = subst (λ n. Goes whole old (iterate n part a) mid) e g

-- Lines up to a closing one: each is one line ahead, which says what follows.

module _ {A B : Type 0} (lacking : B) (test : A → List ℕ → Result (Option A) B) where
  till_said : (a : A) (n : ℕ) (ps : List PieceBytes) (said : Result (Option A) B)
      → after (tested (n + 1) ps said) (till lacking test a)
      ≡ followed (n + 1)
      (done_or a (n + 1) ps (λ b. many_till lacking test b (n + 1) ps)) said
  till_said a n ps (Ok None) = refl
  till_said a n ps (Ok (Some b)) = refl
  till_said a n ps (Err b) = refl

  pub till_same : (a : A) (n : ℕ) (ps : List PieceBytes)
      → (line lacking (test a) >>= till lacking test a) n ps ≡ many_till lacking test a n ps
  till_same a n [] = refl
  till_same a n (None ∷ ps) = refl
  till_same a n (Some l ∷ ps) = till_said a n ps (test a l)

-- All lines up to the end of the input: each may be there, or the value is done.

module _ {A B : Type 0} (test : A → List ℕ → Result A B) where
  onward_said : (a : A) (n : ℕ) (ps : List PieceBytes) (said : Result A B)
      → after (followed (n + 1) (λ b. parsed (Some b) (n + 1) ps) said) (onward test a)
      ≡ followed (n + 1) (λ b. many test b (n + 1) ps) said
  onward_said a n ps (Ok b) = refl
  onward_said a n ps (Err b) = refl

  pub onward_same : (a : A) (n : ℕ) (ps : List PieceBytes)
      → (optional (test a) >>= onward test a) n ps ≡ many test a n ps
  onward_same a n [] = refl
  onward_same a n (None ∷ ps) = refl
  onward_same a n (Some l ∷ ps) = onward_said a n ps (test a l)

-- A list of so many values has so many.

module _ {A B : Type 0} (part : Parser B A) where
  same_value : (a b : List A) (n m : ℕ) (ps qs : List PieceBytes)
      → ◌≡◌ {A = Outcome B (List A)} (parsed a n ps) (parsed b m qs) → a ≡ b
  same_value a b n m ps qs e = cc

  more_values : (k : ℕ) (front list : List A) (n m : ℕ) (ps qs : List PieceBytes) (o : Outcome B A)
      → ((earlier : List A) (i : ℕ) (rs : List PieceBytes)
      → iterate k (one_more part) earlier i rs ≡ parsed list m qs
      → length list ≡ length earlier + k)
      → after (after o (λ a. pure (front ++ a ∷ []))) (λ b. iterate k (one_more part) b)
      ≡ parsed list m qs → length list ≡ length front + suc k
  more_values k front list n m ps qs (parsed a i rs) rest e =
      let size = rest (front ++ a ∷ []) i rs e in
      omega (arith, size, length-append front (a ∷ []))
  more_values k front list n m ps qs (refused i b) rest e = absurd cc
  more_values k front list n m ps qs (long i) rest e = absurd cc

  values : (k : ℕ) (front list : List A) (n m : ℕ) (ps qs : List PieceBytes)
      → iterate k (one_more part) front n ps ≡ parsed list m qs
      → length list ≡ length front + k
  values zero front list n m ps qs e =
      let same = ap length (same_value front list n m ps qs e) in omega (arith, same)
  values (suc k) front list n m ps qs e =
      more_values k front list n m ps qs (part n ps)
      (λ earlier i rs. values k earlier list i m rs qs) e

  pub repeat_count : (k : ℕ) (list : List A) (n m : ℕ) (ps qs : List PieceBytes)
      → repeat k part n ps ≡ parsed list m qs → length list ≡ k
  repeat_count k list n m ps qs e =
      let size = values k [] list n m ps qs e in omega (arith, size)
