-- Conclusions joined one after the other. The whole condition R says both that of the first part,
-- P, and that of the second, Q; what the parts settle settles the whole.
use Rattle.std.proofs.Common.{◌≡◌, ℕ, ◌+◌, ◌<◌, ◌≤◌, ◌∙◌, Bool, true, false, List, length, get_or}
use Rattle.std.proofs.Common.{refl, sym, ap, arith, subst, inl, inr}
use Rattle.std.proofs.lemmas.Bool.{cases_lt}
use Rattle.std.proofs.lemmas.List.{get_or_default}
use Rattle.std.specs.List.{All}
use Rattle.hv_propagation.specs.Marks.{KeepsKnown}
use Rattle.hv_propagation.specs.Units.{IsConcluded}
use Rattle.hv_propagation.proofs.Marked.{extends_then}

-- no answer is both
pub never : {P : Type 0} → true ≡ false → P
never e = absurd (cc)

-- the same condition by other words
pub conclude_same : (P R : List Bool → Type 0) (S T : List ℕ → Type 0) (m k : List ℕ) (r : Bool)
    → ((state : List Bool) → length state ≡ length m → R state → P state)
    → ((marks : List ℕ) → length marks ≡ length m → S marks → T marks)
    → IsConcluded P S m k r → IsConcluded R T m k r
conclude_same P R S T m k r back on one = record {
  size = one.size;
  grows = one.grows;
  follows = λ state size holds agrees. one.follows state size (back state size holds) agrees;
  broken = λ e state size holds agrees. one.broken e state size (back state size holds) agrees;
  done = λ e. on k one.size (one.done e);
}

module _ (P Q R : List Bool → Type 0) (S T U : List ℕ → Type 0) (m k : List ℕ) where
  -- the first part answered false, and the second wasn't done
  pub conclude_stop : ((state : List Bool) → length state ≡ length m → R state → P state)
      → IsConcluded P S m k false
      → IsConcluded R U m k false
  conclude_stop first one = record {
    size = one.size;
    grows = one.grows;
    follows = λ state size holds agrees. one.follows state size (first state size holds) agrees;
    broken = λ e state size holds agrees. one.broken refl state size (first state size holds)
        agrees;
    done = λ e. never (sym e);
  }

  module _ (n : List ℕ) where
    -- the first part answered true, and then the second was done; what the first part did stays
    -- done when more is marked
    pub conclude_then : (r : Bool)
        → ((state : List Bool) → length state ≡ length m → R state → P state)
        → ((state : List Bool) → length state ≡ length m → R state → Q state)
        → ((old new : List ℕ) → KeepsKnown old new → S old → S new)
        → ((marks : List ℕ) → length marks ≡ length m → S marks → T marks → U marks)
        → IsConcluded P S m k true → IsConcluded Q T k n r → IsConcluded R U m n r
    conclude_then r first second stays both one two = record {
      size = two.size ∙ one.size;
      grows = extends_then m k n one.grows two.grows;
      follows = λ state size holds agrees.
          two.follows state (size ∙ sym one.size) (second state size holds)
          (one.follows state size (first state size holds) agrees);
      broken = λ e state size holds agrees.
          two.broken e state (size ∙ sym one.size) (second state size holds)
          (one.follows state size (first state size holds) agrees);
      done = λ e. both n (two.size ∙ one.size) (stays k n two.grows (one.done refl)) (two.done e);
    }

    -- the first part answered true, and the second false
    pub conclude_broken : ((state : List Bool) → length state ≡ length m → R state → P state)
        → ((state : List Bool) → length state ≡ length m → R state → Q state)
        → IsConcluded P S m k true → IsConcluded Q T k n false → IsConcluded R U m n false
    conclude_broken first second one two = record {
      size = two.size ∙ one.size;
      grows = extends_then m k n one.grows two.grows;
      follows = λ state size holds agrees.
          two.follows state (size ∙ sym one.size) (second state size holds)
          (one.follows state size (first state size holds) agrees);
      broken = λ e state size holds agrees.
          two.broken refl state (size ∙ sym one.size) (second state size holds)
          (one.follows state size (first state size holds) agrees);
      done = λ e. never (sym e);
    }

-- what is true of each element below a place
abbrev pub Upto : {X : Type 0} → (X → Type 0) → List X → ℕ → Type 0
Upto {X} P xs i = (k : ℕ) (d : X) → k < i → P (get_or xs k d)

-- and of the one at it, is true up to the next place
pub upto_more : {X : Type 0} (P : X → Type 0) (xs : List X) (i : ℕ) (x : X) → i < length xs
    → x ≡ get_or xs i x
    → Upto P xs i → P x → Upto P xs (i + 1)
upto_more P xs i x within is before here = λ k d less.
    elim (cases_lt k i) [
      | inl lower ↦ before k d lower
      | inr upto ↦
          let at : k ≡ i = omega arith in
          subst P (is ∙ (get_or_default xs i x d within ∙ ap (λ j. get_or xs j d) (sym at))) here
    ]

-- one that is read with a default
pub read_at : {X : Type 0} (xs : List X) (i : ℕ) (d : X) → i < length xs
    → get_or xs i d ≡ get_or xs i (get_or xs i d)
read_at xs i d within = get_or_default xs i d (get_or xs i d) within

-- a conclusion for each element of a list, one after the other
module _ {X : Type 0} (P : X → List Bool → Type 0) (S : X → List ℕ → Type 0) (xs : List X) (i : ℕ)
    (x : X)
    (within : i < length xs) (is : x ≡ get_or xs i x) where
  at_it : (state : List Bool) → Upto (λ y. P y state) xs (i + 1) → P x state
  at_it state holds = subst (λ y. P y state) (sym is) (holds i x (omega arith))

  among : (state : List Bool) → All (λ y. P y state) xs → P x state
  among state holds = subst (λ y. P y state) (sym is) (holds i x within)

  pub conclude_more : (m k n : List ℕ) → ((old new : List ℕ) (y : X) → KeepsKnown old new → S y old
      → S y new)
      → IsConcluded (λ s. Upto (λ y. P y s) xs i) (λ w. Upto (λ y. S y w) xs i) m k true
      → IsConcluded (P x) (S x) k n true
      → IsConcluded (λ s. Upto (λ y. P y s) xs (i + 1)) (λ w. Upto (λ y. S y w) xs (i + 1)) m n true
  conclude_more m k n stays one two =
      conclude_then (λ s. Upto (λ y. P y s) xs i) (P x) (λ s. Upto (λ y. P y s) xs (i + 1))
      (λ w. Upto (λ y. S y w) xs i) (S x) (λ w. Upto (λ y. S y w) xs (i + 1)) m k n true
      (λ s size holds q d less. holds q d (omega arith)) (λ s size holds. at_it s holds)
      (λ old new grows before q d less. stays old new (get_or xs q d) grows (before q d less))
      (λ w size before here. upto_more (λ y. S y w) xs i x within is before here) one two

  pub conclude_fails : (m k n : List ℕ)
      → IsConcluded (λ s. Upto (λ y. P y s) xs i) (λ w. Upto (λ y. S y w) xs i) m k true
      → IsConcluded (P x) (S x) k n false
      → IsConcluded (λ s. All (λ y. P y s) xs) (λ w. All (λ y. S y w) xs) m n false
  conclude_fails m k n one two =
      conclude_broken (λ s. Upto (λ y. P y s) xs i) (P x) (λ s. All (λ y. P y s) xs)
      (λ w. Upto (λ y. S y w) xs i) (S x) (λ w. All (λ y. S y w) xs) m k n
      (λ s size holds q d less. holds q d (omega arith)) (λ s size holds. among s holds) one two

-- and at the end of the list
module _ {X : Type 0} (P : X → List Bool → Type 0) (S : X → List ℕ → Type 0) (xs : List X) (i : ℕ)
    (upto : i ≤ length xs)
    (end : length xs ≤ i) where
  pub conclude_all : (m k : List ℕ) (r : Bool)
      → IsConcluded (λ s. Upto (λ y. P y s) xs i) (λ w. Upto (λ y. S y w) xs i) m k r
      → IsConcluded (λ s. All (λ y. P y s) xs) (λ w. All (λ y. S y w) xs) m k r
  conclude_all m k r one =
      conclude_same (λ s. Upto (λ y. P y s) xs i) (λ s. All (λ y. P y s) xs)
      (λ w. Upto (λ y. S y w) xs i)
      (λ w. All (λ y. S y w) xs) m k r
      (λ s size holds q d less. holds q d (omega arith))
      (λ w size all q d less. all q d (omega arith)) one
