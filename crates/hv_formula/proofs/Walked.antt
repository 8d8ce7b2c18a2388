-- The walk over the clauses of a formula.
use Rattle.std.proofs.Common.{◌≡◌, ◌∙◌, ◌+◌, ◌<◌, ◌++◌, ◌&&◌, ◌||◌, ℕ, zero, suc, Bool, true}
use Rattle.std.proofs.Common.{false, not, eqb, List, [], ◌∷◌, length, take, get_or}
use Rattle.std.proofs.Common.{refl, sym, ap, ap₂, arith, subst}
use Rattle.std.proofs.lemmas.List.{get_or-map, length-map}
use Rattle.std.proofs.lemmas.List.Elements.{Contains-get_or}
use Rattle.std.proofs.lemmas.Bool.{and_parts}
use Rattle.std.proofs.lemmas.Bool.Decides.{Decides-eqb}
use Rattle.std.proofs.Math.Bool.{beq}
use Rattle.std.specs.List.{Contains}
use Rattle.hv_sets.specs.declared.literal.Literal.{Literal}
use Rattle.hv_sets.specs.Cubes.{SpeakBelow}
use Rattle.hv_sets.specs.Truth.{in_clause, in_cube, in_literal}
use Rattle.hv_indexes.proofs.Truths.{opposite_is}
use Rattle.hv_indexes.specs.Orders.{OrdersUpto, place_in}
use Rattle.hv_formula.specs.Walked.{opposed}
use Rattle.hv_formula.specs.Working.Walked.{denial_for, denied_along}

pub opposed_is : (clause : List Literal) (s : List Bool) → in_cube (opposed clause) s ≡ not
    (in_clause clause s)
opposed_is [] s = refl
opposed_is (l ∷ ls) s = ap₂ (λ a b. a && b) (opposite_is l s) (opposed_is ls s)
    ∙ by (in_literal l s) (in_clause ls s)
  where
    by : (a b : Bool) → (not a && not b) ≡ not (a || b)
    by true b = refl
    by false b = refl

-- the cube of a clause is one in any order of its literals
module _ (clause : List Literal) (s : List Bool) where
  abbrev none : Literal
  none = record { atom = 0; positive = false }

  some_true : (ls : List Literal) → in_clause ls s ≡ true
      → (p : ℕ) × (p < length ls) × (in_literal (get_or ls p none) s ≡ true)
  some_true [] h = let f : false ≡ true = h in absurd cc
  some_true (l ∷ ls) h = by (in_literal l s) refl (λ e. some_true ls e)
    where
      by : (b : Bool) → in_literal l s ≡ b
          → (in_clause ls s ≡ true
          → (p : ℕ) × (p < length ls) × (in_literal (get_or ls p none) s ≡ true))
          → (p : ℕ) × (p < length (l ∷ ls)) × (in_literal (get_or (l ∷ ls) p none) s ≡ true)
      by true e rec = (0, omega arith, e)
      by false e rec =
          let w = rec (sym (ap (λ b. b || in_clause ls s) e) ∙ h) in
          (suc (w.0), omega (arith, w.1), w.2)

  neither : (a b : Bool) → (a || b) ≡ false → (a ≡ false) × (b ≡ false)
  neither false b e = (refl, e)
  neither true b e = let f : true ≡ false = e in absurd cc

  each_false : (ls : List Literal) (p : ℕ) → p < length ls → in_clause ls s ≡ false
      → in_literal (get_or ls p none) s ≡ false
  each_false [] p less h = absurd (omega (arith, less))
  each_false (l ∷ ls) zero less h = (neither (in_literal l s) (in_clause ls s) h).0
  each_false (l ∷ ls) (suc p) less h =
      each_false ls p (omega (arith, less)) ((neither (in_literal l s) (in_clause ls s) h).1)

  all_denied : (codes : List ℕ)
      → ((c : ℕ) → Contains codes c → in_literal (denial_for clause c) s ≡ true)
      → in_cube (denied_along clause codes) s ≡ true
  all_denied [] all = refl
  all_denied (c ∷ cs) all = ap₂ (λ a b. a && b) (all c (0, omega arith, refl))
      (all_denied cs (λ d has. all d (suc (has.0), omega (arith, has.1), has.2)))

  one_denied : (codes : List ℕ) (c : ℕ) → Contains codes c
      → in_literal (denial_for clause c) s ≡ false → in_cube (denied_along clause codes) s ≡ false
  one_denied [] c has out = absurd (omega (arith, has.1))
  one_denied (x ∷ cs) c (zero, less, at) out =
      ap (λ b. b && in_cube (denied_along clause cs) s)
      (ap (λ d. in_literal (denial_for clause d) s) at ∙ out)
  one_denied (x ∷ cs) c (suc k, less, at) out =
      by (in_literal (denial_for clause x) s) (in_cube (denied_along clause cs) s)
      (one_denied cs c (k, omega (arith, less), at) out)
    where
      by : (a b : Bool) → b ≡ false → (a && b) ≡ false
      by true b e = e
      by false b e = refl

  pub denied_along_is : (codes : List ℕ) → OrdersUpto (length clause) codes
      → in_cube (denied_along clause codes) s ≡ in_cube (opposed clause) s
  denied_along_is codes is = by (in_clause clause s) refl ∙ sym (opposed_is clause s)
    where
      by : (b : Bool) → in_clause clause s ≡ b
          → in_cube (denied_along clause codes) s ≡ not (in_clause clause s)
      by true e =
          let w = some_true clause e in
          let c = is.each (w.0) (w.1) in
          one_denied codes (c.0) (c.1)
          (opposite_is (get_or clause (place_in (c.0)) none) s
          ∙ ap not (ap (λ p. in_literal (get_or clause p none) s) (c.2) ∙ w.2))
          ∙ ap not (sym e)
      by false e =
          all_denied codes (λ c has.
          opposite_is (get_or clause (place_in c) none) s
          ∙ ap not (each_false clause (place_in c) (is.only c has) e))
          ∙ ap not (sym e)

take_suc : (k : ℕ) (xs : List Literal) (d : Literal) → k < length xs
    → take (suc k) xs ≡ take k xs ++ get_or xs k d ∷ []
take_suc k [] d less = absurd (omega (arith, less))
take_suc zero (x ∷ xs) d less = refl
take_suc (suc k) (x ∷ xs) d less = ap (λ ys. x ∷ ys) (take_suc k xs d (omega (arith, less)))

take_next : (k : ℕ) (xs : List Literal) (d : Literal) → k < length xs
    → take (k + 1) xs ≡ take k xs ++ get_or xs k d ∷ []
take_next k xs d less =
    let e : suc k ≡ k + 1 = omega arith in
    subst (λ n. take n xs ≡ take k xs ++ get_or xs k d ∷ []) e (take_suc k xs d less)

-- one more literal is put
pub take_denied : (clause : List Literal) (codes : List ℕ) (k : ℕ) → k < length codes
    → take k (denied_along clause codes) ++ denial_for clause (get_or codes k 0) ∷ []
    ≡ take (k + 1) (denied_along clause codes)
take_denied clause codes k less =
    let d : Literal = record { atom = 0; positive = false } in
    ap (λ x. take k (denied_along clause codes) ++ x ∷ [])
    (sym (get_or-map (denial_for clause) codes k 0 d less))
    ∙ sym (take_next k (denied_along clause codes) d
    (omega (arith, less, length-map codes (denial_for clause))))

-- one more literal is the same
pub front_more : (path clause : List Literal) (codes : List ℕ) (k : ℕ) (d : Literal)
    → k < length path → k < length codes → take k path ≡ take k (denied_along clause codes)
    → get_or path k d ≡ denial_for clause (get_or codes k 0)
    → take (k + 1) path ≡ take (k + 1) (denied_along clause codes)
front_more path clause codes k d less few same here =
    take_next k path d less
    ∙ (ap₂ (λ xs x. xs ++ x ∷ []) same here ∙ take_denied clause codes k few)

pub denied_below : (n : ℕ) (clause : List Literal) (codes : List ℕ) → SpeakBelow n clause
    → OrdersUpto (length clause) codes → SpeakBelow n (denied_along clause codes)
denied_below n clause codes below is k d less =
    let size = length-map codes (denial_for clause) in
    let early : k < length codes = omega (arith, less, size) in
    subst (λ l. l.atom < n) (sym (get_or-map (denial_for clause) codes k 0 d early))
    (below (place_in (get_or codes k 0)) (record { atom = 0; positive = false })
    (is.only (get_or codes k 0) (Contains-get_or codes k 0 early)))

pub size_denied : (clause : List Literal) (codes : List ℕ)
    → length (denied_along clause codes) ≡ length codes
size_denied clause codes = length-map codes (denial_for clause)

pub literal_same : (x y : Literal) → false ≡ not (eqb x.atom y.atom && beq x.positive y.positive)
    → x ≡ y
literal_same x y h =
    let parts = and_parts (eqb x.atom y.atom) (beq x.positive y.positive) (by
    (eqb x.atom y.atom && beq x.positive y.positive) h) in
    ap₂ (λ (a : ℕ) (b : Bool). let r : Literal = record { atom = a; positive = b } in r)
    ((Decides-eqb x.atom y.atom).0 (parts.0))
    (sign x.positive y.positive (parts.1))
  where
    by : (b : Bool) → false ≡ not b → b ≡ true
    by true e = refl
    by false e = e

    sign : (a b : Bool) → beq a b ≡ true → a ≡ b
    sign true true e = refl
    sign false false e = refl
    sign true false e = let f : false ≡ true = e in absurd cc
    sign false true e = let f : false ≡ true = e in absurd cc
