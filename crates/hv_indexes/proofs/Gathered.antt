-- Codes that are put together clause by clause.
use Rattle.std.proofs.Common.{◌≡◌, ℕ, ◌+◌, ◌<◌, ◌≤◌, ◌∙◌, ◌↔◌, ◌⊎◌, Bool, List, [], ◌∷◌}
use Rattle.std.proofs.Common.{◌++◌, length, get_or, map, take, sym, ap, subst, arith, inl, inr}
use Rattle.std.proofs.lemmas.Bool.{cases_lt}
use Rattle.std.proofs.lemmas.List.{take_more}
use Rattle.std.proofs.lemmas.List.Elements.{Contains-append_left, Contains-get_or, Contains-push}
use Rattle.std.proofs.lemmas.List.Elements.{Contains-push_cases}
use Rattle.std.specs.List.{Contains}
use Rattle.hv_sets.specs.declared.literal.Literal.{Literal}
use Rattle.std.specs.List.Sorted.{IsStrictlyIncreasing}
use Rattle.hv_indexes.specs.Working.Signed.{IsSignedCode}
use Rattle.hv_indexes.specs.Signed.{StandsAs}
use Rattle.hv_indexes.specs.Rows.{AreCoded, code, place_of_code}
use Rattle.hv_indexes.specs.Working.Rows.{ListsCodes, PutsCodes}

-- the codes of one item more
pub lists_more : (Of : ℕ → ℕ → Type 0) (k : ℕ) (codes new : List ℕ) → ListsCodes Of k codes
    → PutsCodes (Of k) codes new
    → ListsCodes Of (k + 1) new
lists_more Of k codes new lists puts c = (
  λ has. elim ((puts c).0 has) [
    | inl old ↦ let found = (lists c).0 old in (found.0, omega (arith, found.1), found.2)
    | inr of ↦ (k, omega arith, of)
  ],
  λ found. (puts c).1
      (elim (cases_lt found.0 k) [
        | inl less ↦ inl ((lists c).1 (found.0, less, found.2))
        | inr more ↦ let same : found.0 ≡ k = omega (arith, found.1) in
            inr (subst (λ j. Of j c) same found.2)
      ]),
)

-- some codes and then some more
pub puts_both : (First Second Both : ℕ → Type 0) (old middle new : List ℕ)
    → PutsCodes First old middle → PutsCodes Second middle new
    → ((c : ℕ) → Both c ↔ (First c ⊎ Second c)) → PutsCodes Both old new
puts_both First Second Both old middle new first second both c = (
  λ has. elim ((second c).0 has) [
    | inl before ↦ elim ((first c).0 before)
        [ inl was ↦ inl was | inr is ↦ inr ((both c).1 (inl is)) ]
    | inr is ↦ inr ((both c).1 (inr is))
  ],
  λ parts. elim parts [
    | inl was ↦ (second c).1 (inl ((first c).1 (inl was)))
    | inr is ↦ elim ((both c).0 is) [
      | inl one ↦ (second c).1 (inl ((first c).1 (inr one)))
      | inr two
          ↦ (second c).1 (inr two)
    ]
  ],
)

-- the codes of one literal more
pub signed_more : (sign : Bool) (clause : List Literal) (i number : ℕ) (literal : Literal)
    → i < length clause
    → literal ≡ get_or clause i literal → (c : ℕ)
    → IsSignedCode sign (take (i + 1) clause) number c
    ↔ (IsSignedCode sign (take i clause) number c
    ⊎ ((literal.positive ≡ sign) × (c ≡ code literal.atom number)))
signed_more sign clause i number literal within is c = (
  λ n. elim (Contains-push_cases (take i clause) literal (record { atom = n.0; positive = sign })
      (subst (λ (ls : List Literal). Contains ls (record { atom = n.0; positive = sign })) front
      n.1)) [
        | inl old ↦ inl (n.0, old, n.2)
        | inr same ↦ inr (
          ap (λ (l : Literal). l.positive) same,
          n.2
              ∙ ap (λ (l : Literal). code l.atom number) (sym same),
        )
      ],
  λ parts. elim parts [
    | inl n ↦ (
      n.0,
      subst (λ (ls : List Literal). Contains ls (record { atom = n.0; positive = sign }))
          (sym front)
          (Contains-append_left (take i clause) (literal ∷ [])
          (record { atom = n.0; positive = sign }) n.1),
      n.2,
    )
    | inr n ↦
        let shape : literal ≡ record { atom = literal.atom; positive = sign } = ap
        (λ (b : Bool). record { atom = literal.atom; positive = b }) n.0 in (
          literal.atom,
          subst (λ (ls : List Literal). Contains ls
              (record { atom = literal.atom; positive = sign })) (sym front)
              (subst (Contains (take i clause ++ literal ∷ [])) shape
              (Contains-push (take i clause) literal)),
          n.1,
        )
  ],
)
  where
    front : take (i + 1) clause ≡ take i clause ++ literal ∷ []
    front = take_more clause i literal within
        ∙ ap (λ (l : Literal). take i clause ++ l ∷ []) (sym is)

-- all codes, in order
pub signed_coded : (sign : Bool) (clauses : List (List Literal)) (listed sorted numbers : List ℕ)
    → length clauses ≤ 4294967296
    → ListsCodes (λ k. IsSignedCode sign (get_or clauses k []) k) (length clauses) listed
    → IsStrictlyIncreasing sorted → ((c : ℕ) → Contains sorted c ↔ Contains listed c)
    → numbers ≡ map place_of_code sorted → AreCoded (StandsAs sign clauses) sorted numbers
signed_coded sign clauses listed sorted numbers few lists rises has are = record {
  rises = rises;
  has = λ c. (
    λ there.
        let found = (lists c).0 ((has c).0 there) in (
          found.2.0,
          found.0,
          found.2.2,
          omega (arith, found.1),
          record
              { among = found.1; has = found.2.1 },
        ),
    λ pair. (has c).1 ((lists c).1 (pair.1, pair.4.among, (pair.0, pair.4.has, pair.2))),
  );
  small = λ key number pair. let among = pair.among in omega arith;
  numbers_are = are;
}

-- the clause of each code is among the clauses
pub signed_inside : (sign : Bool) (clauses : List (List Literal)) (listed sorted : List ℕ)
    → length clauses ≤ 4294967296
    → ListsCodes (λ k. IsSignedCode sign (get_or clauses k []) k) (length clauses) listed
    → ((c : ℕ) → Contains sorted c ↔ Contains listed c)
    → (k : ℕ) → k < length sorted → place_of_code (get_or sorted k 0) < length clauses
signed_inside sign clauses listed sorted few lists has k less =
    let found = (lists (get_or sorted k 0)).0
    ((has (get_or sorted k 0)).0 (Contains-get_or sorted k 0 less)) in
    let is : get_or sorted k 0 ≡ code found.2.0 found.0 = found.2.2 in
    let within : found.0 < length clauses = found.1 in
    omega arith
