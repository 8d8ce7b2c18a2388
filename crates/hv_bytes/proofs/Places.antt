-- The first of all places of a byte is what a search for one place gives.
use Rattle.std.proofs.Common.{◌≡◌, ℕ, zero, suc, ◌+◌, ◌∙◌, Bool, false, List}
use Rattle.std.proofs.Common.{Option, Some, None, length, slice_index, arith, refl, sym, ap, subst}
use Rattle.std.proofs.Common.{⊎_elim}
use Rattle.std.proofs.lemmas.Bool.{cases_Bool, cases_eq, false≢true}
use Rattle.memchr.specs.Find.{IsFirst, IsFirstByte, Passes, TakesFirst, places}
use Rattle.memchr.proofs.lemmas.PlaceLemmas.{places_between-first, places_between-none}

module _ (test : ℕ → Bool) (hay : List ℕ) where
  -- a search from the next place goes on with one that doesn't pass
  found_later : (i n : ℕ) → test (slice_index hay i) ≡ false → (r : Option ℕ)
      → IsFirst (Passes test hay) (i + 1) (i + 1 + n) r
      → IsFirst (Passes test hay) i (i + suc n) r
  found_later i n misses None nowhere = λ k low high passes.
      ⊎_elim
      (λ e. absurd (false≢true (sym misses ∙ subst (Passes test hay) e passes)))
      (λ ne. nowhere k (omega arith) (omega arith) passes)
      (cases_eq k i)
  found_later i n misses (Some place) first = (
    record {
      low = omega (arith, first.0.low);
      high = omega (arith, first.0.high);
      before = λ k low high passes.
          ⊎_elim
          (λ e. absurd (false≢true (sym misses ∙ subst (Passes test hay) e passes)))
          (λ ne. first.0.before k (omega arith) high passes)
          (cases_eq k i);
    },
    first.1,
  )

  -- there is a first place, or none
  found_first : (i n : ℕ) → (r : Option ℕ) × IsFirst (Passes test hay) i (i + n) r
  found_first i zero = (None, λ k low high passes. absurd (omega arith))
  found_first i (suc n) =
      ⊎_elim
      (λ yes. (
        Some i,
        (
          record {
            low = omega arith;
            high = omega arith;
            before = λ k low high passes. absurd (omega arith);
          },
          yes,
        ),
      ))
      (λ misses.
      let later = found_first (i + 1) n in
      (later.0, found_later i n misses later.0 later.1))
      (cases_Bool (test (slice_index hay i)))

  -- it is what is taken first
  taken : (q : Option ℕ) → IsFirstByte test hay q → (r : Option ℕ) (rest : List ℕ)
      → TakesFirst (places test hay) r rest → q ≡ r
  taken None first None rest takes = refl
  taken None first (Some x) rest takes =
      let none = places_between-none test hay 0 (length hay) (omega arith) first in cc
  taken (Some k) first None rest takes =
      let some = places_between-first test hay 0 (length hay) k first.0 first.1 in
      let misses = takes.0 in cc
  taken (Some k) first (Some x) rest takes =
      let some = places_between-first test hay 0 (length hay) k first.0 first.1 in
      let same : k ≡ x = cc in ap Some same

  pub first_place : (r : Option ℕ) (rest : List ℕ) → TakesFirst (places test hay) r rest
      → IsFirstByte test hay r
  first_place r rest takes =
      let found = found_first 0 (length hay) in
      let end : 0 + length hay ≡ length hay = omega arith in
      let first = subst (λ j. IsFirst (Passes test hay) 0 j found.0) end found.1 in
      subst (IsFirstByte test hay) (taken found.0 first r rest takes) first
