-- The place of the newest file of a name.
use Rattle.std.proofs.Common.{◌≡◌, ℕ, suc, ◌+◌, ◌<◌, ◌≤◌, ◌↔◌, Bool, true, false, not, cond, List}
use Rattle.std.proofs.Common.{[], ◌∷◌, None, Some, length, nat_lt, unwrap_or, IsSome, refl, sym, ap}
use Rattle.std.proofs.Common.{◌∙◌, arith}
use Rattle.std.specs.Option.{is_some, option_map}
use Rattle.std.specs.List.{find, position, position_or_len}
use Rattle.std.proofs.lemmas.Bool.Decides.{nat_tests}
use Rattle.std.proofs.lemmas.List.Folds.{find_at}
use Rattle.std.proofs.lemmas.List.Sums.{prefix_len-le-length}
use Rattle.hv_bytes.specs.Files.{File, bytes_of, held_of}
use Rattle.hv_bytes.specs.Working.Files.{bytes_at}
use Rattle.std.specs.Str.{bytes_eq}

-- the first place that passes, or the length: the answer of a search with the length in place of
-- none
first_place : (b : Bool) (m n : ℕ) → b ≡ nat_lt m n → m ≤ n → unwrap_or (cond b (Some m) None) n ≡ m
first_place true m n e h = refl
first_place false m n e h = grind (arith, nat_tests)

module _ {X : Type 0} (p : X → Bool) where
  pub position_or_len-le : (xs : List X) → position_or_len p xs ≤ length xs
  position_or_len-le xs = prefix_len-le-length _ xs

  pub unwrap_or-position : (xs : List X) → unwrap_or (position p xs) (length xs)
      ≡ position_or_len p xs
  unwrap_or-position xs = first_place _ (position_or_len p xs) (length xs) refl
      (position_or_len-le xs)

  step : {Y : Type 0} (f : X → Y) (x : X) (xs : List X) (b : Bool)
      → is_some (option_map f (find p xs)) ≡ nat_lt (position_or_len p xs) (length xs)
      → is_some (option_map f (cond b (Some x) (find p xs)))
      ≡ nat_lt (cond (not b) (1 + position_or_len p xs) 0) (suc (length xs))
  step f x xs true e = grind (arith, nat_tests)
  step f x xs false e = grind (arith, nat_tests)

  -- some element passes exactly where the first place that passes is below the length
  pub is_some-find : {Y : Type 0} (f : X → Y) (xs : List X)
      → is_some (option_map f (find p xs)) ≡ nat_lt (position_or_len p xs) (length xs)
  is_some-find f [] = refl
  is_some-find f (x ∷ xs) = step f x xs (p x) (is_some-find f xs)

module _ (files : List File) (name : List ℕ) (place : ℕ)
    (at : place ≡ unwrap_or (position (λ file. bytes_eq file.name name) files) (length files)) where
  pub place_is : place ≡ position_or_len (λ file. bytes_eq file.name name) files
  place_is = at ∙ unwrap_or-position (λ file. bytes_eq file.name name) files

  pub place-le : place ≤ length files
  place-le = rw place_is (position_or_len-le (λ file. bytes_eq file.name name) files)

  pub place_holds : (place < length files) ↔ IsSome (held_of files name)
  place_holds =
      let test : is_some (held_of files name)
      ≡ nat_lt place (length files) = rw place_is
      (is_some-find (λ file. bytes_eq file.name name) (λ file. file.bytes) files) in
      grind (arith, nat_tests)

  pub bytes_at-place : bytes_at files place ≡ bytes_of (held_of files) name
  bytes_at-place =
      rw place_is (ap (λ o. unwrap_or (option_map (λ (file : File). file.bytes) o) [])
      (sym (find_at (λ file. bytes_eq file.name name) files)))
