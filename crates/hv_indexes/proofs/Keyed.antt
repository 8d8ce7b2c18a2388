-- Rows of numbers by key: why the numbers between two heads are those of a key.
use Rattle.std.proofs.Common.{◌≡◌, ℕ, ◌+◌, ◌-◌, ◌<◌, ◌≤◌, ◌∙◌, List, inl, inr, length, get_or, refl}
use Rattle.std.proofs.Common.{sym, ap, subst, arith}
use Rattle.std.proofs.lemmas.Bool.{cases_lt}
use Rattle.std.proofs.lemmas.List.{get_or_default, get_or-map, length-map}
use Rattle.std.proofs.lemmas.List.Edits.{get_or-between, length-between}
use Rattle.std.proofs.lemmas.List.Elements.{Contains-get_or}
use Rattle.std.specs.List.{Contains}
use Rattle.std.specs.List.Sorted.{IsNonDecreasingBy, IsStrictlyIncreasing}
use Rattle.std.specs.Prelude.{slice_range}
use Rattle.hv_task.proofs.Rising.{rises_apart}
use Rattle.hv_indexes.specs.Rows.{IsRow, AreCoded, AreHeads, HasHeads, IsEndBefore, IsPartOf, code}
use Rattle.hv_indexes.specs.Rows.{key_of, place_of_code}
use Rattle.hv_indexes.specs.Working.Rows.{IsFirstHead}
use Rattle.hv_indexes.specs.declared.rows.RowHead.{RowHead}

-- the two parts of a code
pub key_of-code : (key number : ℕ) → number < 4294967296 → key_of (code key number) ≡ key
key_of-code key number small = omega arith

pub number_of-code : (key number : ℕ) → number < 4294967296
    → place_of_code (code key number) ≡ number
number_of-code key number small = omega arith

pub code_is : (c : ℕ) → c ≡ code (key_of c) (place_of_code c)
code_is c = omega arith

key_upto : (a b : ℕ) → a ≤ b → key_of a ≤ key_of b
key_upto a b upto = omega arith

number_less : (a b : ℕ) → a < b → key_of a ≡ key_of b → place_of_code a < place_of_code b
number_less a b less same = omega arith

-- rising codes have keys that don't fall
pub keys_upto : (codes : List ℕ) → IsStrictlyIncreasing codes → IsNonDecreasingBy key_of codes
keys_upto codes rises i j d upto within = elim (cases_lt i j) [
  | inl less ↦
      let apart = rises_apart codes i j rises less within in
      let first = get_or_default codes i d 0 (omega arith) in
      let second = get_or_default codes j d 0 within in
      key_upto (get_or codes i d) (get_or codes j d) (omega arith)
  | inr same ↦
      let one : i ≡ j = omega arith in
      key_upto (get_or codes i d) (get_or codes j d)
      (let e = ap (λ k. get_or codes k d) one in omega arith)
]

-- the codes of a key end where or after they start
pub starts_upto : (codes : List ℕ) (key from upto : ℕ) → IsEndBefore key codes from
    → IsEndBefore (key + 1) codes upto → from ≤ upto
starts_upto codes key from upto starts ends = elim (cases_lt upto from) [
  | inl less ↦
      let before = starts.before upto less in
      let after = ends.after upto (omega arith) (let w = starts.within in omega arith) in
      absurd (omega arith)
  | inr more ↦ more
]

module _ (Pair : ℕ → ℕ → Type 0) (codes numbers : List ℕ) (rows : AreCoded Pair codes numbers)
    (key from upto : ℕ)
    (starts : IsEndBefore key codes from) (ends : IsEndBefore (key + 1) codes upto) where
  size : length numbers ≡ length codes
  size = ap length rows.numbers_are ∙ length-map codes place_of_code

  pub row_ends : upto ≤ length numbers
  row_ends = let e = size in let w = ends.within in omega arith

  row_size : length (slice_range numbers from upto) ≡ upto - from
  row_size = length-between numbers from upto row_ends

  -- the key and the number of the code at a place of the row
  pub key_at : (k : ℕ) → k < upto - from → key_of (get_or codes (from + k) 0) ≡ key
  key_at k less =
      let low = starts.after (from + k) (omega arith) (let w = ends.within in omega arith) in
      let high = ends.before (from + k) (omega arith) in
      omega arith

  pub number_at : (k : ℕ) (d : ℕ) → k < upto - from
      → get_or (slice_range numbers from upto) k d ≡ place_of_code (get_or codes (from + k) 0)
  number_at k d less =
      get_or-between numbers from upto k d (omega arith)
      ∙ ap (λ xs. get_or xs (from + k) d) rows.numbers_are
      ∙ get_or-map place_of_code codes (from + k) 0 d (let w = ends.within in omega arith)

  row_rises : IsStrictlyIncreasing (slice_range numbers from upto)
  row_rises k less =
      let e = row_size in
      let w = ends.within in
      let next : from + (k + 1) ≡ from + k + 1 = omega arith in
      let here = number_at k 0 (omega arith) in
      let there = number_at (k + 1) 0 (omega arith) in
      let keys : key_of (get_or codes (from + k) 0) ≡ key_of (get_or codes (from + (k + 1)) 0) =
      key_at k (omega arith) ∙ sym (key_at (k + 1) (omega arith)) in
      let rise : get_or codes (from + k) 0 < get_or codes (from + (k + 1)) 0 =
      rises_apart codes (from + k) (from + (k + 1)) rows.rises (omega arith) (omega arith) in
      let numbers_rise = number_less (get_or codes (from + k) 0) (get_or codes (from + (k + 1)) 0)
      rise keys in
      omega arith

  row_only : (number : ℕ) → Contains (slice_range numbers from upto) number → Pair key number
  row_only number c =
      let e = row_size in
      let w = ends.within in
      let less : c.0 < upto - from = omega (arith, c.1) in
      let x = get_or codes (from + c.0) 0 in
      let found = (rows.has x).0 (Contains-get_or codes (from + c.0) 0 (omega arith)) in
      let number_is : found.1 ≡ number =
      sym (number_of-code found.0 found.1 found.3)
      ∙ (ap place_of_code (sym found.2) ∙ (sym (number_at c.0 number less) ∙ c.2)) in
      let key_is : found.0 ≡ key = sym (key_of-code found.0 found.1 found.3)
      ∙ (ap key_of (sym found.2) ∙ key_at c.0 less) in
      subst (λ n. Pair key n) number_is (subst (λ k. Pair k found.1) key_is found.4)

  row_all : (number : ℕ) → Pair key number → Contains (slice_range numbers from upto) number
  row_all number pair =
      let small = rows.small key number pair in
      let c = (rows.has (code key number)).1 (key, number, refl, small, pair) in
      let e = row_size in
      let w = ends.within in
      let is : get_or codes c.0 0 ≡ code key number = get_or_default codes c.0 0 (code key number)
      c.1 ∙ c.2 in
      let key_is : key_of (get_or codes c.0 0) ≡ key = ap key_of is
      ∙ key_of-code key number small in
      let low : from ≤ c.0 = elim (cases_lt c.0 from) [
        | inl less ↦ let before = starts.before c.0 less in absurd (omega arith)
        | inr more ↦ more
      ] in
      let high : c.0 < upto = elim (cases_lt c.0 upto) [
        | inl less ↦ less
        | inr more ↦ let after = ends.after c.0 more c.1 in absurd (omega arith)
      ] in
      let place : from + (c.0 - from) ≡ c.0 = omega arith in
      let less : c.0 - from < upto - from = omega arith in (
        c.0 - from,
        omega arith,
        number_at (c.0 - from) number less
            ∙ ap (λ k. place_of_code (get_or codes k 0)) place
            ∙ ap place_of_code is
            ∙ number_of-code key number small,
      )

  pub row_is : IsRow Pair key (slice_range numbers from upto)
  row_is = record { rises = row_rises; has = λ number. (row_only number, row_all number) }

-- the part that code hands out is the row
pub row_from : (Pair : ℕ → ℕ → Type 0) (codes numbers : List ℕ) (key : ℕ) (part : List ℕ)
    → AreCoded Pair codes numbers → IsPartOf key codes numbers part → IsRow Pair key part
row_from Pair codes numbers key part rows is =
    subst (IsRow Pair key) (sym is.4) (row_is Pair codes numbers rows key is.0 is.1 is.2 is.3)

-- there are as many numbers as codes
pub coded_size : (Pair : ℕ → ℕ → Type 0) (codes numbers : List ℕ) → AreCoded Pair codes numbers
    → length codes ≡ length numbers
coded_size Pair codes numbers rows = sym
    (ap length rows.numbers_are ∙ length-map codes place_of_code)

-- where a head is of a greater key, so are those after it
pub more_after : (heads : List RowHead) (key place : ℕ) (e : RowHead)
    → IsNonDecreasingBy (λ h. h.key) heads → place < length heads → key < (get_or heads place e).key
    → (k : ℕ) (d : RowHead) → place ≤ k → k < length heads → key + 1 ≤ (get_or heads k d).key
more_after heads key place e rises less more k d late within =
    let order = rises place k d late within in
    let same = ap (λ (h : RowHead). h.key) (get_or_default heads place d e less) in
    omega arith

-- The head at a place is of the key, and those before it are of lesser ones.
pub first_here : (heads : List RowHead) (key place : ℕ) (e : RowHead)
    → IsNonDecreasingBy (λ h. h.key) heads → place < length heads → (get_or heads place e).key ≡ key
    → ((k : ℕ) (d : RowHead) → k < place → (get_or heads k d).key < key)
    → IsFirstHead key heads place
first_here heads key place e rises less is before =
    record {
      within = omega arith;
      before = before;
      after = λ k d late within.
          let order = rises place k d late within in
          let same = ap (λ (h : RowHead). h.key) (get_or_default heads place d e less) in
          omega arith;
    }

-- The head before a place is of a lesser key.
pub less_before : (heads : List RowHead) (key place : ℕ) (e : RowHead)
    → IsNonDecreasingBy (λ h. h.key) heads → place < length heads
    → (get_or heads place e).key < key
    → (k : ℕ) (d : RowHead) → k < place + 1 → (get_or heads k d).key < key
less_before heads key place e rises less lesser k d below =
    let order = rises k place d (omega arith) less in
    let same = ap (λ (h : RowHead). h.key) (get_or_default heads place d e less) in
    omega arith

-- The numbers of a key end where or after they begin, and within the list.
module _ (heads : List RowHead) (len key from upto : ℕ)
    (starts : (codes : List ℕ) → AreHeads codes heads → length codes ≡ len
    → IsEndBefore key codes from)
    (ends : (codes : List ℕ) → AreHeads codes heads → length codes ≡ len
    → IsEndBefore (key + 1) codes upto) where
  pub headed_upto : HasHeads heads len → from ≤ upto
  headed_upto (codes, are, size) =
      starts_upto codes key from upto (starts codes are size) (ends codes are size)

  pub headed_ends : HasHeads heads len → upto ≤ len
  headed_ends (codes, are, size) =
      let within = (ends codes are size).within in omega (arith, within, size)

-- Heads among which so many are of lesser keys.
module _ (codes : List ℕ) (heads : List RowHead) (are : AreHeads codes heads) (key place : ℕ)
    (first : IsFirstHead key heads place) where
  none : RowHead
  none = record { key = 0; start = 0 }

  -- the next one begins where the codes of this key and greater ones do
  pub begins_at : (d : RowHead) → place < length heads
      → IsEndBefore key codes (get_or heads place d).start
  begins_at d less =
      let own = are.each place d less in
      record {
        within = own.within;
        before = λ k early.
            let low = own.before k early in
            let within = own.within in
            let found = are.all k (omega arith) in
            let same = found.2 d in
            elim (cases_lt found.0 place) [
              | inl early ↦ let lower = first.before found.0 d early in omega arith
              | inr later ↦
                  let upto = are.rises place found.0 d later found.1 in
                  absurd (omega arith)
            ];
        after = λ k late within.
            let high = own.after k late within in
            let upto = first.after place d (omega arith) less in
            omega arith;
      }

  -- where there is none, all codes are of lesser keys
  pub begins_past : length heads ≤ place → IsEndBefore key codes (length codes)
  begins_past past = record {
    within = omega arith;
    before = λ k less.
        let found = are.all k less in
        let same = found.2 none in
        let within : found.0 < length heads = found.1 in
        let lower = first.before found.0 none (omega arith) in
        omega arith;
    after = λ k late within. absurd (omega arith);
  }
