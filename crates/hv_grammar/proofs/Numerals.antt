-- The number that bytes spell, as a function and as a relation.
use Rattle.std.proofs.Common.{◌≡◌, ◌&&◌, ◌++◌, ◌∷◌, [], ℕ, ◌^◌, Bool, true, false, List, Option}
use Rattle.std.proofs.Common.{None, Some, nat_eq, IfSome, IfNone, refl, sym, ap, subst, ◌∙◌, arith}
use Rattle.std.proofs.Common.{cond, decimal, nat_lt}
use Rattle.std.proofs.lemmas.Fmt.{decimal_is_IsNumeral}
use Rattle.std.proofs.lemmas.Bool.{lt-ltb, ltb-true, cond-true}
use Rattle.std.proofs.lemmas.Slice.Eq.{bytes_eq-Decides}
use Rattle.std.specs.Str.{bytes_eq}
use Rattle.std.specs.Str.Parse.{digits_value}
use Rattle.std.proofs.lemmas.Bool.Decides.{Decides-eqb}
use Rattle.std.specs.Prelude.{option_and_then}
use Rattle.hv_bytes.specs.Decimals.{IsDecimal, IsShortDecimal}
use Rattle.hv_grammar.specs.Forms.{decimal_of, rest_behind, short_decimal_of}

same_bytes : (xs : List ℕ) → bytes_eq xs xs ≡ true
same_bytes xs = (bytes_eq-Decides xs xs).1 refl

pub decimal_of_is : (bytes : List ℕ) (n : ℕ) → IsDecimal bytes n → decimal_of bytes ≡ Some n
decimal_of_is bytes n is =
    let short = is.short in
    let value : digits_value 10 bytes ≡ n =
    ap (digits_value 10) is.spelled ∙ (decimal_is_IsNumeral n (omega arith)).1 in
    rw value (rw (sym is.spelled) (rw (same_bytes bytes) (rw (lt-ltb n (10 ^ 18) short) refl)))

both : (same short : Bool) (v n : ℕ)
    → ◌≡◌ {A = Option ℕ} (cond (same && short) (Some v) None) (Some n)
    → (same ≡ true) × (short ≡ true) × (v ≡ n)
both true true v n e = (refl, refl, cc)
both true false v n e = absurd cc
both false short v n e = absurd cc

pub is_decimal_of : (bytes : List ℕ) (n : ℕ) → decimal_of bytes ≡ Some n → IsDecimal bytes n
is_decimal_of bytes n e =
    let v = digits_value 10 bytes in
    let w = both (bytes_eq bytes (decimal v)) (nat_lt v (10 ^ 18)) v n e in
    subst (λ m. IsDecimal bytes m) w.2 (record {
      spelled = (bytes_eq-Decides bytes (decimal v)).0 w.0;
      short = ltb-true v (10 ^ 18) w.1;
    })

decimal_or_none : (bytes : List ℕ) (o : Option ℕ) → decimal_of bytes ≡ o
    → ((n : ℕ) → IsDecimal bytes n → ⊥) → None ≡ o
decimal_or_none bytes None e never = refl
decimal_or_none bytes (Some n) e never = absurd (never n (is_decimal_of bytes n e))

pub decimal_answer : (bytes : List ℕ) (o : Option ℕ) → IfSome o (IsDecimal bytes)
    → IfNone o ((n : ℕ) → IsDecimal bytes n → ⊥) → o ≡ decimal_of bytes
decimal_answer bytes None some none = decimal_or_none bytes (decimal_of bytes) refl none
decimal_answer bytes (Some n) some none = sym (decimal_of_is bytes n some)

-- The same in at most 9 digits.

pub short_of : (bytes : List ℕ) (n : ℕ) → IsShortDecimal bytes n → short_decimal_of bytes ≡ Some n
short_of bytes n is =
    let short = is.short in
    let number : decimal_of bytes ≡ Some n =
    decimal_of_is bytes n (record { spelled = is.spelled; short = omega arith }) in
    ap (option_and_then (λ k. cond (nat_lt k (10 ^ 9)) (Some k) None)) number
    ∙ cond-true (nat_lt n (10 ^ 9)) (Some n) None (lt-ltb n (10 ^ 9) short)

few : (short : Bool) (k n : ℕ) → ◌≡◌ {A = Option ℕ} (cond short (Some k) None) (Some n)
    → (short ≡ true) × (k ≡ n)
few true k n h = (refl, cc)
few false k n h = absurd cc

of_short : (bytes : List ℕ) (n : ℕ) (o : Option ℕ) → decimal_of bytes ≡ o
    → option_and_then (λ k. cond (nat_lt k (10 ^ 9)) (Some k) None) o ≡ Some n
    → IsShortDecimal bytes n
of_short bytes n None e h = absurd cc
of_short bytes n (Some k) e h =
    let is = few (nat_lt k (10 ^ 9)) k n h in
    let spelled = is_decimal_of bytes k e in
    subst (IsShortDecimal bytes) is.1
    (record { spelled = spelled.spelled; short = ltb-true k (10 ^ 9) is.0 })

pub is_short_of : (bytes : List ℕ) (n : ℕ) → short_decimal_of bytes ≡ Some n
    → IsShortDecimal bytes n
is_short_of bytes n e = of_short bytes n (decimal_of bytes) refl e

short_or_none : (bytes : List ℕ) (o : Option ℕ) → short_decimal_of bytes ≡ o
    → ((n : ℕ) → IsShortDecimal bytes n → ⊥) → None ≡ o
short_or_none bytes None e never = refl
short_or_none bytes (Some n) e never = absurd (never n (is_short_of bytes n e))

pub short_answer : (bytes : List ℕ) (o : Option ℕ) → IfSome o (IsShortDecimal bytes)
    → IfNone o ((n : ℕ) → IsShortDecimal bytes n → ⊥) → o ≡ short_decimal_of bytes
short_answer bytes None some none = short_or_none bytes (short_decimal_of bytes) refl none
short_answer bytes (Some n) some none = sym (short_of bytes n some)

-- What is behind a word.

same_number : (n : ℕ) → nat_eq n n ≡ true
same_number n = (Decides-eqb n n).1 refl

pub behind_append : (word rest : List ℕ) → rest_behind word (word ++ rest) ≡ Some rest
behind_append [] rest = refl
behind_append (w ∷ word) rest =
    ap (λ t. cond t (rest_behind word (word ++ rest)) None) (same_number w)
    ∙ behind_append word rest

first_same : (w b : ℕ) (t : Bool) (word bytes rest : List ℕ) → nat_eq w b ≡ t
    → ◌≡◌ {A = Option (List ℕ)} (cond t (rest_behind word bytes) None) (Some rest)
    → (w ≡ b) × (rest_behind word bytes ≡ Some rest)
first_same w b true word bytes rest e h = ((Decides-eqb w b).0 e, h)
first_same w b false word bytes rest e h = absurd cc

pub behind_some : (word bytes rest : List ℕ) → rest_behind word bytes ≡ Some rest
    → bytes ≡ word ++ rest
behind_some [] bytes rest h = let e : bytes ≡ rest = cc in e
behind_some (w ∷ word) [] rest h = absurd cc
behind_some (w ∷ word) (b ∷ bytes) rest h =
    let s = first_same w b (nat_eq w b) word bytes rest refl h in
    let first = s.0 in
    let more = behind_some word bytes rest s.1 in
    cc

behind_or_none : (word bytes : List ℕ) (o : Option (List ℕ)) → rest_behind word bytes ≡ o
    → ((rest : List ℕ) → bytes ≡ word ++ rest → ⊥) → None ≡ o
behind_or_none word bytes None e never = refl
behind_or_none word bytes (Some rest) e never = absurd (never rest (behind_some word bytes rest e))

pub nothing_behind : (word bytes : List ℕ) → ((rest : List ℕ) → bytes ≡ word ++ rest → ⊥)
    → rest_behind word bytes ≡ None
nothing_behind word bytes never =
    sym (behind_or_none word bytes (rest_behind word bytes) refl never)
