-- The fields of the line of a node.
use Rattle.std.proofs.Common.{◌≡◌, ℕ, ◌<◌, ◌==◌, ◌^◌, List, [], ◌∷◌, Option, None, Some, length}
use Rattle.std.proofs.Common.{refl, sym, ◌∙◌, ap, arith, decimal}
use Rattle.std.proofs.lemmas.List.Splits.{length-slice_split}
use Rattle.hv_bytes.specs.Fields.{cut_fields}
use Rattle.hv_grammar.specs.Forms.{decimal_of}
use Rattle.hv_grammar.proofs.Numerals.{decimal_answer, decimal_of_is}
use Rattle.hv_bdd.specs.NodeFile.{node_of_fields, three_numbers}

-- a line has a field
pub fields_some : (bytes : List ℕ) → 0 < length (cut_fields bytes)
fields_some bytes = let e = length-slice_split (λ b. b == 32) bytes in omega arith

-- the first field isn't a decimal
abbrev pub BeginsWithNone : List (List ℕ) → Type 0
BeginsWithNone fields =
    (n : ℕ) (later : List (List ℕ)) → n < 10 ^ 18 → fields ≡ decimal n ∷ later → ⊥

pub no_decimal : (a : List ℕ) (later : List (List ℕ)) → BeginsWithNone (a ∷ later)
    → decimal_of a ≡ None
no_decimal a later none =
    sym (decimal_answer a None tt (λ n is.
    none n later is.short (ap (λ f. f ∷ later) is.spelled)))

pub spelled : (n : ℕ) → n < 10 ^ 18 → decimal_of (decimal n) ≡ Some n
spelled n short = decimal_of_is (decimal n) n (record { spelled = refl; short = short })

low_none : (atom high : Option ℕ) → None ≡ three_numbers atom None high
low_none None high = refl
low_none (Some atom) high = refl

high_none : (atom low : Option ℕ) → None ≡ three_numbers atom low None
high_none None low = refl
high_none (Some atom) None = refl
high_none (Some atom) (Some low) = refl

second_none : (a : List ℕ) (fields : List (List ℕ)) → BeginsWithNone fields
    → None ≡ node_of_fields (a ∷ fields)
second_none a [] none = refl
second_none a (b ∷ []) none = refl
second_none a (b ∷ c ∷ []) none =
    low_none (decimal_of a) (decimal_of c)
    ∙ ap (λ o. three_numbers (decimal_of a) o (decimal_of c))
    (sym (no_decimal b (c ∷ []) none))
second_none a (b ∷ c ∷ d ∷ fields) none = refl

third_none : (a b : List ℕ) (fields : List (List ℕ)) → BeginsWithNone fields
    → None ≡ node_of_fields (a ∷ b ∷ fields)
third_none a b [] none = refl
third_none a b (c ∷ []) none =
    high_none (decimal_of a) (decimal_of b)
    ∙ ap (λ o. three_numbers (decimal_of a) (decimal_of b) o)
    (sym (no_decimal c [] none))
third_none a b (c ∷ d ∷ fields) none = refl

four : (a b c : List ℕ) (rest : List (List ℕ)) → 0 < length rest
    → None ≡ node_of_fields (a ∷ b ∷ c ∷ rest)
four a b c [] some = absurd (omega arith)
four a b c (d ∷ rest) some = refl

-- what a line says, of which the first fields are known
module _ (line : List ℕ) where
  module _ (a mid : List ℕ) (first : cut_fields line ≡ a ∷ cut_fields mid) where
    pub none_of_second : BeginsWithNone (cut_fields mid) → None ≡ node_of_fields (cut_fields line)
    none_of_second none = second_none a (cut_fields mid) none ∙ ap node_of_fields (sym first)

    module _ (b last : List ℕ) (second : cut_fields mid ≡ b ∷ cut_fields last) where
      both : cut_fields line ≡ a ∷ b ∷ cut_fields last
      both = first ∙ ap (λ fs. a ∷ fs) second

      pub none_of_third : BeginsWithNone (cut_fields last)
          → None ≡ node_of_fields (cut_fields line)
      none_of_third none = third_none a b (cut_fields last) none ∙ ap node_of_fields (sym both)

      pub none_of_four : (c more : List ℕ) → cut_fields last ≡ c ∷ cut_fields more
          → None ≡ node_of_fields (cut_fields line)
      none_of_four c more third =
          four a b c (cut_fields more) (fields_some more)
          ∙ ap node_of_fields (sym (both ∙ ap (λ fs. a ∷ b ∷ fs) third))

  -- three decimals are the node of their numbers
  pub three_decimals : (x y z : ℕ) → x < 10 ^ 18 → y < 10 ^ 18 → z < 10 ^ 18
      → cut_fields line ≡ decimal x ∷ decimal y ∷ decimal z ∷ []
      → Some (record { atom = x; low = y; high = z }) ≡ node_of_fields (cut_fields line)
  three_decimals x y z x_short y_short z_short fields =
      sym (ap node_of_fields fields
      ∙ ap (λ o. three_numbers o (decimal_of (decimal y)) (decimal_of (decimal z)))
      (spelled x x_short)
      ∙ ap (λ o. three_numbers (Some x) o (decimal_of (decimal z))) (spelled y y_short)
      ∙ ap (λ o. three_numbers (Some x) (Some y) o) (spelled z z_short))
