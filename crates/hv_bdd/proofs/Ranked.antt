-- The line of an order, spelled and read.
use Rattle.std.proofs.Common.{◌≡◌, ℕ, ◌<◌, ◌≤◌, ◌^◌, ◌∙◌, ◌++◌, Bool, true, false, List, []}
use Rattle.std.proofs.Common.{◌∷◌, ◌+◌, Option, None, Some, append_assoc, cond, eqb, length, map}
use Rattle.std.proofs.Common.{nat_lt, refl, sym, ap, subst, arith, take}
use Rattle.std.specs.Prelude.{codes, decimal, is_some, option_and_then, option_map, MatchOption}
use Rattle.std.proofs.lemmas.List.{length-append}
use Rattle.std.specs.List.{All, join_with_byte}
use Rattle.std.specs.Str.{bytes_eq}
use Rattle.std.proofs.lemmas.Bool.{cond-false, cond-true, le-ltb, lt-ltb, ltb-true}
use Rattle.std.proofs.lemmas.Slice.Eq.{bytes_eq-Decides}
use Rattle.std.proofs.lemmas.List.Elements.{All-nil, All-cons, All-head, All-tail, All-weaker}
use Rattle.std.proofs.lemmas.List.Splits.{join_with_byte-slice_split, slice_split_at}
use Rattle.std.proofs.lemmas.List.Splits.{slice_split_none}
use Rattle.hv_bytes.specs.Fields.{cut_fields}
use Rattle.hv_bytes.specs.Working.Fields.{fields_behind}
use Rattle.hv_bytes.proofs.DecimalTexts.{no_space}
use Rattle.hv_grammar.specs.Forms.{decimal_of}
use Rattle.hv_grammar.proofs.Numerals.{behind_append, decimal_of_is, is_decimal_of}
use Rattle.hv_bdd.specs.Order.{IsOrder}
use Rattle.hv_bdd.specs.OrderLine.{begins_with, if_order, is_order, named_atom, named_atoms}
use Rattle.hv_bdd.specs.OrderLine.{order_line, order_of_fields}
use Rattle.hv_bdd.specs.Working.NodeText.{list_over}
use Rattle.hv_bdd.specs.Working.Noting.{named_behind}
use Rattle.hv_bdd.proofs.Parted.{BeginsWithNone, no_decimal, spelled}
use Rattle.hv_bdd.proofs.Permuted.{below_from, is_from, order_from, size_of}

-- The atoms that fields name.

chosen : (t : Bool) (k n : ℕ) → ◌≡◌ {A = Option ℕ} (cond t (Some k) None) (Some n)
    → (t ≡ true) × (k ≡ n)
chosen true k n e = (refl, cc)
chosen false k n e = absurd cc

atom_from : (atoms : ℕ) (field : List ℕ) (n : ℕ) (o : Option ℕ) → decimal_of field ≡ o
    → option_and_then (λ k. cond (nat_lt k atoms) (Some k) None) o ≡ Some n
    → (field ≡ decimal n) × (n < atoms)
atom_from atoms field n None d e = absurd cc
atom_from atoms field n (Some k) d e =
    let w = chosen (nat_lt k atoms) k n e in (
      (is_decimal_of field n (d ∙ ap (λ j. Some j) w.1)).spelled,
      subst (λ j. j < atoms) w.1 (ltb-true k atoms w.0),
    )

atom_spelled : (atoms n : ℕ) → atoms < 10 ^ 18 → n < atoms → named_atom atoms (decimal n) ≡ Some n
atom_spelled atoms n few less =
    ap (option_and_then (λ k. cond (nat_lt k atoms) (Some k) None))
    (decimal_of_is (decimal n) n (record { spelled = refl; short = omega arith }))
    ∙ rw (lt-ltb n atoms less) refl

more_named : (n : ℕ) (o : Option (List ℕ)) (ns : List ℕ)
    → option_map (λ ms. n ∷ ms) o ≡ Some ns → (ms : List ℕ) × (o ≡ Some ms) × (ns ≡ n ∷ ms)
more_named n None ns e = absurd cc
more_named n (Some ms) ns e = (ms, refl, cc)

first_named : (rest : Option (List ℕ)) (o : Option ℕ) (ns : List ℕ)
    → option_and_then (λ n. option_map (λ ms. n ∷ ms) rest) o ≡ Some ns
    → (n : ℕ) × (ms : List ℕ) × (o ≡ Some n) × (rest ≡ Some ms) × (ns ≡ n ∷ ms)
first_named rest None ns e = absurd cc
first_named rest (Some n) ns e =
    let w = more_named n rest ns e in (n, w.0, refl, w.1, w.2)

-- fields that name atoms are their decimals
named : (atoms : ℕ) (fields : List (List ℕ)) (ns : List ℕ) → named_atoms atoms fields ≡ Some ns
    → (fields ≡ map decimal ns) × All (λ a. a < atoms) ns
named atoms [] ns e =
    let same : [] ≡ ns = cc in (
      ap (map decimal) same,
      subst (All (λ a. a < atoms)) same (All-nil (λ a. a < atoms)),
    )
named atoms (field ∷ fields) ns e =
    let w = first_named (named_atoms atoms fields) (named_atom atoms field) ns e in
    let first = atom_from atoms field w.0 (decimal_of field) refl w.2 in
    let more = named atoms fields w.1 w.3 in (
      ap (λ f. f ∷ fields) first.0 ∙ ap (λ fs. decimal w.0 ∷ fs) more.0
          ∙ ap (map decimal) (sym w.4),
      subst (All (λ a. a < atoms)) (sym w.4)
          (All-cons (λ a. a < atoms) w.0 w.1 first.1 more.1),
    )

-- and the other way round
names : (atoms : ℕ) (ns : List ℕ) → atoms < 10 ^ 18 → All (λ a. a < atoms) ns
    → named_atoms atoms (map decimal ns) ≡ Some ns
names atoms [] few below = refl
names atoms (n ∷ ns) few below =
    ap (option_and_then (λ k. option_map (λ ms. k ∷ ms) (named_atoms atoms (map decimal ns))))
    (atom_spelled atoms n few (All-head (λ a. a < atoms) n ns below))
    ∙ ap (option_map (λ ms. n ∷ ms))
    (names atoms ns few (All-tail (λ a. a < atoms) n ns below))

-- The atom that the first field names.

abbrev if_below : ℕ → ℕ → Option ℕ
if_below atoms n = cond (nat_lt n atoms) (Some n) None

abbrev put_first : Option (List ℕ) → ℕ → Option (List ℕ)
put_first rest n = option_map (λ ns. n ∷ ns) rest

pub none_named : (atoms : ℕ) (fields : List (List ℕ)) → 0 < length fields → BeginsWithNone fields
    → named_atoms atoms fields ≡ None
none_named atoms [] some none = absurd (omega arith)
none_named atoms (field ∷ fields) some none =
    ap (λ o. option_and_then (put_first (named_atoms atoms fields))
    (option_and_then (if_below atoms) o))
    (no_decimal field fields none)

module _ (atoms n : ℕ) (later : List (List ℕ)) (short : n < 10 ^ 18) where
  pub too_great : atoms ≤ n → named_atoms atoms (decimal n ∷ later) ≡ None
  too_great great =
      ap (λ o. option_and_then (put_first (named_atoms atoms later))
      (option_and_then (if_below atoms) o))
      (spelled n short)
      ∙ ap (option_and_then (put_first (named_atoms atoms later)))
      (cond-false (nat_lt n atoms) (Some n) None (le-ltb n atoms great))

  pub first_is : n < atoms → named_atoms atoms (decimal n ∷ later)
      ≡ option_map (λ ns. n ∷ ns) (named_atoms atoms later)
  first_is less =
      ap (λ o. option_and_then (put_first (named_atoms atoms later))
      (option_and_then (if_below atoms) o))
      (spelled n short)
      ∙ ap (option_and_then (put_first (named_atoms atoms later)))
      (cond-true (nat_lt n atoms) (Some n) None (lt-ltb n atoms less))

-- behind no place stand the atoms that the fields name
pub behind_all : (order : List ℕ) (fields : List (List ℕ))
    → named_behind order 0 fields ≡ named_atoms (length order) fields
behind_all order fields = by (named_atoms (length order) fields)
  where
    by : (o : Option (List ℕ)) → option_map (λ ns. ns) o ≡ o
    by None = refl
    by (Some ns) = refl

-- the first of the fields fills one place more
pub behind_more : (order new : List ℕ) (count atom : ℕ) (fields later : List (List ℕ))
    → length new ≡ length order → take (count + 1) new ≡ take count order ++ atom ∷ []
    → named_atoms (length order) fields
    ≡ option_map (λ ns. atom ∷ ns) (named_atoms (length order) later)
    → named_behind new (count + 1) later ≡ named_behind order count fields
behind_more order new count atom fields later size front first =
    ap (λ n. option_map (λ ns. take (count + 1) new ++ ns) (named_atoms n later)) size
    ∙ (ap (λ (xs : List ℕ). option_map (λ ns. xs ++ ns) (named_atoms (length order) later)) front
    ∙ (by (named_atoms (length order) later)
    ∙ ap (option_map (λ ns. take count order ++ ns)) (sym first)))
  where
    by : (o : Option (List ℕ)) → option_map (λ ns. (take count order ++ atom ∷ []) ++ ns) o
        ≡ option_map (λ ns. take count order ++ ns) (option_map (λ ns. atom ∷ ns) o)
    by None = refl
    by (Some ns) = ap (λ xs. Some xs) (append_assoc (take count order) (atom ∷ []) ns)

-- the fields behind the first one
pub left_is : {A : Type 0} (line : List ℕ) (n : ℕ) (behind : Option A) (now : A → List ℕ)
    → MatchOption behind (cut_fields line ≡ decimal n ∷ [])
    (λ rest. cut_fields line ≡ decimal n ∷ cut_fields (now rest))
    → cut_fields line ≡ decimal n ∷ fields_behind behind now
left_is line n None now is = is
left_is line n (Some rest) now is = is

-- more atoms than there are are no order
too_many : (atoms : ℕ) (ns : List ℕ) → atoms < length ns → if_order atoms ns ≡ None
too_many atoms ns more = by (is_order atoms ns) refl
  where
    by : (t : Bool) → is_order atoms ns ≡ t → if_order atoms ns ≡ None
    by true t = let size = size_of atoms ns t in absurd (omega arith)
    by false t = ap (λ t. cond t (Some ns) None) t

-- so none follows as many as there are
pub crowded : (atoms : ℕ) (front : List ℕ) (fields : List (List ℕ)) → atoms ≤ length front
    → 0 < length fields
    → option_and_then (if_order atoms) (option_map (λ ns. front ++ ns) (named_atoms atoms fields))
    ≡ None
crowded atoms front [] upto some = absurd (omega arith)
crowded atoms front (field ∷ fields) upto some =
    by (named_atom atoms field) (named_atoms atoms fields)
  where
    by : (first : Option ℕ) (rest : Option (List ℕ))
        → option_and_then (if_order atoms) (option_map (λ ns. front ++ ns)
        (option_and_then (λ n. option_map (λ ns. n ∷ ns) rest) first))
        ≡ None
    by None rest = refl
    by (Some n) None = refl
    by (Some n) (Some ms) =
        let size = length-append front (n ∷ ms) in
        too_many atoms (front ++ n ∷ ms) (omega arith)

-- The line.

abbrev word : List ℕ
word = codes "order"

abbrev IsClear : ℕ → Type 0
IsClear b = eqb b 32 ≡ false

clear_word : All IsClear word
clear_word =
    All-cons IsClear 111 (114 ∷ 100 ∷ 101 ∷ 114 ∷ []) refl
    (All-cons IsClear 114 (100 ∷ 101 ∷ 114 ∷ []) refl
    (All-cons IsClear 100 (101 ∷ 114 ∷ []) refl
    (All-cons IsClear 101 (114 ∷ []) refl
    (All-cons IsClear 114 [] refl (All-nil IsClear)))))

cut_joined : (first : List ℕ) (ns : List ℕ) → All IsClear first → All (λ n. n < 10 ^ 18) ns
    → cut_fields (join_with_byte 32 (first ∷ map decimal ns)) ≡ first ∷ map decimal ns
cut_joined first [] clear short = slice_split_none (λ b. eqb b 32) first clear
cut_joined first (n ∷ ns) clear short =
    slice_split_at (λ b. eqb b 32) first 32 (join_with_byte 32 (decimal n ∷ map decimal ns)) clear
    refl
    ∙ ap (λ fs. first ∷ fs) (cut_joined (decimal n) ns
    (no_space n (All-head (λ n. n < 10 ^ 18) n ns short))
    (All-tail (λ n. n < 10 ^ 18) n ns short))

pub begins_line : (order : List ℕ) → begins_with word (order_line order) ≡ true
begins_line [] = refl
begins_line (n ∷ ns) =
    ap is_some (behind_append word (32 ∷ join_with_byte 32 (decimal n ∷ map decimal ns)))

same_word : bytes_eq word word ≡ true
same_word = (bytes_eq-Decides word word).1 refl

module _ (atoms : ℕ) (order : List ℕ) where
  order_named : named_atoms atoms (map decimal order) ≡ Some order → is_order atoms order ≡ true
      → order_of_fields atoms (word ∷ map decimal order) ≡ Some order
  order_named names is =
      ap (λ t. cond t (option_and_then (if_order atoms) (named_atoms atoms (map decimal order)))
      None) same_word
      ∙ (ap (option_and_then (if_order atoms)) names ∙ ap (λ t. cond t (Some order) None) is)

  -- the line of an order says this order
  pub order_of_line : atoms < 10 ^ 18 → IsOrder (list_over atoms (Some order) [])
      → order_of_fields atoms (cut_fields (order_line order)) ≡ Some order
  order_of_line few is =
      let below = below_from atoms order [] is in
      ap (order_of_fields atoms) (cut_joined word order clear_word
      (All-weaker (λ n. n < atoms) (λ n. n < 10 ^ 18) (λ n less. omega arith) order below))
      ∙ order_named (names atoms order few below) (is_from atoms order [] is)

-- what such fields are
record Says (atoms : ℕ) (fields : List (List ℕ)) (order : List ℕ) : Type 0 where
  pub fields_are : fields ≡ word ∷ map decimal order
  pub below : All (λ a. a < atoms) order
  pub is : is_order atoms order ≡ true

if_is : (atoms : ℕ) (ns order : List ℕ) (t : Bool) → is_order atoms ns ≡ t
    → ◌≡◌ {A = Option (List ℕ)} (cond t (Some ns) None) (Some order)
    → (ns ≡ order) × (is_order atoms ns ≡ true)
if_is atoms ns order true t e = (cc, t)
if_is atoms ns order false t e = absurd cc

says_by : (atoms : ℕ) (first : List ℕ) (fields : List (List ℕ)) (order : List ℕ) (t : Bool)
    (o : Option (List ℕ)) → bytes_eq first word ≡ t → named_atoms atoms fields ≡ o
    → cond t (option_and_then (if_order atoms) o) None ≡ Some order
    → Says atoms (first ∷ fields) order
says_by atoms first fields order false o t n e = absurd cc
says_by atoms first fields order true None t n e = absurd cc
says_by atoms first fields order true (Some ns) t n e =
    let w = if_is atoms ns order (is_order atoms ns) refl e in
    let all = named atoms fields ns n in
    subst (Says atoms (first ∷ fields)) w.0 (record {
      fields_are = ap (λ f. f ∷ fields) ((bytes_eq-Decides first word).0 t)
          ∙ ap (λ fs. word ∷ fs) all.0;
      below = all.1;
      is = w.1;
    })

says : (atoms : ℕ) (fields : List (List ℕ)) (order : List ℕ)
    → order_of_fields atoms fields ≡ Some order → Says atoms fields order
says atoms [] order e = absurd cc
says atoms (first ∷ fields) order e =
    says_by atoms first fields order (bytes_eq first word) (named_atoms atoms fields) refl refl e

-- a line that says an order is the line of this order
pub order_is : (atoms : ℕ) (line order : List ℕ)
    → order_of_fields atoms (cut_fields line) ≡ Some order
    → (line ≡ order_line order) × IsOrder (list_over atoms (Some order) [])
order_is atoms line order e =
    let w = says atoms (cut_fields line) order e in (
      sym (join_with_byte-slice_split 32 line) ∙ ap (join_with_byte 32) w.fields_are,
      order_from atoms order w.below w.is [],
    )
