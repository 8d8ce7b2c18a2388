-- What the tests of lines say.
use Rattle.std.proofs.Common.{◌≡◌, ◌∙◌, ◌<◌, ◌≤◌, ◌^◌, ◌++◌, ◌∷◌, ℕ}
use Rattle.std.proofs.Common.{Bool, true, false, List, Option}
use Rattle.std.proofs.Common.{None, Some, Ok, Err, ap, arith, cond, length, refl, subst, sym}
use Rattle.std.specs.Prelude.{Result, codes, nat_le, nat_lt, option_and_then, option_map}
use Rattle.std.specs.Char.{digit_value}
use Rattle.std.specs.Fmt.{decimal}
use Rattle.std.specs.Str.{bytes_eq}
use Rattle.std.specs.Str.Parse.{AllDigits}
use Rattle.std.proofs.lemmas.Fmt.{digits_decimal}
use Rattle.hv_bytes.proofs.DecimalTexts.{digits_model}
use Rattle.std.proofs.lemmas.Bool.{le-leb, leb-true, lt-ltb, ltb-true}
use Rattle.std.proofs.lemmas.Slice.Eq.{bytes_eq-Decides}
use Rattle.hv_grammar.specs.Forms.{at_most, decimal_of, is_word, number_behind, numbered_in}
use Rattle.hv_grammar.specs.Forms.{rest_behind}
use Rattle.hv_grammar.proofs.Numerals.{behind_append, behind_some, decimal_of_is, is_decimal_of}
use Rattle.hv_task_text.specs.TaskFile.{atom_behind, atom_of, atom_or, first_said, item_in, item_or}
use Rattle.hv_task_text.specs.TaskFile.{name_in, or_closing}
use Rattle.hv_task_text.specs.Written.{IsItem, IsName, item_line}
use Rattle.hv_task_text.specs.declared.fault.TaskKind.{TaskKind}
use Rattle.hv_task_text.specs.declared.fault.TaskKind.TheVariants as K
use Rattle.hv_task_text.specs.declared.fault.TaskLimit.TheVariants as W
use Rattle.hv_task_text.specs.declared.fault.TaskRefusal.{TaskRefusal}
use Rattle.hv_task_text.specs.declared.fault.TaskRefusal.TheVariants as R
use Rattle.hv_task_text.specs.declared.atom_lists.Item.{Item}
use Rattle.hv_task_text.specs.declared.atom_lists.Item.TheVariants as I

-- Names.

pub name_taken : (name : List ℕ) → IsName name → name_in name ≡ Ok name
name_taken name short = rw (le-leb (length name) 1024 short) refl

name_by : (l a : List ℕ) (t : Bool) → nat_le (length l) 1024 ≡ t
    → ◌≡◌ {A = Result (List ℕ) TaskRefusal} (cond t (Ok l) (Err (R.Limit W.Name))) (Ok a)
    → IsName a × (l ≡ a)
name_by l a true is e =
    let same : l ≡ a = cc in (subst IsName same (leb-true (length l) 1024 is), same)
name_by l a false is e = absurd cc

pub name_is : (l a : List ℕ) → name_in l ≡ Ok a → IsName a × (l ≡ a)
name_is l a e = name_by l a (nat_le (length l) 1024) refl e

-- Words.

pub word_taken : (word : List ℕ) (bad : TaskRefusal) → is_word word bad word ≡ Ok tt
word_taken word bad = rw ((bytes_eq-Decides word word).1 refl) refl

word_by : (l word : List ℕ) (bad : TaskRefusal) (t : Bool) → bytes_eq l word ≡ t
    → ◌≡◌ {A = Result (Unit {0}) TaskRefusal} (cond t (Ok tt) (Err bad)) (Ok tt) → l ≡ word
word_by l word bad true is e = (bytes_eq-Decides l word).0 is
word_by l word bad false is e = absurd cc

pub word_is : (l word : List ℕ) (bad : TaskRefusal) (u : Unit {0}) → is_word word bad l ≡ Ok u
    → l ≡ word
word_is l word bad u e = word_by l word bad (bytes_eq l word) refl e

-- Numbers behind a header.

number_of : (word : List ℕ) (n : ℕ) → n < 10 ^ 18 → number_behind word (word ++ decimal n) ≡ Some n
number_of word n short =
    ap (option_and_then decimal_of) (behind_append word (decimal n))
    ∙ decimal_of_is (decimal n) n (record { spelled = refl; short = short })

pub number_taken : (word : List ℕ) (most : ℕ) (bad many : TaskRefusal) (n : ℕ) → n ≤ most
    → n < 10 ^ 18 → numbered_in word most bad many (word ++ decimal n) ≡ Ok n
number_taken word most bad many n few short =
    ap (at_most most bad many) (number_of word n short) ∙ rw (le-leb n most few) refl

behind_is : (word l : List ℕ) (n : ℕ) (o : Option (List ℕ)) → rest_behind word l ≡ o
    → option_and_then decimal_of o ≡ Some n → l ≡ word ++ decimal n
behind_is word l n None is e = absurd cc
behind_is word l n (Some rest) is e =
    behind_some word l rest is ∙ ap (λ r. word ++ r) (is_decimal_of rest n e).spelled

number_at : (word l : List ℕ) (n : ℕ) → number_behind word l ≡ Some n → l ≡ word ++ decimal n
number_at word l n e = behind_is word l n (rest_behind word l) refl e

most_by : (most : ℕ) (many : TaskRefusal) (k n : ℕ) (t : Bool) → nat_le k most ≡ t
    → ◌≡◌ {A = Result ℕ TaskRefusal} (cond t (Ok k) (Err many)) (Ok n) → (k ≡ n) × (n ≤ most)
most_by most many k n true is e =
    let same : k ≡ n = cc in (same, subst (λ i. i ≤ most) same (leb-true k most is))
most_by most many k n false is e = absurd cc

number_from : (word : List ℕ) (most : ℕ) (bad many : TaskRefusal) (l : List ℕ) (n : ℕ)
    (o : Option ℕ) → number_behind word l ≡ o → at_most most bad many o ≡ Ok n
    → (l ≡ word ++ decimal n) × (n ≤ most)
number_from word most bad many l n None is e = absurd cc
number_from word most bad many l n (Some k) is e =
    let s = most_by most many k n (nat_le k most) refl e in
    (number_at word l n (is ∙ ap (λ i. Some i) s.0), s.1)

pub number_is : (word : List ℕ) (most : ℕ) (bad many : TaskRefusal) (l : List ℕ) (n : ℕ)
    → numbered_in word most bad many l ≡ Ok n → (l ≡ word ++ decimal n) × (n ≤ most)
number_is word most bad many l n e =
    number_from word most bad many l n (number_behind word l) refl e

-- Atoms.

atom_taken : (atoms n : ℕ) (o : Option ℕ) → o ≡ Some n → n < atoms → atom_of atoms o ≡ Some n
atom_taken atoms n o is below = ap (atom_of atoms) is ∙ rw (lt-ltb n atoms below) refl

atom_by : (atoms k n : ℕ) (t : Bool) → nat_lt k atoms ≡ t
    → ◌≡◌ {A = Option ℕ} (cond t (Some k) None) (Some n) → (k ≡ n) × (n < atoms)
atom_by atoms k n true is e =
    let same : k ≡ n = cc in (same, subst (λ i. i < atoms) same (ltb-true k atoms is))
atom_by atoms k n false is e = absurd cc

atom_is : (atoms n : ℕ) (o : Option ℕ) → atom_of atoms o ≡ Some n → (o ≡ Some n) × (n < atoms)
atom_is atoms n None e = absurd cc
atom_is atoms n (Some k) e =
    let s = atom_by atoms k n (nat_lt k atoms) refl e in (ap (λ i. Some i) s.0, s.1)

-- What begins with the letter e is no number.

none_by : (bytes : List ℕ) (o : Option ℕ) → decimal_of bytes ≡ o
    → ((n : ℕ) → decimal_of bytes ≡ Some n → ⊥) → o ≡ None
none_by bytes None is never = refl
none_by bytes (Some n) is never = absurd (never n is)

letter_first : (rest : List ℕ) (n : ℕ) → decimal_of (101 ∷ rest) ≡ Some n → ⊥
letter_first rest n e =
    let is = is_decimal_of (101 ∷ rest) n e in
    let short = is.short in
    let digits : AllDigits 10 (101 ∷ rest) =
    subst (AllDigits 10) (sym is.spelled) (digits_decimal digits_model n (omega arith)) in
    let first : digit_value 101 < 10 = digits.0 in
    absurd (omega arith)

pub no_number : (rest : List ℕ) → decimal_of (101 ∷ rest) ≡ None
no_number rest = none_by (101 ∷ rest) (decimal_of (101 ∷ rest)) refl (letter_first rest)

-- What a line says, and closing words.

never_said : {A : Type 0} (kind : TaskKind) (a : A) (t : Bool)
    → ◌≡◌ {A = Result (Option A) TaskRefusal} (cond t (Ok None) (Err (R.Place kind))) (Ok (Some a))
    → ◌≡◌ {A = Option A} None (Some a)
never_said kind a true e = absurd cc
never_said kind a false e = absurd cc

said_by : {A : Type 0} (closing : List ℕ) (kind : TaskKind) (l : List ℕ) (a : A) (o : Option A)
    → or_closing closing kind l o ≡ Ok (Some a) → o ≡ Some a
said_by closing kind l a (Some b) e = cc
said_by closing kind l a None e = never_said kind a (bytes_eq l closing) e

closes : {A : Type 0} (closing : List ℕ) (kind : TaskKind) (l : List ℕ) (t : Bool)
    → bytes_eq l closing ≡ t
    → ◌≡◌ {A = Result (Option A) TaskRefusal} (cond t (Ok None) (Err (R.Place kind))) (Ok None)
    → l ≡ closing
closes closing kind l true is e = (bytes_eq-Decides l closing).0 is
closes closing kind l false is e = absurd cc

closed_by : {A : Type 0} (closing : List ℕ) (kind : TaskKind) (l : List ℕ) (o : Option A)
    → or_closing closing kind l o ≡ Ok None → l ≡ closing
closed_by closing kind l (Some b) e = absurd cc
closed_by closing kind l None e = closes closing kind l (bytes_eq l closing) refl e

module _ (closing : List ℕ) (kind : TaskKind) (atoms : ℕ) where
  pub atom_said : (n : ℕ) → n < atoms → atoms ≤ 65535
      → atom_or closing kind atoms (decimal n) ≡ Ok (Some n)
  atom_said n below few =
      ap (or_closing closing kind (decimal n)) (atom_taken atoms n (decimal_of (decimal n))
      (decimal_of_is (decimal n) n (record { spelled = refl; short = omega arith })) below)

  pub atoms_closed : decimal_of closing ≡ None → atom_or closing kind atoms closing ≡ Ok None
  atoms_closed none =
      ap (λ o. or_closing closing kind closing (atom_of atoms o)) none
      ∙ rw ((bytes_eq-Decides closing closing).1 refl) refl

  pub atom_spelled : (l : List ℕ) (n : ℕ) → atom_or closing kind atoms l ≡ Ok (Some n)
      → (n < atoms) × (l ≡ decimal n)
  atom_spelled l n e =
      let s = atom_is atoms n (decimal_of l)
      (said_by closing kind l n (atom_of atoms (decimal_of l)) e) in
      (s.1, (is_decimal_of l n s.0).spelled)

  pub atoms_end : (l : List ℕ) → atom_or closing kind atoms l ≡ Ok None → l ≡ closing
  atoms_end l e = closed_by closing kind l (atom_of atoms (decimal_of l)) e

-- Lines of an action.

module _ (atoms : ℕ) where
  behind : (word : List ℕ) (n : ℕ) → n < atoms → atoms ≤ 65535
      → atom_behind word atoms (word ++ decimal n) ≡ Some n
  behind word n below few =
      atom_taken atoms n (number_behind word (word ++ decimal n)) (number_of word n (omega arith))
      below

  abbrev del_in : List ℕ → Option ℕ → Option Item
  del_in l o = option_map (λ n. I.Del n) o

  abbrev add_in : List ℕ → Option ℕ → Option Item
  add_in l o =
      first_said (option_map (λ n. I.Add n) o) (del_in l (atom_behind (codes "DEL:") atoms l))

  abbrev pre_in : List ℕ → Option ℕ → Option Item
  pre_in l o =
      first_said (option_map (λ n. I.Pre n) o) (add_in l (atom_behind (codes "ADD:") atoms l))

  item_there : (item : Item) → IsItem atoms item → atoms ≤ 65535
      → item_in atoms (item_line item) ≡ Some item
  item_there (I.Pre n) is few = ap (pre_in (item_line (I.Pre n))) (behind (codes "PRE:") n is few)
  item_there (I.Add n) is few = ap (add_in (item_line (I.Add n))) (behind (codes "ADD:") n is few)
  item_there (I.Del n) is few = ap (del_in (item_line (I.Del n))) (behind (codes "DEL:") n is few)

  pub item_said : atoms ≤ 65535 → (item : Item) → IsItem atoms item
      → item_or atoms (item_line item) ≡ Ok (Some item)
  item_said few item is =
      ap (or_closing (codes "end_action") K.ActionLine (item_line item)) (item_there item is few)

  pub items_closed : item_or atoms (codes "end_action") ≡ Ok None
  items_closed = refl

  -- one of the three words is there, or none
  word_or : (f : ℕ → Item) (l : List ℕ) (item : Item) (word : List ℕ) (other : Option Item)
      (n : Option ℕ) → ((k : ℕ) → item_line (f k) ≡ word ++ decimal k)
      → ((k : ℕ) → k < atoms → IsItem atoms (f k)) → atom_behind word atoms l ≡ n
      → (other ≡ Some item → IsItem atoms item × (l ≡ item_line item))
      → first_said (option_map f n) other ≡ Some item → IsItem atoms item × (l ≡ item_line item)
  word_or f l item word other None spelled is at more e = more e
  word_or f l item word other (Some k) spelled is at more e =
      let s = atom_is atoms k (number_behind word l) at in
      let same : f k ≡ item = cc in (
        subst (IsItem atoms) same (is k s.1),
        number_at word l k s.0 ∙ sym (spelled k)
            ∙ ap item_line same,
      )

  last_word : (l : List ℕ) (item : Item) (n : Option ℕ) → atom_behind (codes "DEL:") atoms l ≡ n
      → option_map (λ k. I.Del k) n ≡ Some item → IsItem atoms item × (l ≡ item_line item)
  last_word l item None at e = absurd cc
  last_word l item (Some k) at e =
      let s = atom_is atoms k (number_behind (codes "DEL:") l) at in
      let same : I.Del k ≡ item = cc in
      (subst (IsItem atoms) same s.1, number_at (codes "DEL:") l k s.0 ∙ ap item_line same)

  pub item_spelled : (l : List ℕ) (item : Item) → item_or atoms l ≡ Ok (Some item)
      → IsItem atoms item × (l ≡ item_line item)
  item_spelled l item e =
      let pre_at = atom_behind (codes "PRE:") atoms l in
      let add_at = atom_behind (codes "ADD:") atoms l in
      let del_at = atom_behind (codes "DEL:") atoms l in
      word_or (λ k. I.Pre k) l item (codes "PRE:") (add_in l add_at) pre_at (λ k. refl)
      (λ k less. less) refl
      (word_or (λ k. I.Add k) l item (codes "ADD:") (del_in l del_at) add_at (λ k. refl)
      (λ k less. less) refl (last_word l item del_at refl))
      (said_by (codes "end_action") K.ActionLine l item (item_in atoms l) e)

  pub items_end : (l : List ℕ) → item_or atoms l ≡ Ok None → l ≡ codes "end_action"
  items_end l e = closed_by (codes "end_action") K.ActionLine l (item_in atoms l) e
