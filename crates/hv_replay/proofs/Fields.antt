-- The fields of the line of an entry: a letter, and decimals that rise.
use Rattle.std.proofs.Common.{◌≡◌, ℕ, ◌+◌, ◌<◌, ◌≤◌, ◌^◌, ◌∙◌, ◌++◌, ◌&&◌, ◌⊎◌, Bool, true, false}
use Rattle.std.proofs.Common.{List, [], ◌∷◌, Option, None, Some, MatchOption, cond, eqb, get_or}
use Rattle.std.proofs.Common.{length, map, nat_le, nat_lt, inl, inr, refl, sym, ap, subst, arith}
use Rattle.std.proofs.Common.{append-nil, append_assoc}
use Rattle.std.specs.Prelude.{decimal, option_and_then, option_map}
use Rattle.std.specs.List.{All, join_with_byte}
use Rattle.std.specs.List.Sorted.{IsStrictlyIncreasing}
use Rattle.std.specs.Str.{bytes_eq}
use Rattle.std.proofs.lemmas.Bool.{le-leb, leb-true, lt-ltb, ltb-true}
use Rattle.std.proofs.lemmas.Slice.Eq.{bytes_eq-Decides}
use Rattle.std.proofs.lemmas.List.Elements.{All-nil, All-cons, All-head, All-tail, All-push}
use Rattle.std.proofs.lemmas.List.Elements.{All-weaker}
use Rattle.std.proofs.lemmas.List.Splits.{join_with_byte-slice_split, slice_split_at}
use Rattle.std.proofs.lemmas.List.Splits.{slice_split_none}
use Rattle.hv_bytes.specs.Fields.{cut_fields}
use Rattle.hv_bytes.specs.Working.Fields.{fields_behind}
use Rattle.hv_bytes.proofs.DecimalTexts.{no_space}
use Rattle.hv_grammar.specs.Forms.{decimal_of}
use Rattle.hv_grammar.proofs.Numerals.{decimal_of_is, is_decimal_of}
use Rattle.hv_task.specs.State.{AreBelow}
use Rattle.hv_task.proofs.Listing.{rises-push}
use Rattle.hv_task.proofs.Rising.{rises-tail}
use Rattle.hv_replay.specs.LogFile.{atom_in, atoms_in, entry_in, entry_of_fields, entry_of_parts}
use Rattle.hv_replay.specs.LogFile.{kind_of_letter}
use Rattle.hv_replay.specs.Logs.{IsAtomSet, LogEntry, letter_of}
use Rattle.hv_replay.specs.Working.LogText.{IsEntryLine}

-- the first is at least so great, and each further one greater than the one before it; all are
-- below the bound
abbrev pub RisesFrom : ℕ → ℕ → List ℕ → Type 0
RisesFrom least bound [] = Unit {0}
RisesFrom least bound (n ∷ ns) = (least ≤ n) × (n < bound) × RisesFrom (n + 1) bound ns

from_parts : (least bound : ℕ) (ns : List ℕ) → (0 < length ns → least ≤ get_or ns 0 0)
    → AreBelow bound ns → IsStrictlyIncreasing ns → RisesFrom least bound ns
from_parts least bound [] first below rises = tt
from_parts least bound (n ∷ []) first below rises =
    (first (omega arith), All-head (λ n. n < bound) n [] below, tt)
from_parts least bound (n ∷ m ∷ ns) first below rises =
    let within : 0 + 1 < length (n ∷ m ∷ ns) = omega arith in
    let less = rises 0 within in (
      first (omega arith),
      All-head (λ n. n < bound) n (m ∷ ns) below,
      from_parts (n + 1) bound (m ∷ ns) (λ _. omega arith)
          (All-tail (λ n. n < bound) n (m ∷ ns) below) (rises-tail n (m ∷ ns) rises),
    )

below_of : (least bound : ℕ) (ns : List ℕ) → RisesFrom least bound ns → AreBelow bound ns
below_of least bound [] r = All-nil (λ n. n < bound)
below_of least bound (n ∷ ns) r =
    All-cons (λ n. n < bound) n ns r.1 (below_of (n + 1) bound ns r.2)

-- a list that rises goes on so
rises_onto : (front : List ℕ) (least bound : ℕ) (ns : List ℕ) → IsStrictlyIncreasing front
    → AreBelow least front → RisesFrom least bound ns → IsStrictlyIncreasing (front ++ ns)
rises_onto front least bound [] rises below r =
    subst IsStrictlyIncreasing (sym (append-nil front)) rises
rises_onto front least bound (n ∷ ns) rises below r =
    let upto = r.0 in
    subst IsStrictlyIncreasing (append_assoc front (n ∷ []) ns)
    (rises_onto (front ++ n ∷ []) (n + 1) bound ns
    (rises-push front n rises (λ k within. let less = below k 0 within in omega arith))
    (All-push (λ a. a < n + 1) front n
    (All-weaker (λ a. a < least) (λ a. a < n + 1) (λ a less. omega arith) front below)
    (omega arith)) r.2)

pub set_from : (bound : ℕ) (ns : List ℕ) → RisesFrom 0 bound ns → IsAtomSet bound ns
set_from bound ns r = record {
  below = below_of 0 bound ns r;
  rises = rises_onto [] 0 bound ns (λ k within. absurd (omega arith)) (All-nil (λ a. a < 0)) r;
}

-- The atom of a field.

chosen : (t u : Bool) (m n : ℕ) → ◌≡◌ {A = Option ℕ} (cond (t && u) (Some m) None) (Some n)
    → (t ≡ true) × (u ≡ true) × (m ≡ n)
chosen true true m n e = (refl, refl, cc)
chosen true false m n e = absurd cc
chosen false u m n e = absurd cc

atom_from : (atoms least : ℕ) (field : List ℕ) (n : ℕ) (o : Option ℕ) → decimal_of field ≡ o
    → option_and_then (λ k. cond (nat_le least k && nat_lt k atoms) (Some k) None) o ≡ Some n
    → (field ≡ decimal n) × (least ≤ n) × (n < atoms)
atom_from atoms least field n None d e = absurd cc
atom_from atoms least field n (Some k) d e =
    let w = chosen (nat_le least k) (nat_lt k atoms) k n e in (
      (is_decimal_of field n (d ∙ ap (λ j. Some j) w.2)).spelled,
      subst (λ j. least ≤ j) w.2 (leb-true least k w.0),
      subst (λ j. j < atoms) w.2 (ltb-true k atoms w.1),
    )

atom_spelled : (atoms least n : ℕ) → atoms < 10 ^ 18 → least ≤ n → n < atoms
    → atom_in atoms least (decimal n) ≡ Some n
atom_spelled atoms least n few upto less =
    ap (option_and_then (λ k. cond (nat_le least k && nat_lt k atoms) (Some k) None))
    (decimal_of_is (decimal n) n (record { spelled = refl; short = omega arith }))
    ∙ rw (le-leb least n upto) (rw (lt-ltb n atoms less) refl)

-- The atoms of fields.

more_named : (n : ℕ) (o : Option (List ℕ)) (ns : List ℕ)
    → option_map (λ ms. n ∷ ms) o ≡ Some ns → (ms : List ℕ) × (o ≡ Some ms) × (ns ≡ n ∷ ms)
more_named n None ns e = absurd cc
more_named n (Some ms) ns e = (ms, refl, cc)

first_named : (rest : ℕ → Option (List ℕ)) (o : Option ℕ) (ns : List ℕ)
    → option_and_then (λ n. option_map (λ ms. n ∷ ms) (rest n)) o ≡ Some ns
    → (n : ℕ) × (ms : List ℕ) × (o ≡ Some n) × (rest n ≡ Some ms) × (ns ≡ n ∷ ms)
first_named rest None ns e = absurd cc
first_named rest (Some n) ns e =
    let w = more_named n (rest n) ns e in (n, w.0, refl, w.1, w.2)

-- fields that name atoms are their decimals
named : (atoms least : ℕ) (fields : List (List ℕ)) (ns : List ℕ)
    → atoms_in atoms least fields ≡ Some ns → (fields ≡ map decimal ns) × RisesFrom least atoms ns
named atoms least [] ns e =
    let same : [] ≡ ns = cc in
    (ap (map decimal) same, subst (RisesFrom least atoms) same tt)
named atoms least (field ∷ fields) ns e =
    let w = first_named (λ n. atoms_in atoms (n + 1) fields) (atom_in atoms least field) ns e in
    let first = atom_from atoms least field w.0 (decimal_of field) refl w.2 in
    let more = named atoms (w.0 + 1) fields w.1 w.3 in (
      ap (λ f. f ∷ fields) first.0 ∙ ap (λ fs. decimal w.0 ∷ fs) more.0
          ∙ ap (map decimal) (sym w.4),
      subst (RisesFrom least atoms) (sym w.4) (first.1, first.2, more.1),
    )

-- and the other way round
names : (atoms least : ℕ) (ns : List ℕ) → atoms < 10 ^ 18 → RisesFrom least atoms ns
    → atoms_in atoms least (map decimal ns) ≡ Some ns
names atoms least [] few r = refl
names atoms least (n ∷ ns) few r =
    ap (option_and_then (λ k. option_map (λ ms. k ∷ ms) (atoms_in atoms (k + 1) (map decimal ns))))
    (atom_spelled atoms least n few r.0 r.1)
    ∙ ap (option_map (λ ms. n ∷ ms)) (names atoms (n + 1) ns few r.2)

-- the fields of a line behind its first one
pub split_is : {A : Type 0} (o : Option A) (now : A → List ℕ) (fields : List (List ℕ))
    (first : List ℕ)
    → MatchOption o (fields ≡ first ∷ []) (λ r. fields ≡ first ∷ cut_fields (now r))
    → fields ≡ first ∷ fields_behind o now
split_is None now fields first h = h
split_is (Some r) now fields first h = h

cut_joined : (first : List ℕ) (ns : List ℕ) → All (λ b. eqb b 32 ≡ false) first
    → All (λ n. n < 10 ^ 18) ns
    → cut_fields (join_with_byte 32 (first ∷ map decimal ns)) ≡ first ∷ map decimal ns
cut_joined first [] clear short = slice_split_none (λ b. eqb b 32) first clear
cut_joined first (n ∷ ns) clear short =
    slice_split_at (λ b. eqb b 32) first 32 (join_with_byte 32 (decimal n ∷ map decimal ns)) clear
    refl
    ∙ ap (λ fs. first ∷ fs) (cut_joined (decimal n) ns
    (no_space n (All-head (λ n. n < 10 ^ 18) n ns short))
    (All-tail (λ n. n < 10 ^ 18) n ns short))

clear_letter : (b : Bool) → All (λ b. eqb b 32 ≡ false) (letter_of b)
clear_letter true = All-cons (λ b. eqb b 32 ≡ false) 120 [] refl (All-nil (λ b. eqb b 32 ≡ false))
clear_letter false = All-cons (λ b. eqb b 32 ≡ false) 112 [] refl (All-nil (λ b. eqb b 32 ≡ false))

-- The letter, and the entry.

kinds : (t u b : Bool)
    → ◌≡◌ {A = Option Bool} (cond t (Some true) (cond u (Some false) None)) (Some b)
    → ((b ≡ true) × (t ≡ true)) ⊎ ((b ≡ false) × (u ≡ true))
kinds true u b e = inl (cc, refl)
kinds false true b e = inr (cc, refl)
kinds false false b e = absurd cc

letter_from : (field : List ℕ) (b : Bool) → kind_of_letter field ≡ Some b → field ≡ letter_of b
letter_from field b e =
    elim (kinds (bytes_eq field (letter_of true)) (bytes_eq field (letter_of false)) b e) [
      | inl w ↦ (bytes_eq-Decides field (letter_of true)).0 w.1 ∙ ap letter_of (sym w.0)
      | inr w ↦ (bytes_eq-Decides field (letter_of false)).0 w.1 ∙ ap letter_of (sym w.0)
    ]

kind_of : (b : Bool) → kind_of_letter (letter_of b) ≡ Some b
kind_of true = refl
kind_of false = refl

both_parts : (o : Option Bool) (p : Option (List ℕ)) (entry : LogEntry)
    → entry_of_parts o p ≡ Some entry → (o ≡ Some entry.expanded) × (p ≡ Some entry.state)
both_parts None p entry e = absurd cc
both_parts (Some b) None entry e = absurd cc
both_parts (Some b) (Some held) entry e =
    let same : ◌≡◌ {A = LogEntry} (record { expanded = b; state = held }) entry = cc in
    (ap (λ (x : LogEntry). Some x.expanded) same, ap (λ (x : LogEntry). Some x.state) same)

module _ (atoms : ℕ) (line : List ℕ) where
  -- the fields of an entry's line
  cut_entry : atoms < 10 ^ 18 → (entry : LogEntry) → IsEntryLine atoms line entry
      → cut_fields line ≡ letter_of entry.expanded ∷ map decimal entry.state
  cut_entry few entry is =
      ap cut_fields is.spelled
      ∙ cut_joined (letter_of entry.expanded) entry.state (clear_letter entry.expanded)
      (All-weaker (λ n. n < atoms) (λ n. n < 10 ^ 18)
      (λ n less. omega arith) entry.state is.legal.below)

  entry_from : (fields : List (List ℕ)) (entry : LogEntry) → cut_fields line ≡ fields
      → entry_of_fields atoms fields ≡ Some entry → IsEntryLine atoms line entry
  entry_from [] entry cut e = absurd cc
  entry_from (letter ∷ fields) entry cut e =
      let parts = both_parts (kind_of_letter letter) (atoms_in atoms 0 fields) entry e in
      let held = named atoms 0 fields entry.state parts.1 in
      record {
        spelled = sym (join_with_byte-slice_split 32 line) ∙ ap (join_with_byte 32) (cut
            ∙ ap (λ f. f ∷ fields) (letter_from letter entry.expanded parts.0)
            ∙ ap (λ fs. letter_of entry.expanded ∷ fs) held.0);
        legal = set_from atoms entry.state held.1;
      }

  -- the entry of a line is the one whose line it is
  pub entry_is : (entry : LogEntry) → entry_in atoms line ≡ Some entry
      → IsEntryLine atoms line entry
  entry_is entry e = entry_from (cut_fields line) entry refl e

  -- the same of parts that were read one after the other
  pub parts_are : (letter held : List ℕ) (fields : List (List ℕ)) (b : Bool)
      → cut_fields line ≡ letter ∷ fields → Some b ≡ kind_of_letter letter
      → Some held ≡ atoms_in atoms 0 fields
      → IsEntryLine atoms line (record { expanded = b; state = held })
  parts_are letter held fields b cut kind atoms_are =
      entry_is (record { expanded = b; state = held }) (ap (entry_of_fields atoms) cut
      ∙ ap (λ o. entry_of_parts o (atoms_in atoms 0 fields)) (sym kind)
      ∙ ap (entry_of_parts (Some b)) (sym atoms_are))

  pub is_entry : atoms < 10 ^ 18 → (entry : LogEntry) → IsEntryLine atoms line entry
      → entry_in atoms line ≡ Some entry
  is_entry few entry is =
      ap (entry_of_fields atoms) (cut_entry few entry is)
      ∙ rw (kind_of entry.expanded) (rw (names atoms 0 entry.state few
      (from_parts 0 atoms entry.state (λ _. omega arith) is.legal.below is.legal.rises)) refl)
