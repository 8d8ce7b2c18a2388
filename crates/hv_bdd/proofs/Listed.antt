-- What lists of atoms and of literals say as marks, and as a state.
use Rattle.std.proofs.Common.{◌≡◌, ℕ, zero, suc, ◌<◌, ◌≤◌, ◌+◌, ◌∙◌, Bool, true, false, List, []}
use Rattle.std.proofs.Common.{◌∷◌, Option, None, Some, cond, get_or, length, set, refl, sym, ap}
use Rattle.std.proofs.Common.{arith, inl, inr}
use Rattle.std.proofs.lemmas.Bool.{cases_eq, cases_lt, false_from_ne_true}
use Rattle.std.proofs.lemmas.List.{get_or-map, get_or-set_other, get_or-set_same, get_or_past}
use Rattle.std.proofs.lemmas.List.{get_or_default, length-map, length-set, same_lists}
use Rattle.std.proofs.lemmas.List.FromFn.{get_or-map-range_with_len, length-map-range_with_len}
use Rattle.std.specs.Prelude.{IfSome}
use Rattle.std.specs.List.{Contains}
use Rattle.std.proofs.lemmas.Bool.Decides.{same_from_decides}
use Rattle.hv_task.specs.Atoms.{IsNext}
use Rattle.std.specs.List.Sorted.{IsStrictlyIncreasing}
use Rattle.hv_task.specs.State.{AreBelow, has_atom, names_atom, state_of}
use Rattle.hv_task.proofs.Places.{has_atom-state_of, length-state_of, names_atom-Decides}
use Rattle.hv_task.proofs.Rising.{rises_apart}
use Rattle.hv_task.proofs.Listing.{within_state}
use Rattle.hv_sets.specs.Cubes.{atoms_of}
use Rattle.hv_sets.specs.Working.Cubes.{IsFirstUpto}
use Rattle.hv_sets.specs.declared.literal.Literal.{Literal}
use Rattle.hv_bdd.specs.Live.{first_asked, bit_mark_of, no_marks}
use Rattle.hv_bdd.specs.Working.Marked.{IsSignOf, listed_mark, listed_marks, literal_at}
use Rattle.hv_bdd.specs.Working.Sets.{mark_literals}
use Rattle.hv_bdd.proofs.Marked.{length-no_marks, mark_of-no_marks}

-- lists without atoms mark nothing
pub no_listed : (atoms : ℕ) → listed_marks atoms [] [] ≡ no_marks atoms
no_listed atoms =
    let size = length-map-range_with_len (listed_mark [] []) 0 atoms in
    let none = length-no_marks atoms in
    same_lists (listed_marks atoms [] []) (no_marks atoms) (omega (arith, size, none))
    (λ p d less.
    get_or-map-range_with_len (listed_mark [] []) 0 atoms p p d (omega (arith, less, size))
    (let f : 0 + p ≡ p = omega arith in f)
    ∙ (sym (mark_of-no_marks atoms p (omega (arith, less, size)))
    ∙ get_or_default (no_marks atoms) p None d (omega (arith, less, size, none))))

-- the mark of an atom by the lists
pub mark_of-listed : (atoms p : ℕ) (ones zeros : List ℕ) → p < atoms
    → bit_mark_of (listed_marks atoms ones zeros) p ≡ listed_mark ones zeros p
mark_of-listed atoms p ones zeros less =
    get_or-map-range_with_len (listed_mark ones zeros) 0 atoms p p None less
    (let f : 0 + p ≡ p = omega arith in f)

pub length-literals : (ls : List Literal) (marks : List (Option Bool))
    → length (mark_literals ls marks) ≡ length marks
length-literals [] marks = refl
length-literals (l ∷ ls) marks =
    length-literals ls (set marks l.atom (Some l.positive))
    ∙ length-set marks l.atom (Some l.positive)

-- literals of other atoms leave a mark alone
pub unsigned : (ls : List Literal) (marks : List (Option Bool)) (a : ℕ)
    → ((k : ℕ) → k < length ls → (literal_at ls k).atom ≡ a → ⊥)
    → bit_mark_of (mark_literals ls marks) a ≡ bit_mark_of marks a
unsigned [] marks a none = refl
unsigned (l ∷ ls) marks a none =
    unsigned ls (set marks l.atom (Some l.positive)) a
    (λ k less same. none (suc k) (omega arith) same)
    ∙ get_or-set_other marks l.atom a (Some l.positive) None (λ e. none 0 (omega arith) (sym e))

-- the literal of an atom gives its sign
pub signed : (ls : List Literal) (marks : List (Option Bool)) (a i : ℕ)
    → ((j k : ℕ) → j < k → k < length ls → (literal_at ls j).atom < (literal_at ls k).atom)
    → i < length ls → (literal_at ls i).atom ≡ a → a < length marks
    → bit_mark_of (mark_literals ls marks) a ≡ Some (literal_at ls i).positive
signed [] marks a i rises less here within = absurd (omega arith)
signed (l ∷ ls) marks a zero rises less here within =
    unsigned ls (set marks l.atom (Some l.positive)) a
    (λ k inside same. let later = rises 0 (suc k) (omega arith) (omega arith) in omega arith)
    ∙ (ap (bit_mark_of (set marks l.atom (Some l.positive))) (sym here)
    ∙ get_or-set_same marks l.atom (Some l.positive) None (omega arith))
signed (l ∷ ls) marks a (suc i) rises less here within =
    let size = length-set marks l.atom (Some l.positive) in
    signed ls (set marks l.atom (Some l.positive)) a i
    (λ j k before inside. rises (suc j) (suc k) (omega arith) (omega arith)) (omega arith) here
    (omega arith)

-- literals whose atoms rise
pub rising : (ls : List Literal) → IsStrictlyIncreasing (atoms_of ls)
    → (j k : ℕ) → j < k → k < length ls → (literal_at ls j).atom < (literal_at ls k).atom
rising ls rises j k before inside =
    let d : Literal = record { atom = 0; positive = false } in
    let size = length-map ls (λ (l : Literal). l.atom) in
    let at_j = get_or-map (λ (l : Literal). l.atom) ls j d 0 (omega arith) in
    let at_k = get_or-map (λ (l : Literal). l.atom) ls k d 0 inside in
    let less = rises_apart (atoms_of ls) j k rises before (omega arith) in
    omega arith

-- a state by the list of its atoms holds just these
pub has_held : (n : ℕ) (held : List ℕ) (p : ℕ) → AreBelow n held
    → has_atom (state_of n held) p ≡ names_atom held p
has_held n held p below =
    elim (cases_lt p n) [
      | inl less ↦ has_atom-state_of n held p less
      | inr upto ↦ past upto (names_atom held p) refl
    ]
  where
    past : n ≤ p → (b : Bool) → names_atom held p ≡ b
        → has_atom (state_of n held) p ≡ names_atom held p
    past upto false e = get_or_past (state_of n held) p false
        (let size = length-state_of n held in omega arith) ∙ sym e
    past upto true e =
        let c = (names_atom-Decides held p).0 e in
        let less = below c.0 p c.1 in
        absurd (let is = c.2 in omega arith)

-- the first place that is asked for, where the next one is known
pub first_next : (asks : ℕ → Bool) (k v a : ℕ) → v ≤ a → a < v + k → asks a ≡ true
    → ((p : ℕ) → v ≤ p → p < a → asks p ≡ false) → first_asked asks k v ≡ a + 2
first_next asks zero v a upto within here before = absurd (omega arith)
first_next asks (suc k) v a upto within here before =
    elim (cases_eq v a) [
      | inl e ↦ ap (λ b. cond b (v + 2) (first_asked asks k (v + 1))) (ap asks e ∙ here)
          ∙ ap (λ w. w + 2) e
      | inr other ↦
          ap (λ b. cond b (v + 2) (first_asked asks k (v + 1)))
          (before v (omega arith) (omega (arith, other)))
          ∙ first_next asks k (v + 1) a (omega (arith, other)) (omega arith) here
          (λ p from less. before p (omega arith) less)
    ]

-- and where there is none
pub first_none : (asks : ℕ → Bool) (k v : ℕ) → ((p : ℕ) → v ≤ p → asks p ≡ false)
    → first_asked asks k v ≡ 1
first_none asks zero v none = refl
first_none asks (suc k) v none =
    ap (λ b. cond b (v + 2) (first_asked asks k (v + 1))) (none v (omega arith))
    ∙ first_none asks k (v + 1) (λ p from. none p (omega arith))

-- no literal has the atom where the one at the first place upto it doesn't
pub none_signed : (ls : List Literal) (a place : ℕ) → IsStrictlyIncreasing (atoms_of ls)
    → IsFirstUpto (atoms_of ls) a place
    → (place < length ls → (literal_at ls place).atom ≡ a → ⊥)
    → (k : ℕ) → k < length ls → (literal_at ls k).atom ≡ a → ⊥
none_signed ls a place rises first none k inside here =
    let d : Literal = record { atom = 0; positive = false } in
    let size = length-map ls (λ (l : Literal). l.atom) in
    let at_k = get_or-map (λ (l : Literal). l.atom) ls k d 0 inside in
    elim (cases_lt k place) [
      | inl less ↦ let below = first.1 k less in omega arith
      | inr upto ↦ elim (cases_eq k place) [
        | inl same ↦ none (omega arith) (ap (λ n. (literal_at ls n).atom) (sym same) ∙ here)
        | inr other ↦
            let at_place = get_or-map (λ (l : Literal). l.atom) ls place d 0
            (omega (arith, upto, other)) in
            let from = first.2 place (omega arith) (omega (arith, upto, other)) in
            let later = rising ls rises place k (omega (arith, upto, other)) inside in
            omega arith
      ]
    ]

-- the answer of a list is that of the test
pub is_named : (held : List ℕ) (p : ℕ) (b : Bool) → (b ≡ true → Contains held p)
    → (Contains held p → b ≡ true) → b ≡ names_atom held p
is_named held p b there back =
    same_from_decides {P = Contains held p} b (names_atom held p) (there, back)
    (names_atom-Decides held p)

-- what is read where no literal has the atom
pub read_listed : (ls : List Literal) (atoms a : ℕ) (ones zeros : List ℕ)
    → a < length (mark_literals ls (listed_marks atoms ones zeros))
    → ((k : ℕ) → k < length ls → (literal_at ls k).atom ≡ a → ⊥)
    → bit_mark_of (mark_literals ls (listed_marks atoms ones zeros)) a ≡ listed_mark ones zeros a
read_listed ls atoms a ones zeros within none =
    let size = length-literals ls (listed_marks atoms ones zeros) in
    let len = length-map-range_with_len (listed_mark ones zeros) 0 atoms in
    unsigned ls (listed_marks atoms ones zeros) a none
    ∙ mark_of-listed atoms a ones zeros (omega (arith, size, len, within))

pub read_signed : (ls : List Literal) (atoms a : ℕ) (ones zeros : List ℕ) (sign : Bool)
    → IsStrictlyIncreasing (atoms_of ls)
    → a < length (mark_literals ls (listed_marks atoms ones zeros)) → IsSignOf ls a (Some sign)
    → bit_mark_of (mark_literals ls (listed_marks atoms ones zeros)) a ≡ Some sign
read_signed ls atoms a ones zeros sign rises within is =
    let size = length-literals ls (listed_marks atoms ones zeros) in
    signed ls (listed_marks atoms ones zeros) a is.0 (rising ls rises) is.1 is.2
    (omega (arith, size, within))
    ∙ ap (λ (b : Bool). Some b) is.3

-- the marks of the two lists
pub is_one : (ones zeros : List ℕ) (a : ℕ) → Contains ones a → listed_mark ones zeros a ≡ Some true
is_one ones zeros a there =
    ap (λ b. cond b (Some true) (cond (names_atom zeros a) (Some false) None))
    ((names_atom-Decides ones a).1 there)

pub is_zero : (ones zeros : List ℕ) (a : ℕ) → (Contains ones a → ⊥) → Contains zeros a
    → listed_mark ones zeros a ≡ Some false
is_zero ones zeros a other there =
    ap (λ b. cond b (Some true) (cond (names_atom zeros a) (Some false) None))
    (false_from_ne_true (names_atom ones a) (λ e. other ((names_atom-Decides ones a).0 e)))
    ∙ ap (λ b. cond b (Some false) None) ((names_atom-Decides zeros a).1 there)

pub is_unmarked : (ones zeros : List ℕ) (a : ℕ) → (Contains ones a → ⊥) → (Contains zeros a → ⊥)
    → listed_mark ones zeros a ≡ None
is_unmarked ones zeros a other too =
    ap (λ b. cond b (Some true) (cond (names_atom zeros a) (Some false) None))
    (false_from_ne_true (names_atom ones a) (λ e. other ((names_atom-Decides ones a).0 e)))
    ∙ ap (λ b. cond b (Some false) None)
    (false_from_ne_true (names_atom zeros a) (λ e. too ((names_atom-Decides zeros a).0 e)))

pub found_literal : (ls : List Literal) (k : ℕ) (found : Literal) → k < length ls
    → found ≡ get_or ls k found → found ≡ literal_at ls k
found_literal ls k found less is =
    is ∙ get_or_default ls k found (record { atom = 0; positive = false }) less

pub next_within : (s : List Bool) (from : ℕ) (next : Option ℕ) → IsNext (has_atom s) from next
    → IfSome next (λ p. p < length s)
next_within s from None is = tt
next_within s from (Some p) is = within_state s p is.1
