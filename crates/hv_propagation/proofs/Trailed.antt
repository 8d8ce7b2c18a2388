-- Laws of trails: what is known of an atom is what the one literal of it on the trail says, and a
-- trail that says nothing of an atom is shorter than there are atoms.
use Rattle.std.proofs.Common.{◌≡◌, ℕ, zero, suc, ◌+◌, ◌*◌, ◌/◌, ◌%◌, ◌^◌, ◌==◌, ◌<◌, ◌≤◌, ◌∙◌, Bool}
use Rattle.std.proofs.Common.{true, false, not, cond, List, [], ◌∷◌, ◌++◌, length, replicate, map}
use Rattle.std.proofs.Common.{take, get_or, None, Some, refl, sym, ap, ap₂, arith, inl, inr}
use Rattle.std.proofs.Common.{below_more}
use Rattle.std.specs.Prelude.{slice_set}
use Rattle.std.proofs.lemmas.Bool.{cases_lt, cases_order}
use Rattle.std.proofs.lemmas.List.{get_or-replicate, length-replicate, length-set, length-map}
use Rattle.std.proofs.lemmas.List.{length-take-le, get_or-set_same, get_or-set_other, get_or-map}
use Rattle.std.proofs.lemmas.List.{get_or-take, take_more_set, map_more, map-append, take-map}
use Rattle.std.proofs.lemmas.List.{take-take, get_or_default}
use Rattle.std.proofs.lemmas.Nat.{div-mul-add, mod-mul-add}
use mir.Val.{bool_byte}
use Rattle.std.proofs.lemmas.List.Sums.{count_by-le-length, sum_by-set}
use Rattle.hv_sets.specs.declared.literal.Literal.{Literal}
use Rattle.std.specs.List.Sorted.{IsStrictlyIncreasing}
use Rattle.hv_task.proofs.Rising.{rises_apart}
use Rattle.hv_sets.specs.Cubes.{atoms_of}
use Rattle.hv_sets.specs.Working.Cubes.{IsFirstUpto}
use Rattle.hv_sets.proofs.Cubes.{atom_at}
use Rattle.hv_propagation.specs.Marks.{known, mark_of, mark_for}
use Rattle.hv_propagation.specs.Working.Marks.{unknown_in}
use Rattle.hv_propagation.specs.Working.Laws.{known-set_other, known-set_same, known_past}
use Rattle.hv_propagation.specs.Working.Trail.{AreJoined, trail_of}
use Rattle.hv_propagation.specs.Trail.{Knowledge, marked, marks_of, written}
use Rattle.hv_indexes.specs.Occurrences.{literal_of}

pub length-written : (ls : List Literal) (m : List ℕ) → length (written ls m) ≡ length m
length-written [] m = refl
length-written (l ∷ ls) m = length-written ls (slice_set m l.atom (mark_for l.positive))
    ∙ length-set m l.atom (mark_for l.positive)

-- one literal more
pub written-push : (ls : List Literal) (l : Literal) (m : List ℕ)
    → written (ls ++ l ∷ []) m ≡ slice_set (written ls m) l.atom (mark_for l.positive)
written-push [] l m = refl
written-push (x ∷ xs) l m = written-push xs l (slice_set m x.atom (mark_for x.positive))

-- marks that say nothing
pub length-zeros : (n : ℕ) → length (replicate {A = ℕ} n 0) ≡ n
length-zeros n = length-replicate {A = ℕ} n 0

pub known-replicate : (n p : ℕ) → known (replicate n 0) p ≡ None
known-replicate n p =
    elim (cases_lt p n) [
      | inl less ↦ ap mark_of (get_or-replicate n p 0 0 less)
      | inr past ↦ known_past (replicate n 0) p (let e = length-zeros n in omega arith)
    ]

-- a trail without a literal of the atom says nothing of it
pub written_none : (ls : List Literal) (m : List ℕ) (p : ℕ)
    → ((k : ℕ) (d : Literal) → k < length ls → (get_or ls k d).atom ≡ p → ⊥)
    → known (written ls m) p ≡ known m p
written_none [] m p none = refl
written_none (l ∷ ls) m p none =
    written_none ls (slice_set m l.atom (mark_for l.positive)) p
    (λ k d h e. none (suc k) d (omega arith) e)
    ∙ known-set_other m l.atom p l.positive (λ e. none 0 l (omega arith) (sym e))

-- where one literal is of the atom, it says what is known
pub written_at : (ls : List Literal) (m : List ℕ) (k : ℕ) (d : Literal) → k < length ls
    → (get_or ls k d).atom < length m
    → ((j : ℕ) (e : Literal) → j < length ls → (get_or ls j e).atom ≡ (get_or ls k d).atom → j ≡ k)
    → known (written ls m) (get_or ls k d).atom ≡ Some (get_or ls k d).positive
written_at [] m k d h below once = absurd (omega arith)
written_at (l ∷ ls) m zero d h below once =
    written_none ls (slice_set m l.atom (mark_for l.positive)) l.atom
    (λ j e less same. let no = once (suc j) e (omega arith) same in omega arith)
    ∙ known-set_same m l.atom l.positive below
written_at (l ∷ ls) m (suc k) d h below once =
    written_at ls (slice_set m l.atom (mark_for l.positive)) k d (omega arith)
    (let e = length-set m l.atom (mark_for l.positive) in omega arith)
    (λ j e less same. let at = once (suc j) e (omega arith) same in omega arith)

-- one mark more, one unknown less
pub unknown-set : (m : List ℕ) (p : ℕ) (b : Bool) → p < length m → known m p ≡ None
    → 1 + unknown_in (slice_set m p (mark_for b)) ≡ unknown_in m
unknown-set m p b h none =
    let e = sum_by-set (λ (x : ℕ). cond (x == 0) 1 0) m p (mark_for b) 0 h in
    let zero_here = is_zero (get_or m p 0) none in
    let one = shown (get_or m p 0 == 0) zero_here in
    let no = by b in omega arith
  where
    shown : (t : Bool) → t ≡ true → ◌≡◌ {A = ℕ} (cond t 1 0) 1
    shown true e = refl
    shown false e = absurd cc

    by : (b : Bool) → ◌≡◌ {A = ℕ} (cond (mark_for b == 0) 1 0) 0
    by true = refl
    by false = refl

    only : (t : Bool) (v : Bool) → cond t None (Some v) ≡ None → t ≡ true
    only true v e = refl
    only false v e = absurd cc

    is_zero : (x : ℕ) → mark_of x ≡ None → (x == 0) ≡ true
    is_zero x e = only (x == 0) (not (x == 1)) e

pub length-trail : (queue : List ℕ) (len : ℕ) → len ≤ length queue
    → length (trail_of queue len) ≡ len
length-trail queue len h = length-map (take len queue) literal_of ∙ length-take-le len queue h

pub trail_at : (queue : List ℕ) (len k : ℕ) (d : Literal) → len ≤ length queue → k < len
    → get_or (trail_of queue len) k d ≡ literal_of (get_or queue k 0)
trail_at queue len k d h less =
    let e = length-take-le len queue h in
    get_or-map literal_of (take len queue) k 0 d (omega arith)
    ∙ ap literal_of (get_or-take len queue k 0 less)

pub trail_pushed : (queue : List ℕ) (len entry : ℕ) → len < length queue
    → trail_of (slice_set queue len entry) (len + 1) ≡ trail_of queue len ++ literal_of entry ∷ []
trail_pushed queue len entry h = ap (map literal_of) (take_more_set queue len entry h)
    ∙ map-append literal_of (take len queue) (entry ∷ [])

pub literal_is : (l : Literal) → literal_of (l.atom * 2 + bool_byte l.positive) ≡ l
literal_is l = by l.atom l.positive
  where
    by : (p : ℕ) (b : Bool) → literal_of (p * 2 + bool_byte b) ≡ record { atom = p; positive = b }
    by p true =
        ap₂ (λ (a r : ℕ). let l : Literal = record { atom = a; positive = r == 1 } in l)
        (div-mul-add p 2 1 (omega arith)) (mod-mul-add p 2 1 (omega arith))
    by p false =
        ap₂ (λ (a r : ℕ). let l : Literal = record { atom = a; positive = r == 1 } in l)
        (div-mul-add p 2 0 (omega arith)) (mod-mul-add p 2 0 (omega arith))

-- the prefix of a trail
pub trail_front : (queue : List ℕ) (len part : ℕ) → part ≤ len
    → trail_of queue part ≡ take part (trail_of queue len)
trail_front queue len part h = sym (take-map literal_of part (take len queue)
    ∙ ap (map literal_of) (take-take part len queue h))

-- a part of a trail is a trail
pub joined_part : (roots : List ℕ) (places queue : List ℕ) (len part : ℕ)
    → AreJoined roots places queue len → part ≤ len → AreJoined roots places queue part
joined_part roots places queue len part j h = record {
  places_room = j.places_room;
  queue_room = j.queue_room;
  within = let w = j.within in omega arith;
  below = λ k less. j.below k (omega arith);
  back = λ k less. j.back k (omega arith);
  fresh = λ k less. j.fresh k (omega arith);
}

-- no two entries are of one atom
pub entry_once : (roots : List ℕ) (places queue : List ℕ) (len i k : ℕ)
    → AreJoined roots places queue len → i < len → k < len
    → get_or queue i 0 / 2 ≡ get_or queue k 0 / 2 → i ≡ k
entry_once roots places queue len i k j hi hk e = sym (j.back i hi)
    ∙ (ap (λ p. get_or places p 0) e ∙ j.back k hk)

-- what is known of an atom of which no entry is, and of that of an entry
pub read_none : (roots : List ℕ) (places queue : List ℕ) (len p : ℕ)
    → AreJoined roots places queue len
    → ((k : ℕ) → k < len → get_or queue k 0 / 2 ≡ p → ⊥)
    → known (marks_of (record { roots = roots; trail = trail_of queue len })) p ≡ known roots p
read_none roots places queue len p j none =
    let size = length-trail queue len j.within in
    written_none (trail_of queue len) roots p
    (λ k d h e. none k (omega arith) (sym (ap
    (λ (l : Literal). l.atom) (trail_at queue len k d j.within (omega arith))) ∙ e))

pub read_some : (roots : List ℕ) (places queue : List ℕ) (len k : ℕ)
    → AreJoined roots places queue len → k < len
    → known (marks_of (record { roots = roots; trail = trail_of queue len })) (get_or queue k 0 / 2)
    ≡ Some (get_or queue k 0 % 2 == 1)
read_some roots places queue len k j h =
    let size = length-trail queue len j.within in
    let d = literal_of 0 in
    let at : get_or (trail_of queue len) k d
    ≡ literal_of (get_or queue k 0) = trail_at queue len k d j.within h in
    let atom : (get_or (trail_of queue len) k d).atom ≡ get_or queue k 0 / 2 = ap
    (λ (l : Literal). l.atom) at in
    let below = j.below k h in
    sym (ap (known (written (trail_of queue len) roots)) atom)
    ∙ (written_at (trail_of queue len) roots k d (omega arith) (omega arith)
    (λ i e less same. entry_once roots places queue len i k j (omega arith) h
    (sym (ap (λ (l : Literal). l.atom) (trail_at queue len i e j.within (omega arith)))
    ∙ (same ∙ atom)))
    ∙ ap (λ (l : Literal). Some l.positive) at)

-- each entry takes one from what is unknown
pub unknown_left : (roots : List ℕ) (places queue : List ℕ) (len : ℕ)
    → AreJoined roots places queue len
    → unknown_in (marks_of (record { roots = roots; trail = trail_of queue len })) + len
    ≤ unknown_in roots
unknown_left roots places queue zero j = omega arith
unknown_left roots places queue (suc len) j =
    let before = joined_part roots places queue (suc len) len j (omega arith) in
    let less = unknown_left roots places queue len before in
    let room = j.within in
    let l = literal_of (get_or queue len 0) in
    let old = marks_of (record { roots = roots; trail = trail_of queue len }) in
    let size : length old ≡ length roots = length-written (trail_of queue len) roots in
    let below = j.below len (omega arith) in
    let none : known old l.atom ≡ None =
    read_none roots places queue len l.atom before
    (λ k h e. let same = entry_once roots places queue (suc len) k len j (omega arith)
    (omega arith) e in omega arith)
    ∙ j.fresh len (omega arith) in
    let one = unknown-set old l.atom l.positive (omega arith) none in
    let more : marks_of (record { roots = roots; trail = trail_of queue (suc len) })
    ≡ slice_set old l.atom (mark_for l.positive) =
    ap (λ ls. written ls roots) (trail_more queue len room)
    ∙ written-push (trail_of queue len) l roots in
    let count = ap unknown_in more in omega arith
  where
    trail_more : (queue : List ℕ) (len : ℕ) → suc len ≤ length queue
        → trail_of queue (suc len) ≡ trail_of queue len ++ literal_of (get_or queue len 0) ∷ []
    trail_more queue len h =
        let e : suc len ≡ len + 1 = omega arith in
        ap (trail_of queue) e ∙ map_more literal_of queue len 0 (omega arith)

-- so where something is unknown there is room
pub room_left : (roots : List ℕ) (places queue : List ℕ) (len p : ℕ)
    → AreJoined roots places queue len → p < length roots
    → known (marks_of (record { roots = roots; trail = trail_of queue len })) p ≡ None
    → len < length roots
room_left roots places queue len p j h none =
    let old = marks_of (record { roots = roots; trail = trail_of queue len }) in
    let size : length old ≡ length roots = length-written (trail_of queue len) roots in
    let one = unknown-set old p true (omega arith) none in
    let left = unknown_left roots places queue len j in
    let most = count_by-le-length (λ (x : ℕ). x == 0) roots in omega arith

-- one entry more
pub joined_more : (roots : List ℕ) (places queue : List ℕ) (len p entry : ℕ)
    → AreJoined roots places queue len → p < length roots
    → known (marks_of (record { roots = roots; trail = trail_of queue len })) p ≡ None → entry / 2 ≡
    p
    → AreJoined roots (slice_set places p len) (slice_set queue len entry) (len + 1)
joined_more roots places queue len p entry j h none e =
    let room = room_left roots places queue len p j h none in
    let a = length-set places p len in
    let b = length-set queue len entry in
    let pr = j.places_room in
    let qr = j.queue_room in
    let apart : (k : ℕ) → k < len → get_or queue k 0 / 2 ≡ p → ⊥ = λ k less same.
    (let known_p : known (marks_of (record { roots = roots; trail = trail_of queue len })) p
    ≡ Some (get_or queue k 0 % 2 == 1) =
    sym (ap (known (marks_of (record { roots = roots; trail = trail_of queue len }))) same)
    ∙ read_some roots places queue len k j less in
    let clash : None ≡ Some (get_or queue k 0 % 2 == 1) = sym none ∙ known_p in absurd cc) in
    let open_base : known roots p ≡ None = sym (read_none roots places queue len p j apart) ∙ none
    in
    record {
      places_room = omega arith;
      queue_room = omega arith;
      within = omega arith;
      below = below_more (λ k. get_or (slice_set queue len entry) k 0 / 2 < length roots) len
          (λ k less. let same = get_or-set_other queue len k entry 0 (λ x. omega arith) in
          let old = j.below k less in let z = ap (λ n. n / 2) same in omega arith)
          (let same = get_or-set_same queue len entry 0 (omega arith) in
          let z = ap (λ n. n / 2) same in omega arith);
      back = below_more (λ k. get_or (slice_set places p len)
          (get_or (slice_set queue len entry) k 0 / 2) 0 ≡ k) len
          (λ k less.
          let other : (get_or queue k 0 / 2 ≡ p → ⊥) = λ same.
          (let known_p : known (marks_of (record { roots = roots; trail = trail_of queue len })) p
          ≡ Some (get_or queue k 0 % 2 == 1) =
          sym (ap (known (marks_of (record { roots = roots; trail = trail_of queue len }))) same)
          ∙ read_some roots places queue len k j less in cc) in
          ap (λ n. get_or (slice_set places p len) (n / 2) 0)
          (get_or-set_other queue len k entry 0 (λ x. omega arith))
          ∙ (get_or-set_other places p (get_or queue k 0 / 2) len 0 other ∙ j.back k less))
          (ap (λ n. get_or (slice_set places p len) (n / 2) 0)
          (get_or-set_same queue len entry 0 (omega arith))
          ∙ (ap (λ n. get_or (slice_set places p len) n 0) e
          ∙ get_or-set_same places p len 0 (omega arith)));
      fresh = below_more (λ k. known roots (get_or (slice_set queue len entry) k 0 / 2) ≡ None) len
          (λ k less. ap (λ n. known roots (n / 2))
          (get_or-set_other queue len k entry 0 (λ x. omega arith)) ∙ j.fresh k less)
          (ap (λ n. known roots (n / 2)) (get_or-set_same queue len entry 0 (omega arith))
          ∙ (ap (known roots) e ∙ open_base));
    }

-- why no entry is of an atom: its place is none of an entry, or that entry is of another atom
pub no_entry_past : (roots : List ℕ) (places queue : List ℕ) (len p place : ℕ)
    → AreJoined roots places queue len → p < length roots
    → place ≡ get_or places p place → len ≤ place → (k : ℕ) → k < len → get_or queue k 0 / 2 ≡ p → ⊥
no_entry_past roots places queue len p place j h read past k less e =
    let room = j.places_room in
    let at : place ≡ get_or places p 0 = read ∙ get_or_default places p place 0 (omega arith) in
    let back : get_or places p 0 ≡ k = sym (ap (λ n. get_or places n 0) e) ∙ j.back k less in
    omega arith

pub no_entry_other : (roots : List ℕ) (places queue : List ℕ) (len p place entry : ℕ)
    → AreJoined roots places queue len → p < length roots
    → place ≡ get_or places p place → place < len → entry ≡ get_or queue place entry
    → (entry / 2 ≡ p → ⊥)
    → (k : ℕ) → k < len → get_or queue k 0 / 2 ≡ p → ⊥
no_entry_other roots places queue len p place entry j h read less entry_read other k below e =
    let room = j.places_room in
    let within = j.within in
    let at : place ≡ get_or places p 0 = read ∙ get_or_default places p place 0 (omega arith) in
    let back : get_or places p 0 ≡ k = sym (ap (λ n. get_or places n 0) e) ∙ j.back k below in
    let same : place ≡ k = at ∙ back in
    let here : entry ≡ get_or queue k 0 = entry_read
    ∙ (get_or_default queue place entry 0 (omega arith) ∙ ap (λ n. get_or queue n 0) same) in
    other (ap (λ n. n / 2) here ∙ e)

-- and what the entry at the place of an atom says, if it is of the atom
pub read_entry : (roots : List ℕ) (places queue : List ℕ) (len p place entry : ℕ)
    → AreJoined roots places queue len → place < len
    → entry ≡ get_or queue place entry → entry / 2 ≡ p
    → known (marks_of (record { roots = roots; trail = trail_of queue len })) p
    ≡ Some (entry % 2 == 1)
read_entry roots places queue len p place entry j less read e =
    let within = j.within in
    let here : get_or queue place 0 ≡ entry = sym
    (read ∙ get_or_default queue place entry 0 (omega arith)) in
    sym (ap (known (marks_of (record { roots = roots; trail = trail_of queue len })))
    (ap (λ n. n / 2) here ∙ e))
    ∙ (read_some roots places queue len place j less ∙ ap (λ (n : ℕ). Some (n % 2 == 1)) here)

pub length-marked : (n : ℕ) (ls : List Literal) → length (marked n ls) ≡ n
length-marked n ls = length-written ls (replicate n 0) ∙ length-zeros n

pub length-marks : (k : Knowledge) → length (marks_of k) ≡ length k.roots
length-marks k = length-written k.trail k.roots

-- twice an atom, and one more if it is positive
pub entry_below : (atom : ℕ) (sign : Bool) → atom < 2 ^ 31 → atom * 2 + bool_byte sign < 2 ^ 32
entry_below atom true less = omega arith
entry_below atom false less = omega arith

-- room without an entry
pub joined_none : (roots places queue : List ℕ) → length roots ≤ length places
    → length roots ≤ length queue → AreJoined roots places queue 0
joined_none roots places queue a b = record {
  places_room = a;
  queue_room = b;
  within = omega arith;
  below = λ k less. absurd (omega arith);
  back = λ k less. absurd (omega arith);
  fresh = λ k less. absurd (omega arith);
}

-- what literals by rising atoms say of an atom
pub said_at : (ls : List Literal) (n p place : ℕ) (l : Literal) → IsStrictlyIncreasing (atoms_of ls)
    → p < n → place < length ls
    → get_or ls place l ≡ l → l.atom ≡ p → known (marked n ls) p ≡ Some l.positive
said_at ls n p place l rises below within here same =
    let zeros = length-zeros n in
    let atom : (get_or ls place l).atom ≡ p = ap (λ (x : Literal). x.atom) here ∙ same in
    sym (ap (known (marked n ls)) atom)
    ∙ (written_at ls (replicate n 0) place l within (omega arith)
    (λ j e less other. apart j less (atom_at ls j e less
    ∙ (other ∙ sym (atom_at ls place l within))))
    ∙ ap (λ (x : Literal). Some x.positive) here)
  where
    apart : (j : ℕ) → j < length ls → get_or (atoms_of ls) j 0 ≡ get_or (atoms_of ls) place 0
        → j ≡ place
    apart j less e =
        let size = length-map ls (λ (l : Literal). l.atom) in
        elim (cases_order j place) [
          | inl same ↦ same
          | inr (inl before) ↦ let low = rises_apart (atoms_of ls) j place rises before
              (omega arith) in absurd (omega arith)
          | inr (inr after) ↦ let low = rises_apart (atoms_of ls) place j rises after
              (omega arith) in absurd (omega arith)
        ]

pub said_none : (ls : List Literal) (n p place : ℕ) → IsStrictlyIncreasing (atoms_of ls)
    → IsFirstUpto (atoms_of ls) p place
    → ((d : Literal) → place < length ls → (get_or ls place d).atom ≡ p → ⊥)
    → known (marked n ls) p ≡ None
said_none ls n p place rises first other =
    written_none ls (replicate n 0) p (λ k d less same. apart k d less same) ∙ known-replicate n p
  where
    apart : (k : ℕ) (d : Literal) → k < length ls → (get_or ls k d).atom ≡ p → ⊥
    apart k d less same =
        let size = length-map ls (λ (l : Literal). l.atom) in
        let at : get_or (atoms_of ls) k 0 ≡ p = atom_at ls k d less ∙ same in
        elim (cases_order k place) [
          | inl here ↦ other d (omega (arith, here))
              (sym (ap (λ j. (get_or ls j d).atom) here) ∙ same)
          | inr (inl before) ↦ let low = first.1 k before in omega arith
          | inr (inr after) ↦
              let low = first.2 place (omega arith) (omega arith) in
              let high = rises_apart (atoms_of ls) place k rises after (omega arith) in omega arith
        ]
