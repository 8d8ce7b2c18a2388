-- Why entries that stand in the queue of a trail are known to be true, and what comes of putting
-- them there.
use Rattle.std.proofs.Common.{◌≡◌, ◌==◌, ℕ, ◌+◌, ◌-◌, ◌<◌, ◌≤◌, ◌/◌, ◌%◌, ◌∙◌, ◌++◌, List, [], ◌∷◌}
use Rattle.std.proofs.Common.{Bool, true, false, not, Some, None, length, get_or, drop, take, refl}
use Rattle.std.proofs.Common.{◌⊎◌, sym, ap, arith, below_more, inl, inr, subst}
use Rattle.std.proofs.Math.Bool.{beq}
use Rattle.std.proofs.lemmas.Bool.{cases_lt}
use Rattle.std.proofs.lemmas.List.{append-nil, get_or-drop, get_or-take, get_or_default}
use Rattle.std.proofs.lemmas.List.{length-drop, length-take, length-take-le}
use Rattle.std.proofs.Math.ListN.{get_or-eq_default}
use Rattle.std.proofs.lemmas.List.{take_all}
use Rattle.std.proofs.lemmas.List.Elements.{All-contains}
use Rattle.std.proofs.lemmas.List.Folds.{Any-from_list_any}
use Rattle.std.specs.List.{Contains}
use Rattle.std.specs.Prelude.{slice_set}
use Rattle.hv_indexes.specs.declared.occurrences.Standing.{Standing}
use Rattle.hv_indexes.specs.Implied.{IsPair}
use Rattle.hv_indexes.specs.Occurrences.{AreStanding, entry_or_none, literal_of, no_literal}
use Rattle.hv_indexes.specs.Places.{clause_at}
use Rattle.hv_indexes.proofs.Standings.{inside_at, pair_at}
use Rattle.hv_sets.specs.declared.literal.Literal.{Literal}
use Rattle.hv_sets.specs.Truth.{in_clause, in_clauses, in_literal}
use Rattle.hv_propagation.specs.declared.found_run.Forced.{Forced}
use Rattle.hv_propagation.specs.Chase.{IsFollowed}
use Rattle.hv_propagation.specs.Clauses.{AreClauses}
use Rattle.hv_propagation.specs.Units.{IsSettled, value_of}
use Rattle.hv_propagation.specs.Marks.{known, over, Agrees}
use Rattle.hv_propagation.specs.Trail.{Knowledge, marks_of}
use Rattle.hv_propagation.specs.Working.FoundRun.{AreKnownEntries, AreQueued, AreTrueBehind}
use Rattle.hv_propagation.specs.Working.FoundRun.{IsForcedEntry, IsKnownEntry, IsRun, on_trail}
use Rattle.hv_propagation.specs.Working.Trail.{AreJoined, trail_of}
use Rattle.hv_propagation.proofs.Chasing.{followed_none, followed_then, marked_more, true_at}
use Rattle.hv_propagation.proofs.Marked.{agrees_write, extends_same, extends_write}
use Rattle.hv_propagation.proofs.Marked.{has_atom-literal, over-none, value_false}
use Rattle.hv_propagation.specs.Working.Laws.{value_marked}
use Rattle.hv_propagation.proofs.PartnerEntries.{pair_settled}
use Rattle.hv_propagation.proofs.Rounds.{never}
use Rattle.hv_propagation.proofs.Trailed.{joined_more}
use Rattle.hv_propagation.proofs.Trailed.{no_entry_other, no_entry_past, read_none, read_some}
use Rattle.hv_propagation.proofs.Trailed.{room_left, trail_pushed}

-- the part from a place on
pub part_behind : (from : ℕ) (xs : List ℕ) → take (length xs - from) (drop from xs) ≡ drop from xs
part_behind from xs = take_all (length xs - from) (drop from xs)
    (let size = length-drop from xs in omega arith)

-- entries are in the queue where they follow each other there
pub run_queued : (entries queue : List ℕ) (from place count : ℕ)
    → count ≤ length (drop from entries) → count ≤ length (drop place queue)
    → ((k : ℕ) → k < count → get_or (drop from entries) k 0 ≡ get_or (drop place queue) k 0)
    → AreQueued entries queue from (from + count)
run_queued entries queue from place count one other same = λ k past less.
    let i = k - from in
    let wide = length-drop from entries in
    let room = length-drop place queue in
    let x = entry_or_none entries k in
    let here : from + i ≡ k = omega arith in (
      place + i,
      omega arith,
      get_or_default queue (place + i) x 0 (omega arith)
          ∙ (sym (get_or-drop place queue i 0)
          ∙ (sym (same i (omega arith))
          ∙ (get_or-drop from entries i 0
          ∙ (ap (λ n. get_or entries n 0) here
          ∙ get_or_default entries k 0 no_literal (omega arith))))),
    )

-- what an entry of the queue denotes is known to be true
pub queued_known : (roots places queue : List ℕ) (len entry : ℕ)
    → AreJoined roots places queue len → length roots ≤ 2147483647
    → Contains (take len queue) entry
    → IsKnownEntry (marks_of (record { roots = roots; trail = trail_of queue len })) entry
queued_known roots places queue len entry joined few has =
    let k = has.0 in
    let size = length-take-le len queue joined.within in
    let within = has.1 in
    let less : k < len = omega arith in
    let at : get_or queue k 0 ≡ entry = sym (get_or-take len queue k 0 less)
    ∙ (get_or_default (take len queue) k 0 entry within ∙ has.2) in
    let low = joined.below k less in
    record {
      some = λ none. let half = ap (λ n. n / 2) at in omega arith;
      known = sym (ap (λ n. known (marks_of (record { roots = roots; trail = trail_of queue len }))
          (n / 2)) at)
          ∙ (read_some roots places queue len k joined less ∙ ap (λ n. Some (n % 2 == 1)) at);
    }

-- of two entries of one atom the one denotes the opposite of the other
other_sign : (a b : ℕ) → a / 2 ≡ b / 2 → (a ≡ b → ⊥) → (a % 2 == 1) ≡ not (b % 2 == 1)
other_sign a b same differ =
    elim (cases_lt (a % 2) 1) [
      | inl low ↦
          elim (cases_lt (b % 2) 1) [
            | inl too ↦ absurd (differ (omega arith))
            | inr one ↦
                let zero_a : a % 2 ≡ 0 = omega arith in
                let one_b : b % 2 ≡ 1 = omega arith in
                ap (λ n. n == 1) zero_a ∙ sym (ap (λ n. not (n == 1)) one_b)
          ]
      | inr high ↦
          elim (cases_lt (b % 2) 1) [
            | inl low ↦
                let one_a : a % 2 ≡ 1 = omega arith in
                let zero_b : b % 2 ≡ 0 = omega arith in
                ap (λ n. n == 1) one_a ∙ sym (ap (λ n. not (n == 1)) zero_b)
            | inr too ↦ absurd (differ (omega arith))
          ]
    ]

-- a literal of whose atom nothing is known is put last
pub push_followed : (k : Knowledge) (l : Literal) → l.atom < length k.roots
    → known (marks_of k) l.atom ≡ None
    → IsFollowed (λ state. in_literal l state ≡ true) k
    (record { roots = k.roots; trail = k.trail ++ l ∷ [] }) true
push_followed k l within none =
    let new : Knowledge = record { roots = k.roots; trail = k.trail ++ l ∷ [] } in
    let more = marked_more k l within in
    record {
      roots = refl;
      more = (l ∷ [], refl);
      grows = extends_write (marks_of k) (marks_of new) l.atom none more.others;
      follows = λ state size holds agrees.
          agrees_write (marks_of k) (marks_of new) l.atom l.positive state more.here more.others
          (has_atom-literal l state holds) agrees;
      broken = λ is. never is;
    }

-- a literal whose opposite is known to be true
pub clash_followed : (k : Knowledge) (l : Literal) → known (marks_of k) l.atom
    ≡ Some (not l.positive)
    → IsFollowed (λ state. in_literal l state ≡ true) k k false
clash_followed k l out = record {
  roots = refl;
  more = ([], sym (append-nil k.trail));
  grows = extends_same (marks_of k);
  follows = λ state size holds agrees. agrees;
  broken = λ is state size holds agrees. clash l.positive
      (sym (has_atom-literal l state holds) ∙ agrees l.atom (not l.positive) out);
}
  where
    clash : (b : Bool) → b ≡ not b → ⊥
    clash true e = never e
    clash false e = never (sym e)

-- a literal of whose atom something is known
known_followed : (k : Knowledge) (l : Literal) (value : Bool)
    → known (marks_of k) l.atom ≡ Some value
    → IsFollowed (λ state. in_literal l state ≡ true) k k (beq value l.positive)
known_followed k l value is = by (beq value l.positive) refl
  where
    differ : (a b : Bool) → beq a b ≡ false → a ≡ not b
    differ true true e = never e
    differ true false e = refl
    differ false true e = refl
    differ false false e = never e

    by : (b : Bool) → beq value l.positive ≡ b
        → IsFollowed (λ state. in_literal l state ≡ true) k k b
    by true e = followed_none (λ state. in_literal l state ≡ true) k
    by false e = clash_followed k l (is ∙ ap (λ (b : Bool). Some b) (differ value l.positive e))

same_sign : (a b : Bool) → beq a b ≡ true → a ≡ b
same_sign true true e = refl
same_sign false false e = refl
same_sign true false e = never (sym e)
same_sign false true e = never (sym e)

module _ (entry : ℕ) (roots places queue : List ℕ) (len place : ℕ)
    (within : entry / 2 < length roots) (joined : AreJoined roots places queue len)
    (read : place ≡ get_or places (entry / 2) 0) where
  -- the entry is there
  pub forced_found : (found : ℕ) → place < len → found ≡ get_or queue place 0 → found ≡ entry
      → IsForcedEntry entry roots (on_trail roots queue len) places queue
      (record { len = len; holds = true })
  forced_found found less here same = record {
    joined = joined;
    followed = followed_none (λ state. in_literal (literal_of entry) state ≡ true)
        (on_trail roots queue len);
    known = λ is. ap (λ n. known (marks_of (on_trail roots queue len)) (n / 2))
        (sym (sym here ∙ same))
        ∙ (read_some roots places queue len place joined less
        ∙ ap (λ n. Some (n % 2 == 1)) (sym here ∙ same));
  }

  -- its opposite is there
  pub forced_out : (found : ℕ) → place < len → found ≡ get_or queue place 0
      → (found ≡ entry → ⊥) → found / 2 ≡ entry / 2
      → IsForcedEntry entry roots (on_trail roots queue len) places queue
      (record { len = len; holds = false })
  forced_out found less here differ same = record {
    joined = joined;
    followed = clash_followed (on_trail roots queue len) (literal_of entry)
        (ap (λ n. known (marks_of (on_trail roots queue len)) n)
        (sym (ap (λ n. n / 2) (sym here) ∙ same))
        ∙ (read_some roots places queue len place joined less
        ∙ ap (λ (b : Bool). Some b) (ap (λ n. n % 2 == 1) (sym here)
        ∙ other_sign found entry same differ)));
    known = λ is. never (sym is);
  }

  -- the trail tells nothing of its atom
  module _ (none : (k : ℕ) → k < len → get_or queue k 0 / 2 ≡ entry / 2 → ⊥) where
    -- something was known before
    pub forced_before : (value : Bool) → Some value ≡ known roots (entry / 2)
        → IsForcedEntry entry roots (on_trail roots queue len) places queue
        (record { len = len; holds = beq value (entry % 2 == 1) })
    forced_before value before =
        let is : known (marks_of (on_trail roots queue len)) (entry / 2) ≡ Some value =
        read_none roots places queue len (entry / 2) joined none ∙ sym before in
        record {
          joined = joined;
          followed = known_followed (on_trail roots queue len) (literal_of entry) value is;
          known = λ holds. is
              ∙ ap (λ (b : Bool). Some b) (same_sign value (entry % 2 == 1) holds);
        }

    module _ (before : None ≡ known roots (entry / 2)) where
      open_atom : known (marks_of (on_trail roots queue len)) (entry / 2) ≡ None
      open_atom = read_none roots places queue len (entry / 2) joined none ∙ sym before

      -- there is room for it
      pub force_room : len < length roots
      force_room = room_left roots places queue len (entry / 2) joined within open_atom

      -- and it is put last
      pub forced_new :
          IsForcedEntry entry roots (on_trail roots queue len) (slice_set places (entry / 2) len)
          (slice_set queue len entry) (record { len = len + 1; holds = true })
      forced_new =
          let room = force_room in
          let rows = joined.queue_room in
          let old = on_trail roots queue len in
          let l = literal_of entry in
          let new : Knowledge = record { roots = old.roots; trail = old.trail ++ l ∷ [] } in
          let pushed : new ≡ on_trail roots (slice_set queue len entry) (len + 1) =
          ap (λ (ls : List Literal). let k : Knowledge = record { roots = roots; trail = ls } in k)
          (sym (trail_pushed queue len entry (omega arith))) in
          let more = marked_more old l within in
          record {
            joined = joined_more roots places queue len (entry / 2) entry joined within open_atom
                refl;
            followed = subst (λ (k : Knowledge). IsFollowed (λ state. in_literal l state ≡ true) old
                k true) pushed (push_followed old l within open_atom);
            known = λ is. subst (λ (k : Knowledge). known (marks_of k) (entry / 2)
                ≡ Some (entry % 2 == 1)) pushed more.here;
          }

  -- no entry is of its atom
  pub none_past : len ≤ place → (k : ℕ) → k < len → get_or queue k 0 / 2 ≡ entry / 2 → ⊥
  none_past past = no_entry_past roots places queue len (entry / 2) place joined within
      (read ∙ get_or_default places (entry / 2) 0 place
      (let room = joined.places_room in omega arith)) past

  pub none_other : (found : ℕ) → place < len → found ≡ get_or queue place 0
      → (found / 2 ≡ entry / 2 → ⊥) → (k : ℕ) → k < len → get_or queue k 0 / 2 ≡ entry / 2 → ⊥
  none_other found less here other = no_entry_other roots places queue len (entry / 2) place found
      joined within
      (read ∙ get_or_default places (entry / 2) 0 place
      (let room = joined.places_room in omega arith)) less
      (here ∙ get_or_default queue place 0 found
      (let room = joined.within in omega arith)) other

-- a run at its beginning
pub run_begun : (entries : List ℕ) (from index : ℕ) (roots places queue : List ℕ) (len : ℕ)
    → length roots ≤ 2147483647 → AreJoined roots places queue len → from ≤ index
    → AreQueued entries (take len queue) from index
    → IsRun entries from roots (on_trail roots queue len) places queue
    (record { index = index; len = len; holds = true })
run_begun entries from index roots places queue len few joined after queued = record {
  after = after;
  joined = joined;
  followed = followed_none (AreTrueBehind entries from) (on_trail roots queue len);
  known = λ is k past less. queued_known roots places queue len (entry_or_none entries k) joined few
      (queued k past less);
}

-- and one entry further
pub run_step : (entries : List ℕ) (from index entry : ℕ) (roots : List ℕ)
    (old : Knowledge) (places queue more_places more_queue : List ℕ) (len : ℕ) (forced : Forced)
    → length roots ≤ 2147483647 → index < length entries → entry ≡ get_or entries index 0
    → entry / 2 < length roots
    → IsRun entries from roots old places queue (record { index = index; len = len; holds = true })
    → IsForcedEntry entry roots (on_trail roots queue len) more_places more_queue forced
    → (holds : Bool) → forced.holds ≡ holds → IsRun entries from roots old more_places more_queue
    (record { index = index + 1; len = forced.len; holds = holds })
run_step entries from index entry roots old places queue more_places more_queue len forced few less
    read within run one holds is =
    let same : entry ≡ entry_or_none entries index = read
    ∙ get_or_default entries index 0 no_literal less in
    let after = run.after in
    let some : entry_or_none entries index ≡ no_literal → ⊥ = λ none.
    let half = ap (λ n. n / 2) (same ∙ none) in omega arith in
    let mid = marks_of (on_trail roots queue len) in
    let new = marks_of (on_trail roots more_queue forced.len) in
    let Known : ℕ → Type 0 = λ k. from ≤ k → IsKnownEntry new (entry_or_none entries k) in
    subst (λ (answer : Bool). IsRun entries from roots old more_places more_queue
    (record { index = index + 1; len = forced.len; holds = answer })) is
    (record {
      after = omega arith;
      joined = one.joined;
      followed = followed_then (AreTrueBehind entries from)
          (λ state. in_literal (literal_of entry) state ≡ true) old (on_trail roots queue len)
          (on_trail roots more_queue forced.len) forced.holds
          (λ state size all. subst (λ n. in_literal (literal_of n) state ≡ true) (sym same)
          (all index after less some)) run.followed one.followed;
      known = λ yes k past before. below_more Known index
          (λ j earlier behind. let known_j = run.known refl j behind earlier in
          record { some = known_j.some; known = one.followed.grows _ _ known_j.known })
          (λ behind. subst (λ n. IsKnownEntry new n) same
          (record {
            some = λ none. some (sym same ∙ none);
            known = one.known yes;
          })) k before past;
    })

-- beside a literal that is known to be true a clause is settled
pub entry_settled : (e m : List ℕ) (clauses : List (List Literal)) (standing : Standing) (k : ℕ)
    → ((p : ℕ) → known e p ≡ None) → AreStanding clauses standing
    → k < length standing.places.now → IsKnownEntry m (entry_or_none standing.entries.now k)
    → IsSettled e m (clause_at clauses (get_or standing.places.now k 0))
entry_settled e m clauses standing k nothing are less found =
    let other = literal_of (entry_or_none standing.entries.now k) in
    pair_settled e m standing.literal other (clause_at clauses (get_or standing.places.now k 0))
    (pair_at clauses standing are k less other refl found.some)
    (value_marked e m other (nothing other.atom) found.known)

-- what is known of the first entries
pub known_front : (m entries : List ℕ) (count from upto : ℕ)
    → AreKnownEntries m (take count entries) from upto → AreKnownEntries m entries from upto
known_front m entries count from upto found = λ k past less.
    elim (cases_lt k (length (take count entries))) [
      | inl here ↦
          let size = length-take count entries in
          subst (λ n. IsKnownEntry m n) (get_or-take count entries k no_literal (omega arith))
          (found k past less)
      | inr behind ↦ absurd ((found k past less).some
          (get_or-eq_default (take count entries) no_literal behind))
    ]

-- the one literal of two is false, so the other one is true
pair_rest : (s : List Bool) (own other : Literal) (clause : List Literal) → IsPair clause own other
    → in_literal own s ≡ false → in_clause clause s ≡ true → in_literal other s ≡ true
pair_rest s own other clause pair out is =
    let some = Any-from_list_any (λ c. in_literal c s) clause is in
    elim (All-contains (λ c. (c ≡ own) ⊎ (c ≡ other)) clause some.1 pair.only
    (some.0, some.2, some.3)) [
      | inl first ↦ never (sym (subst (λ c. in_literal c s ≡ true) first some.4) ∙ out)
      | inr second ↦ subst (λ c. in_literal c s ≡ true) second some.4
    ]

-- what follows where each literal beside one that is false is made true follows from the clauses
pub run_followed : (e : List ℕ) (clauses : List (List Literal)) (standing : Standing)
    (old new : Knowledge) (count from : ℕ) (holds : Bool)
    → ((p : ℕ) → known e p ≡ None) → AreStanding clauses standing
    → AreClauses (length old.roots) clauses → count ≤ length standing.places.now
    → value_of e (marks_of old) standing.literal ≡ Some false
    → IsFollowed (AreTrueBehind (take count standing.entries.now) from) old new holds
    → IsFollowed (λ state. in_clauses clauses (over e state) ≡ true) old new holds
run_followed e clauses standing old new count from holds nothing are below few out run = record {
  roots = run.roots;
  more = run.more;
  grows = run.grows;
  follows = λ state size is agrees. run.follows state size (rest state size is agrees) agrees;
  broken = λ no state size is agrees. run.broken no state size (rest state size is agrees) agrees;
}
  where
    rest : (state : List Bool) → length state ≡ length old.roots
        → in_clauses clauses (over e state) ≡ true → Agrees (marks_of old) state
        → AreTrueBehind (take count standing.entries.now) from state
    rest state size is agrees = λ k past less some.
        let entries = standing.entries.now in
        let room = length-take count entries in
        let same : entry_or_none (take count entries) k ≡ entry_or_none entries k =
        get_or-take count entries k no_literal (omega arith) in
        let other = literal_of (entry_or_none entries k) in
        let place = get_or standing.places.now k 0 in
        let clause = clause_at clauses place in
        let within : k < length standing.places.now = omega arith in
        let pair = pair_at clauses standing are k within other refl (λ none. some (same ∙ none)) in
        let inside = inside_at clauses standing are k within in
        let low : standing.literal.atom < length old.roots = All-contains
        (λ (l : Literal). l.atom < length old.roots) clause standing.literal (below place [] inside)
        pair.has_first in
        subst (λ n. in_literal (literal_of n) state ≡ true) (sym same)
        (subst (λ s. in_literal other s ≡ true) (over-none e state nothing)
        (pair_rest (over e state) standing.literal other clause pair
        (value_false e (marks_of old) standing.literal state out agrees (omega arith))
        (true_at e clauses place inside state is)))
