-- Where a literal stands: the part of the lists that is its own, and what is beside it there.
use Rattle.std.proofs.Common.{◌≡◌, ℕ, ◌+◌, ◌-◌, ◌<◌, ◌≤◌, ◌∙◌, Bool, true, false, List, inl, inr}
use Rattle.std.proofs.Common.{length, get_or, refl, sym, ap, arith, subst}
use Rattle.std.proofs.Common.{◌++◌, length-append, replicate, take}
use Rattle.std.proofs.lemmas.Bool.{cases_lt}
use Rattle.std.proofs.lemmas.List.{get_or-append-add, get_or-append_right, get_or-replicate}
use Rattle.std.proofs.lemmas.List.{get_or_append_left, length-replicate, take_all}
use Rattle.std.proofs.lemmas.List.Edits.{get_or-between, length-between}
use Rattle.std.proofs.lemmas.List.Elements.{Contains-get_or}
use Rattle.std.proofs.Math.ListN.{get_or-eq_default}
use Rattle.std.specs.Global.{Box, Vec}
use Rattle.std.specs.Prelude.{min, slice_range}
use Rattle.hv_sets.specs.declared.literal.Literal.{Literal}
use Rattle.hv_indexes.specs.declared.occurrences.ListedOccurrences.{ListedOccurrences}
use Rattle.hv_indexes.specs.declared.occurrences.Occurrences.TheVariants as O
use Rattle.hv_indexes.specs.declared.occurrences.SignedLists.{SignedLists}
use Rattle.hv_indexes.specs.declared.occurrences.Standing.{Standing}
use Rattle.hv_indexes.specs.Implied.{IsPair}
use Rattle.hv_indexes.specs.Rows.{IsRow, AreCoded, AreHeads, IsEndBefore, code, key_of}
use Rattle.hv_indexes.specs.Rows.{place_of_code}
use Rattle.hv_indexes.specs.Places.{clause_at}
use Rattle.hv_indexes.specs.Occurrences.{ArePartners, AreOccurrences, AreStanding, IsPartner}
use Rattle.hv_indexes.specs.Occurrences.{IsIndexOf, SignedRows, entry_or_none, listed_rows}
use Rattle.hv_indexes.specs.Occurrences.{literal_of, no_literal}
use Rattle.hv_indexes.specs.Working.Occurrences.{AreEntriesJoined, kept_rows}
use Rattle.hv_indexes.specs.Signed.{StandsAs}
use Rattle.hv_indexes.proofs.Keyed.{key_at, number_at, row_ends, row_is, coded_size, starts_upto}

-- the lesser of two numbers
min_left : (a b : ℕ) → a ≤ b → min a b ≡ a
min_left a b upto = omega arith

min_right : (a b : ℕ) → b ≤ a → min a b ≡ b
min_right a b upto = omega arith

-- an entry of a part is one of the whole
pub entry_between : (entries : List ℕ) (from upto k : ℕ) → k < upto - from
    → entry_or_none (slice_range entries (min from (length entries)) (min upto (length entries))) k
    ≡ entry_or_none entries (from + k)
entry_between entries from upto k less = elim (cases_lt (from + k) (length entries)) [
  | inl inside ↦
      ap (λ n. entry_or_none (slice_range entries n (min upto (length entries))) k)
      (min_left from (length entries) (omega arith))
      ∙ get_or-between entries from (min upto (length entries)) k no_literal
      (elim (cases_lt upto (length entries)) [
        | inl early ↦ (let e = min_left upto (length entries) (omega arith) in omega arith)
        | inr late ↦ (let e = min_right upto (length entries) late in omega arith)
      ])
  | inr past ↦
      get_or-eq_default (slice_range entries (min from (length entries))
      (min upto (length entries))) no_literal (short past)
      ∙ sym (get_or-eq_default entries no_literal past)
]
  where
    short : length entries ≤ from + k
        → length (slice_range entries (min from (length entries)) (min upto (length entries))) ≤ k
    short past =
        let size = length-between entries (min from (length entries)) (min upto (length entries))
        (omega arith) in
        omega arith

-- the entries before a place, and from it on
entry_before : (entries : List ℕ) (upto k : ℕ) → k < upto
    → entry_or_none (slice_range entries 0 (min upto (length entries))) k ≡ entry_or_none entries k
entry_before entries upto k less =
    let start : min 0 (length entries) ≡ 0 = omega arith in
    let place : 0 + k ≡ k = omega arith in
    subst (λ n. entry_or_none (slice_range entries n (min upto (length entries))) k
    ≡ entry_or_none entries k) start
    (subst (λ j. entry_or_none (slice_range entries (min 0 (length entries))
    (min upto (length entries))) k ≡ entry_or_none entries j) place
    (entry_between entries 0 upto k (omega (arith, less))))

entry_behind : (entries : List ℕ) (from k : ℕ)
    → entry_or_none (slice_range entries (min from (length entries)) (length entries)) k
    ≡ entry_or_none entries (from + k)
entry_behind entries from k =
    let end : min (from + k + 1 + length entries) (length entries) ≡ length entries =
    omega arith in
    subst (λ n. entry_or_none (slice_range entries (min from (length entries)) n) k
    ≡ entry_or_none entries (from + k)) end
    (entry_between entries from (from + k + 1 + length entries) k (omega arith))

-- where no place is listed, no literal of the sign stands
pub none_stands : (sign : Bool) (clauses : List (List Literal)) (listed : SignedRows)
    → AreOccurrences sign clauses listed → length listed.places ≡ 0 → (atom number : ℕ)
    → StandsAs sign clauses atom number → ⊥
none_stands sign clauses listed are none atom number stands =
    let has = (are.coded.has (code atom number)).1 (
      atom,
      number,
      refl,
      are.coded.small atom number stands,
      stands,
    ) in
    omega (
      arith,
      has.1,
      none,
      coded_size (StandsAs sign clauses) are.codes listed.places are.coded,
    )

-- The bounds of the part of a literal, as the heads tell them.
module _ (clauses : List (List Literal)) (literal : Literal) (listed : SignedRows)
    (are : AreOccurrences literal.positive clauses listed) (len from upto : ℕ)
    (size : len ≡ length listed.places)
    (starts : (codes : List ℕ) → AreHeads codes listed.heads → length codes ≡ len
    → IsEndBefore literal.atom codes from)
    (ends : (codes : List ℕ) → AreHeads codes listed.heads → length codes ≡ len
    → IsEndBefore (literal.atom + 1) codes upto) where
  count : length are.codes ≡ len
  count = coded_size (StandsAs literal.positive clauses) are.codes listed.places are.coded
      ∙ sym size

  pub part_starts : IsEndBefore literal.atom are.codes from
  part_starts = starts are.codes are.heads count

  pub part_ends : IsEndBefore (literal.atom + 1) are.codes upto
  part_ends = ends are.codes are.heads count

  -- they are in order
  pub part_rises : from ≤ upto
  part_rises = starts_upto are.codes literal.atom from upto part_starts part_ends

-- The part of the lists of a sign that is of one atom.
module _ (sign : Bool) (clauses : List (List Literal)) (codes places entries : List ℕ)
    (coded : AreCoded (StandsAs sign clauses) codes places)
    (partners : ArePartners sign clauses codes entries) (atom from upto : ℕ)
    (starts : IsEndBefore atom codes from) (ends : IsEndBefore (atom + 1) codes upto) where
  pub standing_row : IsRow (StandsAs sign clauses) atom (slice_range places from upto)
  standing_row = row_is (StandsAs sign clauses) codes places coded atom from upto starts ends

  pub standing_beside : (k : ℕ) → k < length (slice_range places from upto)
      → IsPartner (clause_at clauses (get_or (slice_range places from upto) k 0))
      (record { atom = atom; positive = sign })
      (entry_or_none (slice_range entries (min from (length entries)) (min upto (length entries)))
      k)
  standing_beside k within =
      let size = length-between places from upto
      (row_ends (StandsAs sign clauses) codes places coded atom from upto starts ends) in
      let less : k < upto - from = omega arith in
      let far = ends.within in
      let own = partners (from + k) (omega arith) in
      let number = number_at (StandsAs sign clauses) codes places coded atom from upto starts ends k
      0 less in
      let key = key_at (StandsAs sign clauses) codes places coded atom from upto starts ends k
      less in
      subst (IsPartner (clause_at clauses (get_or (slice_range places from upto) k 0))
      (record { atom = atom; positive = sign })) (sym (entry_between entries from upto k less))
      (subst (λ n. IsPartner (clause_at clauses n) (record { atom = atom; positive = sign })
      (entry_or_none entries (from + k))) (sym number)
      (subst (λ n. IsPartner (clause_at clauses (place_of_code (get_or codes (from + k) 0)))
      (record { atom = n; positive = sign }) (entry_or_none entries (from + k))) key own))

  -- and lists that are these parts
  pub standing_parts : (ps es : List ℕ) → ps ≡ slice_range places from upto
      → es ≡ slice_range entries (min from (length entries)) (min upto (length entries))
      → IsRow (StandsAs sign clauses) atom ps
      × ((k : ℕ) → k < length ps → IsPartner (clause_at clauses (get_or ps k 0))
      (record { atom = atom; positive = sign }) (entry_or_none es k))
  standing_parts ps es same_places same_entries = (
    subst (IsRow (StandsAs sign clauses) atom) (sym same_places) standing_row,
    subst (λ es. (k : ℕ) → k < length ps → IsPartner (clause_at clauses (get_or ps k 0))
        (record { atom = atom; positive = sign }) (entry_or_none es k)) (sym same_entries)
        (subst (λ ps. (k : ℕ) → k < length ps → IsPartner (clause_at clauses (get_or ps k 0))
        (record { atom = atom; positive = sign })
        (entry_or_none (slice_range entries (min from (length entries)) (min upto (length entries)))
        k)) (sym same_places) standing_beside),
  )

-- Entries that were filled up to a place, with others behind them.
module _ (first second joined : List ℕ) (upto : ℕ) (few : length first ≤ upto)
    (is : joined ≡ (take upto first ++ replicate (upto - length first) no_literal) ++ second) where
  abbrev filled : List ℕ
  filled = first ++ replicate (upto - length first) no_literal

  joined_from : joined ≡ filled ++ second
  joined_from =
      is ∙ ap (λ xs. (xs ++ replicate (upto - length first) no_literal) ++ second)
      (take_all upto first few)

  filled_size : length filled ≡ upto
  filled_size =
      let both = length-append first (replicate (upto - length first) no_literal) in
      let own = length-replicate (upto - length first) no_literal in
      omega (arith, both, own, few)

  filled_at : (k : ℕ) → k < upto → entry_or_none filled k ≡ entry_or_none first k
  filled_at k less = elim (cases_lt k (length first)) [
    | inl own ↦ get_or_append_left first (replicate (upto - length first) no_literal) no_literal k
        own
    | inr past ↦
        get_or-append_right first (replicate (upto - length first) no_literal) (length first) k
        no_literal refl past
        ∙ get_or-replicate (upto - length first) (k - length first) no_literal no_literal
        (omega (arith, past, less, few))
        ∙ sym (get_or-eq_default first no_literal past)
  ]

  pub joined_is : AreEntriesJoined first upto second joined
  joined_is = record {
    before = λ k less. subst (λ xs. entry_or_none xs k ≡ entry_or_none first k) (sym joined_from)
        (get_or_append_left filled second no_literal k (let size = filled_size in
        omega (arith, less, size)) ∙ filled_at k less);
    after = λ k. subst (λ xs. entry_or_none xs (upto + k) ≡ entry_or_none second k)
        (sym joined_from)
        (subst (λ n. entry_or_none (filled ++ second) (n + k) ≡ entry_or_none second k)
        filled_size (get_or-append-add filled second k no_literal));
  }

-- The same entries beside the places serve as well.
module _ (sign : Bool) (clauses : List (List Literal)) (listed : SignedRows)
    (are : AreOccurrences sign clauses listed) where
  pub with_entries : (entries : List ℕ) → ((k : ℕ) → k < length listed.places
      → entry_or_none entries k ≡ entry_or_none listed.partners k)
      → AreOccurrences sign clauses
      (record { heads = listed.heads; places = listed.places; partners = entries })
  with_entries entries same = record {
    codes = are.codes;
    heads = are.heads;
    coded = are.coded;
    partners = λ k less. subst (IsPartner (clause_at clauses (place_of_code (get_or are.codes k 0)))
        (record { atom = key_of (get_or are.codes k 0); positive = sign }))
        (sym (same k (let size = coded_size (StandsAs sign clauses) are.codes listed.places
        are.coded in omega (arith, less)))) (are.partners k less);
  }

abbrev pub both_lists : SignedLists → SignedLists → Vec ℕ → ListedOccurrences
both_lists negative positive partners = record {
  negative = record { heads = negative.heads; places = negative.places };
  positive = record { heads = positive.heads; places = positive.places };
  partners = partners;
}

-- the lists of both signs are those of each
pub rows_of_both : (clauses : List (List Literal)) (negative positive : SignedLists)
    (partners : Vec ℕ) (upto : ℕ) → upto ≡ length negative.places.items
    → AreEntriesJoined negative.partners.items upto positive.partners.items partners.items
    → AreOccurrences false clauses (kept_rows negative)
    → AreOccurrences true clauses (kept_rows positive)
    → (sign : Bool) → AreOccurrences sign clauses (listed_rows (both_lists negative positive
    partners) sign)
rows_of_both clauses negative positive partners upto size joined out inside true =
    let after : (k : ℕ) → entry_or_none partners.items (length negative.places.items + k)
    ≡ entry_or_none positive.partners.items k =
    subst (λ n. (k : ℕ) → entry_or_none partners.items (n + k)
    ≡ entry_or_none positive.partners.items k) size joined.after in
    with_entries true clauses (kept_rows positive) inside _ (λ k less.
    entry_behind partners.items (length negative.places.items) k ∙ after k)
rows_of_both clauses negative positive partners upto size joined out inside false =
    with_entries false clauses (kept_rows negative) out _ (λ k less.
    entry_before partners.items (length negative.places.items) k less
    ∙ joined.before k (omega (arith, less, size)))

-- both lists make the index
pub index_from : (clauses : List (List Literal)) (listed : ListedOccurrences)
    → ((sign : Bool) → AreOccurrences sign clauses (listed_rows listed sign))
    → (kept : Box ListedOccurrences) → kept.value ≡ listed → IsIndexOf clauses (O.Listed kept)
index_from clauses listed are kept is sign =
    subst (λ (l : ListedOccurrences). AreOccurrences sign clauses (listed_rows l sign)) (sym is)
    (are sign)

-- A clause at a place at which a literal stands.
module _ (clauses : List (List Literal)) (standing : Standing) (are : AreStanding clauses standing)
    (index : ℕ) (less : index < length standing.places.now) where
  pub inside_at : get_or standing.places.now index 0 < length clauses
  inside_at =
      let stands = (are.row.has (get_or standing.places.now index 0)).0
      (Contains-get_or standing.places.now index 0 less) in
      stands.among

  -- it is a pair with what is beside
  pub pair_at : (other : Literal) → other ≡ literal_of (entry_or_none standing.entries.now index)
      → (entry_or_none standing.entries.now index ≡ no_literal → ⊥)
      → IsPair (clause_at clauses (get_or standing.places.now index 0)) standing.literal other
  pair_at other is some =
      subst (IsPair (clause_at clauses (get_or standing.places.now index 0)) standing.literal)
      (sym is) ((are.partners index less).pair some)
