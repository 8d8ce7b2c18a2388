-- The line of a log's expanded states is short.
use Rattle.std.proofs.Common.{◌≡◌, ℕ, ◌+◌, ◌≤◌, Bool, true, false, cond, List, [], ◌∷◌, length, map}
use Rattle.std.proofs.Common.{decimal, arith, length-append}
use Rattle.std.specs.List.{filter, flat_map, join_with_byte}
use Rattle.std.proofs.lemmas.List.{length-map}
use Rattle.std.proofs.lemmas.List.Sums.{length-filter, sum_by-cons}
use Rattle.hv_lines.specs.Drafts.{IsShortLine}
use Rattle.hv_lines.specs.Spelling.{FitsDecimal, state_fields}
use Rattle.hv_lines.specs.declared.line.Expr.TheVariants as E
use Rattle.hv_lines.specs.declared.line.Line.TheVariants as L
use Rattle.hv_lines.proofs.Lengths.{decimal_short, short_by, weight, weight-append}
use Rattle.hv_replay.specs.Expanded.{expanded_states}
use Rattle.hv_replay.specs.Logs.{IsLog, LogEntry, SearchLog, entry_line, expanded_count, letter_of}
use Rattle.hv_replay.specs.Logs.{listed_bytes}

-- joined fields have one byte less than the fields with one more for each
length-joined : (field : List ℕ) (fields : List (List ℕ))
    → weight (field ∷ fields) ≤ length (join_with_byte 32 (field ∷ fields)) + 1
length-joined field [] = omega arith
length-joined field (next ∷ fields) =
    omega (
      arith,
      length-append field (32 ∷ join_with_byte 32 (next ∷ fields)),
      length-joined next
          fields,
    )

length-letter : (expanded : Bool) → length (letter_of expanded) ≡ 1
length-letter true = omega arith
length-letter false = omega arith

-- an entry's state has in a proof at most one byte more than the entry's line
state_small : (entry : LogEntry) → weight (state_fields entry.state) ≤ length (entry_line entry) + 1
state_small entry =
    omega (
      arith,
      weight-append (map decimal entry.state) ((59 ∷ []) ∷ []),
      length-joined (letter_of entry.expanded) (map decimal entry.state),
      length-letter entry.expanded,
    )

-- the expanded ones of the entries, in order
abbrev expanded_in : List LogEntry → List LogEntry
expanded_in entries = filter (λ (entry : LogEntry). entry.expanded) entries

abbrev states_in : List LogEntry → List (List ℕ)
states_in entries = map (λ (entry : LogEntry). entry.state) entries

with_entry : (expanded : Bool) (entry : LogEntry) (entries : List LogEntry) (most : ℕ)
    → weight (flat_map state_fields (states_in entries)) ≤ most
    → weight (flat_map state_fields (states_in (cond expanded (entry ∷ entries) entries)))
    ≤ length (entry_line entry) + cond expanded 1 0 + most
with_entry true entry entries most rest =
    omega (
      arith,
      rest,
      weight-append (state_fields entry.state)
          (flat_map state_fields (states_in entries)),
      state_small entry,
    )
with_entry false entry entries most rest = omega (arith, rest)

-- the expanded states of entries have in a proof at most one byte more each than the entries' lines
states_small : (entries : List LogEntry) → weight
    (flat_map state_fields (states_in (expanded_in entries)))
    ≤ listed_bytes entries + expanded_count entries
states_small [] = omega arith
states_small (entry ∷ entries) =
    omega (
      arith,
      with_entry entry.expanded entry (expanded_in entries)
          (listed_bytes entries + expanded_count entries) (states_small entries),
      sum_by-cons (λ (x : LogEntry). length (entry_line x)) entry entries,
      sum_by-cons (λ (x : LogEntry). cond x.expanded 1 0) entry entries,
    )

expanded_few : (entries : List LogEntry) → length (states_in (expanded_in entries))
    ≡ expanded_count entries
expanded_few entries =
    let states = length-map (expanded_in entries) (λ (entry : LogEntry). entry.state) in
    let kept = length-filter (λ (entry : LogEntry). entry.expanded) entries in
    omega arith

-- the line of the expanded states of a log is short
pub expanded_short : (log : SearchLog) (id : ℕ) → IsLog log.atoms log.entries → FitsDecimal id
    → IsShortLine (L.Expr id (E.States (expanded_states log)))
expanded_short log id is at =
    let few = is.few.expanded in
    let small = is.small in
    let many = expanded_few log.entries in
    short_by (L.Expr id (E.States (expanded_states log)))
    (omega (
      arith,
      few,
      small,
      decimal_short id at,
      decimal_short (length (states_in (expanded_in log.entries))) (omega arith),
      states_small log.entries,
    ))
