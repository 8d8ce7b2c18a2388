-- What the reader of logs holds after one line more, and what it has read.
use Rattle.std.proofs.Common.{◌≡◌, ℕ, ◌+◌, ◌≤◌, ◌∙◌, ◌++◌, Bool, true, false, List, []}
use Rattle.std.proofs.Common.{◌∷◌, Option, Some, Result, Ok, Err, length, refl, ap}
use Rattle.std.proofs.Common.{arith}
use Rattle.std.specs.Prelude.{OnOk}
use Rattle.std.proofs.lemmas.List.Elements.{All-push}
use Rattle.std.proofs.lemmas.List.Sums.{sum_by_push}
use Rattle.hv_bytes.specs.States.{size_of}
use Rattle.hv_grammar.specs.declared.fault.ParseFault.{ParseFault}
use Rattle.hv_sets.specs.Gathered.{Gathered}
use Rattle.hv_replay.specs.LogFile.{log_line}
use Rattle.hv_replay.specs.Logs.{AreFew, IsLog, IsLogEntry, LogEntry, entry_line, listed_bytes}
use Rattle.hv_replay.specs.Working.Logs.{entries_of}
use Rattle.hv_replay.specs.Working.Reading.{IsSaid, begun_where, entries_in, going_on}
use Rattle.hv_replay.specs.declared.entries.Entries.{Entries}
use Rattle.hv_replay.specs.declared.fault.LogRefusal.{LogRefusal}
use Rattle.hv_replay.proofs.Kept.{entries_push}
use Rattle.hv_replay.proofs.Passed.{entry_more}

-- the entry whose state was ended comes last
pub one_more : (flags kept more : List Bool) (states all : List (List ℕ)) (f : Bool) (s : List ℕ)
    → length flags ≡ length states → kept ≡ flags → more ≡ kept ++ f ∷ [] → all ≡ states ++ s ∷ []
    → entries_of more all ≡ entries_of flags states ++ record { expanded = f; state = s } ∷ []
one_more flags kept more states all f s size same longer ended =
    ap (λ fs. entries_of fs all) (longer ∙ ap (λ xs. xs ++ f ∷ []) same)
    ∙ ap (entries_of (flags ++ f ∷ [])) ended
    ∙ entries_push flags states f s size

pub log_more : (atoms : ℕ) (entries : List LogEntry) (entry : LogEntry) → IsLog atoms entries
    → IsLogEntry atoms entry → AreFew (entries ++ entry ∷ [])
    → listed_bytes (entries ++ entry ∷ []) ≤ 8388608 → IsLog atoms (entries ++ entry ∷ [])
log_more atoms entries entry log one few small = record {
  each = All-push (IsLogEntry atoms) entries entry log.each one;
  few = few;
  small = small;
}

pub put_there : (put : Bool) (states : Gathered ℕ) (o : Option (List ℕ)) → put ≡ true
    → begun_where put states ≡ o → Some states.begun ≡ o
put_there true states o is e = e
put_there false states o is e = absurd cc

-- how many bytes the lines of the entries have then
pub room_for : (entries : List LogEntry) (entry : LogEntry) (line : List ℕ)
    → line ≡ entry_line entry → listed_bytes entries + length line ≤ 8388608
    → listed_bytes (entries ++ entry ∷ []) ≤ 8388608
room_for entries entry line spelled room =
    omega (
      arith,
      ap length spelled,
      sum_by_push (λ (x : LogEntry). length (entry_line x)) entries entry,
    )

-- the lines of the entries have no more bytes than those that were read
pub bytes_taken : (entries : List LogEntry) (r : Entries)
    (result : Result Bool (ParseFault LogRefusal)) (atoms number earlier now : ℕ) (line : List ℕ)
    → IsSaid number (log_line atoms entries line) (going_on r result)
    → (result ≡ Ok false → entries_in r ≡ entries) → listed_bytes entries ≤ earlier
    → earlier + length line ≤ now → OnOk result (listed_bytes (entries_in r) ≤ now)
bytes_taken entries r (Ok true) atoms number earlier now line said same before grown =
    let x = entry_more atoms entries (entries_in r) line said in
    omega (
      arith,
      ap length x.1.spelled,
      ap listed_bytes x.3,
      sum_by_push (λ (y : LogEntry). length (entry_line y)) entries x.0,
    )
bytes_taken entries r (Ok false) atoms number earlier now line said same before grown =
    let is = ap listed_bytes (same refl) in omega arith
bytes_taken entries r (Err e) atoms number earlier now line said same before grown = tt

-- each line counts with its bytes
pub counted_bytes : (earlier now : ℕ) (line : List ℕ) (ended : Bool)
    → now ≡ earlier + size_of (length line) ended → earlier + length line ≤ now
counted_bytes earlier now line true counted = omega arith
counted_bytes earlier now line false counted = omega arith
