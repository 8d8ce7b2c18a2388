-- What the reader of logs holds, and what it does with one line.
use Rattle.std.specs.Prelude.{◌≡◌, ◌≤◌, ℕ, Bool, true, false, List, [], Option, None}
use Rattle.std.specs.Prelude.{Some, Result, Ok, Err, length}
use Rattle.hv_grammar.specs.declared.fault.ParseFault.{ParseFault}
use Rattle.hv_grammar.specs.declared.fault.ParseFault.TheVariants as P
use Rattle.hv_sets.specs.Gathered.{Gathered}
use Rattle.hv_replay.specs.Logs.{IsLog, LogEntry, SearchLog}
use Rattle.hv_replay.specs.Working.Logs.{counts_of, entries_of}
use Rattle.hv_replay.specs.declared.entries.Entries.{Entries}
use Rattle.hv_replay.specs.declared.fault.LogRefusal.{LogRefusal}

-- the state that is begun, where it was put
abbrev pub begun_where : Bool → Gathered ℕ → Option (List ℕ)
begun_where true states = Some states.begun
begun_where false states = None

-- the entries that were read
abbrev pub entries_in : Entries → List LogEntry
entries_in r = entries_of r.expanded.items r.states.whole

-- the log of what was read
abbrev pub log_of : Entries → SearchLog
log_of r = record { atoms = r.atoms; entries = entries_in r }

-- the entry that is begun
abbrev pub begun_entry : Bool → Entries → LogEntry
begun_entry expanded r = record { expanded = expanded; state = r.states.begun }

-- what was read is the beginning of a log, and is counted
pub record HoldsLog (r : Entries) : Type 0 where
  pub legal : IsLog r.atoms (entries_in r)
  pub counts : r.counts ≡ counts_of (entries_in r)
  pub few_atoms : r.atoms ≤ 65535
  pub size : length r.expanded.items ≡ length r.states.whole

-- what the reader's methods ask of it: besides, no state is begun
pub record IsReadingLog (r : Entries) : Type 0 where
  pub holds : HoldsLog r
  pub none : r.states.begun ≡ []

-- what a line came to: one more entry, or none where it was the last one
abbrev pub going_on : Entries → Result Bool (ParseFault LogRefusal)
    → Result (Option (List LogEntry)) (ParseFault LogRefusal)
going_on r (Ok true) = Ok (Some (entries_in r))
going_on r (Ok false) = Ok None
going_on r (Err e) = Err e

-- what many lines came to
abbrev pub as_entries : Result Entries (ParseFault LogRefusal)
    → Result (List LogEntry) (ParseFault LogRefusal)
as_entries (Ok r) = Ok (entries_in r)
as_entries (Err e) = Err e

-- the same as a log
abbrev pub as_log : Result Entries (ParseFault LogRefusal)
    → Result SearchLog (ParseFault LogRefusal)
as_log (Ok r) = Ok (log_of r)
as_log (Err e) = Err e

-- this was said of the line of this number, or memory ran out
abbrev pub IsSaid : {A B : Type 0} → ℕ → Result A B → Result A (ParseFault B) → Type 0
IsSaid number said (Ok a) = said ≡ Ok a
IsSaid number said (Err (P.Refused n b)) = (n ≡ number) × (said ≡ Err b)
IsSaid number said (Err (P.Long n)) = ⊥
IsSaid number said (Err P.ReadFault) = ⊥
IsSaid number said (Err P.Memory) = Unit {0}
