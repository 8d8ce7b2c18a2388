-- Logs of a search, as the table of their format.
use Rattle.std.specs.Prelude.{◌&&◌, ◌++◌, ℕ, ◌+◌, Bool, true, false, List, [], ◌∷◌, Option, None}
use Rattle.std.specs.Prelude.{Some, Result, Ok, Err, codes, if◌then◌else◌, nat_le, nat_lt}
use Rattle.std.specs.Prelude.{option_and_then, option_map}
use Rattle.std.specs.Str.{bytes_eq}
use Rattle.hv_bytes.specs.Fields.{cut_fields}
use Rattle.hv_grammar.specs.Forms.{decimal_of}
use Rattle.hv_grammar.specs.Parsers.{Outcome, Parser, end_of_input, long, many_till, parsed, pure}
use Rattle.hv_grammar.specs.Parsers.{refused, ◌>>=◌, ◌>>◌}
use Rattle.hv_grammar.specs.declared.fault.ParseFault.{ParseFault}
use Rattle.hv_grammar.specs.declared.fault.ParseFault.TheVariants as P
use Rattle.hv_replay.specs.Logs.{LogEntry, SearchLog, expanded_count, letter_of, pruned_count}
use Rattle.hv_replay.specs.declared.fault.LogFault.{LogFault}
use Rattle.hv_replay.specs.declared.fault.LogFault.TheVariants as F
use Rattle.hv_replay.specs.declared.fault.LogLimit.{LogLimit}
use Rattle.hv_replay.specs.declared.fault.LogLimit.TheVariants as W
use Rattle.hv_replay.specs.declared.fault.LogRefusal.{LogRefusal}
use Rattle.hv_replay.specs.declared.fault.LogRefusal.TheVariants as R

-- the last line of a log
abbrev pub end_line : List ℕ
end_line = codes "end"

-- whether a letter is that of an expanded state, or of a pruned one
abbrev pub kind_of_letter : List ℕ → Option Bool
kind_of_letter field =
    if bytes_eq field (letter_of true) then Some true
    else (if bytes_eq field (letter_of false) then Some false else None)

-- the atom that a field names, of a task with so many atoms, where it is at least the least one
abbrev pub atom_in : ℕ → ℕ → List ℕ → Option ℕ
atom_in atoms least field =
    option_and_then (λ n. if nat_le least n && nat_lt n atoms then Some n else None)
    (decimal_of field)

-- the atoms that fields name, where they rise from the least one on
abbrev pub atoms_in : ℕ → ℕ → List (List ℕ) → Option (List ℕ)
atoms_in atoms least [] = Some []
atoms_in atoms least (field ∷ fields) =
    option_and_then (λ n. option_map (λ ns. n ∷ ns) (atoms_in atoms (n + 1) fields))
    (atom_in atoms least field)

-- an entry, where its kind is known, and its atoms are
abbrev pub entry_of_parts : Option Bool → Option (List ℕ) → Option LogEntry
entry_of_parts None held = None
entry_of_parts (Some expanded) None = None
entry_of_parts (Some expanded) (Some held) = Some (record { expanded = expanded; state = held })

-- the entry of the fields of a line: a letter, and atoms that rise
abbrev pub entry_of_fields : ℕ → List (List ℕ) → Option LogEntry
entry_of_fields atoms [] = None
entry_of_fields atoms (letter ∷ fields) =
    entry_of_parts (kind_of_letter letter) (atoms_in atoms 0 fields)

-- the entry of a line
abbrev pub entry_in : ℕ → List ℕ → Option LogEntry
entry_in atoms line = entry_of_fields atoms (cut_fields line)

-- the limit that entries pass, if they pass one: there are more states of a kind than a log may
-- have
abbrev pub passed_limit : List LogEntry → Option LogLimit
passed_limit entries =
    if nat_lt 1000000 (expanded_count entries) then Some W.Expanded
    else (if nat_lt 65000 (pruned_count entries) then Some W.Pruned else None)

-- the entries go on, where they pass no limit
abbrev pub or_limit : List LogEntry → Option LogLimit → Result (Option (List LogEntry)) LogRefusal
or_limit entries None = Ok (Some entries)
or_limit entries (Some limit) = Err (R.Limit limit)

-- the entries so far, with the one of a line
abbrev pub with_entry : List LogEntry → Option LogEntry → Result (Option (List LogEntry)) LogRefusal
with_entry entries None = Err R.Place
with_entry entries (Some entry) =
    or_limit (entries ++ entry ∷ []) (passed_limit (entries ++ entry ∷ []))

-- one more line of a log: the last one, or that of one more entry
abbrev pub log_line : ℕ → List LogEntry → List ℕ → Result (Option (List LogEntry)) LogRefusal
log_line atoms entries line =
    if bytes_eq line end_line then Ok None else with_entry entries (entry_in atoms line)

-- a log of a task with so many atoms
abbrev pub log_file : ℕ → Parser LogRefusal SearchLog
log_file atoms = do
  entries ← many_till R.Place (log_line atoms) []
  end_of_input R.Place
  pure (record { atoms = atoms; entries = entries })

-- the fault of a line of this number that is refused
abbrev pub log_fault_at : ℕ → LogRefusal → LogFault
log_fault_at number R.Place = F.Place number
log_fault_at number (R.Limit limit) = F.Limit number limit

-- the fault that comes of a file, if one does
abbrev pub log_fault_in : Outcome LogRefusal SearchLog → Option LogFault
log_fault_in (parsed log n ps) = None
log_fault_in (refused n b) = Some (log_fault_at n b)
log_fault_in (long n) = Some (F.Limit n W.Bytes)

-- the fault of a log, by what its reader says
abbrev pub log_fault : ParseFault LogRefusal → LogFault
log_fault (P.Refused number refusal) = log_fault_at number refusal
log_fault (P.Long number) = F.Limit number W.Bytes
log_fault P.ReadFault = F.ReadFault
log_fault P.Memory = F.Memory
