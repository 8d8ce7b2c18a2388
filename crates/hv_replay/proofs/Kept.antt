-- Entries that are kept as two lists: flags and states.
use Rattle.std.proofs.Common.{◌≡◌, ◌∙◌, ◌<◌, ℕ, zero, suc, Bool, List, [], ◌∷◌, ◌++◌, Some, inl}
use Rattle.std.proofs.Common.{inr, length, map, refl, ap, subst, arith}
use Rattle.std.specs.Prelude.{slice_get}
use Rattle.std.specs.List.{All, filter}
use Rattle.std.proofs.lemmas.List.{map-append}
use Rattle.std.proofs.lemmas.List.Elements.{All-map, All-weaker, filter-append}
use Rattle.std.proofs.lemmas.Option.{slice_get_cases}
use Rattle.hv_task.specs.State.{AreBelow}
use Rattle.hv_explicit.specs.ListedStates.{AreStates}
use Rattle.hv_replay.specs.Expanded.{expanded_in}
use Rattle.hv_replay.specs.Logs.{IsAtomSet, IsLog, LogEntry, SearchLog, StandsInLog}
use Rattle.hv_replay.specs.Working.Logs.{entries_of}

pub entries_length : (flags : List Bool) (states : List (List ℕ)) → length flags ≡ length states
    → length (entries_of flags states) ≡ length flags
entries_length [] states same = refl
entries_length (f ∷ flags) [] same = absurd (omega arith)
entries_length (f ∷ flags) (s ∷ states) same =
    let rest : length flags ≡ length states = omega arith in
    let e = entries_length flags states rest in omega arith

pub entries_states : (flags : List Bool) (states : List (List ℕ)) → length flags ≡ length states
    → map (λ (e : LogEntry). e.state) (entries_of flags states) ≡ states
entries_states [] [] same = refl
entries_states [] (s ∷ states) same = absurd (omega arith)
entries_states (f ∷ flags) [] same = absurd (omega arith)
entries_states (f ∷ flags) (s ∷ states) same =
    let rest : length flags ≡ length states = omega arith in
    ap (λ xs. s ∷ xs) (entries_states flags states rest)

pub entries_push : (flags : List Bool) (states : List (List ℕ)) (f : Bool) (s : List ℕ)
    → length flags ≡ length states
    → entries_of (flags ++ f ∷ []) (states ++ s ∷ []) ≡ entries_of flags states
    ++ record { expanded = f; state = s } ∷ []
entries_push [] [] f s same = refl
entries_push [] (t ∷ states) f s same = absurd (omega arith)
entries_push (g ∷ flags) [] f s same = absurd (omega arith)
entries_push (g ∷ flags) (t ∷ states) f s same =
    let rest : length flags ≡ length states = omega arith in
    ap (λ (xs : List LogEntry). record { expanded = g; state = t } ∷ xs)
    (entries_push flags states f s rest)

-- an entry has the flag and the state of its place
pub entries_at : (flags : List Bool) (states : List (List ℕ)) (k : ℕ) (e : LogEntry)
    → slice_get (entries_of flags states) k ≡ Some e
    → (slice_get flags k ≡ Some e.expanded) × (slice_get states k ≡ Some e.state)
entries_at [] states zero e at = absurd cc
entries_at [] states (suc k) e at = absurd cc
entries_at (f ∷ flags) [] zero e at = absurd cc
entries_at (f ∷ flags) [] (suc k) e at = absurd cc
entries_at (f ∷ flags) (s ∷ states) zero e at =
    let same : ◌≡◌ {A = LogEntry} (record { expanded = f; state = s }) e = cc in
    (ap (λ (x : LogEntry). Some x.expanded) same, ap (λ (x : LogEntry). Some x.state) same)
entries_at (f ∷ flags) (s ∷ states) (suc k) e at = entries_at flags states k e at

pub entry_there : (log : SearchLog) (place : ℕ) → place < length log.entries
    → (e : LogEntry) × StandsInLog log place e
entry_there log place within =
    elim (slice_get_cases log.entries place).1
    [ inl w ↦ (w.0, w.2) | inr w ↦ let past = w.0 in absurd (omega arith) ]

-- the states of a log are states of its task
pub atom_sets : (atoms : ℕ) (flags : List Bool) (states : List (List ℕ))
    → length flags ≡ length states → IsLog atoms (entries_of flags states)
    → All (IsAtomSet atoms) states
atom_sets atoms flags states same is =
    subst (λ ss. All (IsAtomSet atoms) ss) (entries_states flags states same)
    (All-map (IsAtomSet atoms) (λ (e : LogEntry). e.state) (entries_of flags states) is.each)

pub states_below : (atoms : ℕ) (flags : List Bool) (states : List (List ℕ))
    → length flags ≡ length states → IsLog atoms (entries_of flags states)
    → AreStates atoms states
states_below atoms flags states same is =
    All-weaker (IsAtomSet atoms) (λ held. AreBelow atoms held)
    (λ held e. e.below) states (atom_sets atoms flags states same is)

-- the expanded ones of entries one by one
pub expanded_push : (entries : List LogEntry) (e : LogEntry)
    → expanded_in (entries ++ e ∷ []) ≡ expanded_in entries ++ expanded_in (e ∷ [])
expanded_push entries e =
    ap (map (λ (x : LogEntry). x.state))
    (filter-append (λ (x : LogEntry). x.expanded) entries (e ∷ []))
    ∙ map-append (λ (x : LogEntry). x.state) (filter (λ (x : LogEntry). x.expanded) entries)
    (filter (λ (x : LogEntry). x.expanded) (e ∷ []))
