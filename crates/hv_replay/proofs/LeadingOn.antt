-- The sets of a log, and what a query of them tells.
use Rattle.std.proofs.Common.{◌≡◌, ◌<◌, ◌≤◌, ◌+◌, ◌∙◌, ◌++◌, ℕ, suc, Bool, true, List}
use Rattle.std.proofs.Common.{[], ◌∷◌, Some, get_or, length, map, refl, sym, ap, subst}
use Rattle.std.proofs.Common.{arith, inl, inr}
use Rattle.std.specs.Prelude.{slice_get}
use Rattle.std.specs.List.{Contains, filter}
use Rattle.std.proofs.lemmas.Bool.{cases_lt}
use Rattle.std.proofs.lemmas.List.Elements.{All-append, All-cons, All-filter, All-map, All-nil}
use Rattle.std.proofs.lemmas.List.Elements.{Contains-append_left, Contains-append_right}
use Rattle.std.proofs.lemmas.List.Folds.{list_any_at}
use Rattle.std.proofs.lemmas.Option.{get_or_from_slice_get, slice_get_within}
use Rattle.hv_task.specs.State.{AreBelow, state_of, successor}
use Rattle.hv_task.specs.Strips.{Strips, atoms}
use Rattle.hv_task.proofs.Places.{beq-Decides, length-state_of}
use Rattle.hv_sets.specs.Truth.{in_states, is_same}
use Rattle.hv_explicit.specs.ListedStates.{AreStates, ListedStates, in_listing, in_set}
use Rattle.hv_replay.specs.Closed.{IsLogged, state_in}
use Rattle.hv_replay.specs.Expanded.{expanded_in}
use Rattle.hv_replay.specs.Logs.{IsLog, IsLogEntry, LogEntry, SearchLog, StandsInLog}
use Rattle.hv_replay.specs.Working.Leading.{HasLog, IsOpenPart, LeadOnIn, ListsExpanded}
use Rattle.hv_replay.specs.Working.Leading.{SetHasExpanded, StaysInFirst}
use Rattle.hv_replay.specs.declared.leading.LogPart.{LogPart}
use Rattle.hv_replay.proofs.Followed.{from_listed, same_entry, to_listed}

-- one set more
pub has_more : (log : SearchLog) (sets : List ListedStates) (set : ListedStates) → HasLog log sets
    → set.atoms ≡ log.atoms → HasLog log (sets ++ set ∷ [])
has_more log [] set has over = let some = has.some in absurd (omega arith)
has_more log (first ∷ sets) set has over = record {
  some = omega arith;
  over = All-append (λ (s : ListedStates). s.atoms ≡ log.atoms) (first ∷ sets) (set ∷ []) has.over
      (All-cons (λ (s : ListedStates). s.atoms ≡ log.atoms) set [] over
      (All-nil (λ (s : ListedStates). s.atoms ≡ log.atoms)));
  first = λ s at. has.first s at;
}

-- the states of the first set are those of the log
pub first_tells : (log : SearchLog) (sets : List ListedStates) (state : List Bool)
    → HasLog log sets → in_set sets 0 state ≡ true → IsLogged log state
first_tells log [] state has holds = let some = has.some in absurd (omega arith)
first_tells log (set ∷ sets) state has holds = to_listed log set (has.first set refl) state holds

pub first_has : (log : SearchLog) (sets : List ListedStates) (state : List Bool)
    → HasLog log sets → IsLogged log state → in_set sets 0 state ≡ true
first_has log [] state has logged = let some = has.some in absurd (omega arith)
first_has log (set ∷ sets) state has logged =
    from_listed log set (has.first set refl) state logged

-- so it has the expanded states of each part
pub first_has_part : (log : SearchLog) (sets : List ListedStates) (part : LogPart)
    → HasLog log sets → SetHasExpanded log sets 0 part
first_has_part log sets part has = λ place entry after before at holds.
    first_has log sets (state_in log entry) has (place, entry, at, refl)

-- the set that is added has its states
in_added : (sets : List ListedStates) (set : ListedStates) (state : List Bool)
    → in_set (sets ++ set ∷ []) (length sets) state ≡ in_listing set state
in_added [] set state = refl
in_added (first ∷ sets) set state = in_added sets set state

listed_in : (n : ℕ) (states : List (List ℕ)) (held : List ℕ) → Contains states held
    → in_states n states (state_of n held) ≡ true
listed_in n states held c =
    list_any_at (λ h. is_same (state_of n h) (state_of n held)) states c.0 held c.1
    ((beq-Decides (state_of n (get_or states c.0 held)) (state_of n held)).1
    (ap (state_of n) c.2))

pub added_has : (log : SearchLog) (old new : List ListedStates) (n number : ℕ) (set : ListedStates)
    (states : List (List ℕ)) (part : LogPart) → new ≡ old ++ set ∷ [] → number ≡ length old
    → set ≡ record { atoms = n; states = states } → log.atoms ≡ n → ListsExpanded log part states
    → SetHasExpanded log new number part
added_has log old new n number set states part is count made over lists =
    λ place entry after before at holds.
    let s = state_in log entry in
    ap (λ sets. in_set sets number s) is
    ∙ (ap (λ k. in_set (old ++ set ∷ []) k s) count
    ∙ (in_added old set s
    ∙ (ap (λ x. in_listing x s) made
    ∙ (ap (λ a. in_states a states s) (sym over)
    ∙ listed_in log.atoms states entry.state (lists place entry after before at holds)))))

-- the expanded states of a part, one by one
pub below_more : (log : SearchLog) (place : ℕ) (entry : LogEntry) (states : List (List ℕ))
    → IsLog log.atoms log.entries → StandsInLog log place entry → AreStates log.atoms states
    → AreStates log.atoms (states ++ expanded_in (entry ∷ []))
below_more log place entry states is at below =
    let P : List ℕ → Type 0 = λ held. AreBelow log.atoms held in
    let within = slice_get_within log.entries place entry at in
    let here : IsLogEntry log.atoms entry = subst (IsLogEntry log.atoms)
    (get_or_from_slice_get log.entries place entry entry at) (is.each place entry within) in
    let Q : LogEntry → Type 0 = λ (e : LogEntry). P e.state in
    All-append P states (expanded_in (entry ∷ [])) below
    (All-map P (λ (e : LogEntry). e.state)
    (filter (λ (e : LogEntry). e.expanded) (entry ∷ []))
    (All-filter (λ (e : LogEntry). e.expanded) Q (entry ∷ [])
    (All-cons Q entry [] here.below (All-nil Q))))

pub one_expanded : (entry : LogEntry) → entry.expanded ≡ true
    → Contains (expanded_in (entry ∷ [])) entry.state
one_expanded entry holds = rw holds (0, omega arith, refl)

pub lists_more : (log : SearchLog) (from place : ℕ) (last : LogEntry) (states : List (List ℕ))
    → StandsInLog log place last
    → ((before : ℕ) (entry : LogEntry) → from ≤ before → before < place
    → StandsInLog log before entry → entry.expanded ≡ true → Contains states entry.state)
    → (before : ℕ) (entry : LogEntry) → from ≤ before → before < place + 1
    → StandsInLog log before entry → entry.expanded ≡ true
    → Contains (states ++ expanded_in (last ∷ [])) entry.state
lists_more log from place last states here lists before entry after less at holds =
    elim (cases_lt before place) [
      | inl lt ↦ Contains-append_left states (expanded_in (last ∷ [])) entry.state
          (lists before entry after lt at holds)
      | inr ge ↦
          let same : before ≡ place = omega arith in
          let is : last ≡ entry = same_entry log place last entry here
          (subst (λ p. StandsInLog log p entry) same at) in
          Contains-append_right states (expanded_in (last ∷ [])) entry.state
          (subst (λ (e : LogEntry). Contains (expanded_in (e ∷ [])) entry.state) (sym is)
          (one_expanded entry holds))
    ]

-- where each entry is an expanded state, they are all states of the log
pub all_expanded : (entries : List LogEntry)
    → ((place : ℕ) (entry : LogEntry) → slice_get entries place ≡ Some entry
    → entry.expanded ≡ true)
    → expanded_in entries ≡ map (λ (e : LogEntry). e.state) entries
all_expanded [] each = refl
all_expanded (entry ∷ entries) each =
    let rest = all_expanded entries (λ place e at. each (suc place) e at) in
    rw (each 0 entry refl) (ap (λ states. entry.state ∷ states) rest)

-- the second half, where every action leads on from the first one
pub second_open : (task : Strips) (log : SearchLog) (part : LogPart) (middle : ℕ)
    → IsOpenPart task log part → middle ≤ part.upto
    → LeadOnIn task log (record { from = part.from; upto = middle })
    → IsOpenPart task log (record { from = middle; upto = part.upto })
second_open task log part middle is upto leads = record {
  inside = record { order = upto; within = is.inside.within };
  before = λ place action less. elim (cases_lt place part.from) [
    | inl lt ↦ is.before place action lt
    | inr ge ↦ leads place action ge less
  ];
}

-- and so every action leads on from a part
pub part_leads : (task : Strips) (log : SearchLog) (sets : List ListedStates) (number : ℕ)
    (part : LogPart) → log.atoms ≡ atoms task → HasLog log sets
    → SetHasExpanded log sets number part
    → ((acting : ℕ) → acting < length task.actions → StaysInFirst task sets number acting)
    → LeadOnIn task log part
part_leads task log sets number part over has expanded stays =
    λ place acting after before entry action at holds named can.
    let s = state_in log entry in
    first_tells log sets (successor action s) has
    (stays acting (slice_get_within task.actions acting action named) s action
    (length-state_of log.atoms entry.state ∙ over) (expanded place entry after before at holds)
    named can)
