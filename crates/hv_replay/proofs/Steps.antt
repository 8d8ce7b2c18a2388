-- What the closing lines of a replayed proof say is true where the log is followed: each step from
-- an expanded state leads to an expanded or a pruned one, no expanded state holds the goal, and the
-- initial state is expanded or pruned.
use Rattle.std.proofs.Common.{◌≡◌, ℕ, zero, suc, ◌∙◌, ◌⊎◌, Bool, true, false, List, [], ◌∷◌, Some}
use Rattle.std.proofs.Common.{cond, inl, inr, map, refl, sym, ap, subst, arith}
use Rattle.std.specs.Prelude.{slice_get}
use Rattle.std.specs.List.{Contains, filter}
use Rattle.std.proofs.lemmas.List.Elements.{Contains-append_cases, Contains-append_left}
use Rattle.std.proofs.lemmas.List.Elements.{Contains-append_right, Contains-push}
use Rattle.std.proofs.lemmas.List.Elements.{Contains-push_cases}
use Rattle.hv_task.specs.State.{state_of}
use Rattle.hv_task.specs.Strips.{Strips, is_goal, start_state}
use Rattle.hv_replay.specs.Closed.{IsSearchFollowed, IsLogged, state_in}
use Rattle.hv_replay.specs.Working.Expanded.{IsExpanded}
use Rattle.hv_replay.specs.Logs.{LogEntry, SearchLog, StandsInLog}

module _ (n : ℕ) where
  -- the states of the expanded ones of these entries, flag by flag
  abbrev picked : List LogEntry → List (List Bool)
  picked entries = map (state_of n) (map (λ (e : LogEntry). e.state)
      (filter (λ (e : LogEntry). e.expanded) entries))

  abbrev pick : Bool → LogEntry → List LogEntry → List (List Bool)
  pick b x entries = map (state_of n) (map
      (λ (e : LogEntry). e.state) (cond b (x ∷ filter (λ (e : LogEntry). e.expanded) entries)
      (filter (λ (e : LogEntry). e.expanded) entries)))

  abbrev Found : List LogEntry → List Bool → Type 0
  Found entries state =
      (place : ℕ) × (entry : LogEntry) × (slice_get entries place ≡ Some entry)
      × (entry.expanded ≡ true) × (state_of n entry.state ≡ state)

  later : (x : LogEntry) (entries : List LogEntry) (state : List Bool) → Found entries state
      → Found (x ∷ entries) state
  later x entries state (place, entry, at, is, same) = (suc place, entry, at, is, same)

  first_or : (s : List Bool) (rest : List (List Bool)) (state : List Bool)
      → Contains (s ∷ rest) state → (s ≡ state) ⊎ Contains rest state
  first_or s rest state c =
      elim (Contains-append_cases (s ∷ []) rest state c) [
        | inl one ↦ elim (Contains-push_cases [] s state one) [
          | inl none ↦ let less = none.1 in absurd (omega arith)
          | inr e ↦ inl e
        ]
        | inr more ↦ inr more
      ]

  found_head : (x : LogEntry) (entries : List LogEntry) (state : List Bool) (b : Bool)
      → x.expanded ≡ b → (Contains (picked entries) state → Found entries state)
      → Contains (pick b x entries) state
      → Found (x ∷ entries) state
  found_head x entries state true is go c =
      elim (first_or (state_of n x.state) (picked entries) state c) [
        | inl e ↦ (zero, x, refl, is, e)
        | inr more ↦ later x entries state (go more)
      ]
  found_head x entries state false is go c = later x entries state (go c)

  found_in : (entries : List LogEntry) (state : List Bool) → Contains (picked entries) state
      → Found entries state
  found_in [] state c = let less = c.1 in absurd (omega arith)
  found_in (x ∷ entries) state c = found_head x entries state x.expanded refl
      (found_in entries state) c

  stays_in : (x : LogEntry) (entries : List LogEntry) (state : List Bool) (b : Bool)
      → Contains (picked entries) state → Contains (pick b x entries) state
  stays_in x entries state true c = Contains-append_right (state_of n x.state ∷ []) (picked entries)
      state c
  stays_in x entries state false c = c

  comes_first : (x : LogEntry) (entries : List LogEntry) (b : Bool) → b ≡ true
      → Contains (pick b x entries) (state_of n x.state)
  comes_first x entries true is = Contains-append_left (state_of n x.state ∷ []) (picked entries)
      (state_of n x.state) (Contains-push [] (state_of n x.state))
  comes_first x entries false is = absurd cc

  picked_in : (entries : List LogEntry) (place : ℕ) (entry : LogEntry)
      → slice_get entries place ≡ Some entry → entry.expanded ≡ true
      → Contains (picked entries) (state_of n entry.state)
  picked_in [] place entry at is = absurd cc
  picked_in (x ∷ entries) zero entry at is =
      let same : x ≡ entry = cc in
      subst (λ e. Contains (picked (x ∷ entries)) (state_of n e.state)) same
      (comes_first x entries x.expanded (ap (λ (e : LogEntry). e.expanded) same ∙ is))
  picked_in (x ∷ entries) (suc place) entry at is = stays_in x entries (state_of n entry.state)
      x.expanded (picked_in entries place entry at is)

-- an expanded state is in the log as one
pub expanded_out : (log : SearchLog) (state : List Bool) → IsExpanded log state
    → (place : ℕ) × (entry : LogEntry) × StandsInLog log place entry × (entry.expanded ≡ true)
    × (state_in log entry ≡ state)
expanded_out log state c = found_in log.atoms log.entries state c

pub expanded_in : (log : SearchLog) (place : ℕ) (entry : LogEntry) → StandsInLog log place entry
    → entry.expanded ≡ true → IsExpanded log (state_in log entry)
expanded_in log place entry at is = picked_in log.atoms log.entries place entry at is

module _ (task : Strips) (log : SearchLog) (followed : IsSearchFollowed task log)
    (Pruned : List Bool → Type 0)
    (noted : (place : ℕ) (entry : LogEntry) → StandsInLog log place entry → entry.expanded ≡ false
    → Pruned (state_in log entry)) where
  one_of : (place : ℕ) (entry : LogEntry) (b : Bool) → entry.expanded ≡ b
      → StandsInLog log place entry
      → IsExpanded log (state_in log entry) ⊎ Pruned (state_in log entry)
  one_of place entry true is at = inl (expanded_in log place entry at is)
  one_of place entry false is at = inr (noted place entry at is)

  pub either : (state : List Bool) → IsLogged log state → IsExpanded log state ⊎ Pruned state
  either state (place, entry, at, same) =
      subst (λ s. IsExpanded log s ⊎ Pruned s) same (one_of place entry entry.expanded refl at)

  -- no expanded state holds the goal
  pub log_goalless : (state : List Bool) → IsExpanded log state → is_goal task state ≡ true → ⊥
  log_goalless state from goal =
      let w = expanded_out log state from in
      let free = followed.goalless w.0 w.1 w.2 w.3 in
      let e : false ≡ true = sym free ∙ (ap (is_goal task) w.4 ∙ goal) in absurd cc

  -- the initial state is expanded or pruned
  pub log_starts : IsExpanded log (start_state task) ⊎ Pruned (start_state task)
  log_starts = either (start_state task) followed.initial
