-- Logs and the set of their states: what the search for the first hole rests on.
use Rattle.std.proofs.Common.{◌≡◌, ℕ, ◌<◌, ◌≤◌, ◌∙◌, Bool, true, false, List, Option, Some}
use Rattle.std.proofs.Common.{get_or, inl, inr, length, map, sym, ap, subst, arith}
use Rattle.std.proofs.lemmas.List.{get_or-map, length-map}
use Rattle.std.proofs.lemmas.Option.{get_or_from_slice_get, slice_get_cases, slice_get_within}
use Rattle.hv_task.specs.State.{applicable, state_of, successor}
use Rattle.hv_task.specs.Strips.{Strips}
use Rattle.hv_sets.specs.Truth.{InStates, in_states}
use Rattle.hv_sets.proofs.Listed.{in_states-Decides}
use Rattle.hv_explicit.specs.ListedStates.{ListedStates, in_listing}
use Rattle.hv_replay.specs.Closed.{IsFirstWithout, IsGoalFree, IsLogged, LeadsOn, state_in}
use Rattle.hv_replay.specs.Working.Following.{HasExpanded, ListsLog, StaysListed}
use Rattle.hv_replay.specs.Logs.{LogEntry, SearchLog, StandsInLog}

-- one entry is at a place
pub same_entry : (log : SearchLog) (place : ℕ) (a b : LogEntry) → StandsInLog log place a
    → StandsInLog log place b → a ≡ b
same_entry log place a b p q = let e : ◌≡◌ {A = Option LogEntry} (Some a) (Some b) = sym p ∙ q in cc

atoms_of_listing : (n : ℕ) (states : List (List ℕ)) (set : ListedStates) (state : List Bool)
    → set.atoms ≡ n → set.states ≡ states
    → in_listing set state ≡ in_states n states state
atoms_of_listing n states set state a s = ap (λ m. in_states m set.states state) a
    ∙ ap (λ ss. in_states n ss state) s

module _ (log : SearchLog) (set : ListedStates) (are : ListsLog log set) (state : List Bool) where
  abbrev states : List (List ℕ)
  states = map (λ (entry : LogEntry). entry.state) log.entries

  found_at : (k : ℕ) → k < length (map (state_of log.atoms) states)
      → get_or (map (state_of log.atoms) states) k state ≡ state → IsLogged log state
  found_at k within is =
      let size = length-map states (state_of log.atoms) in
      let many = length-map log.entries (λ (entry : LogEntry). entry.state) in
      elim (slice_get_cases log.entries k).1 [
        | inl w ↦ (
          k,
          w.0,
          w.2,
          ap (λ (x : LogEntry). state_of log.atoms x.state) (sym w.3)
              ∙ (ap (state_of log.atoms) (sym (get_or-map
              (λ (entry : LogEntry). entry.state) log.entries k w.0 w.0.state w.1))
              ∙ (sym (get_or-map (state_of log.atoms) states k w.0.state state (omega arith))
              ∙ is)),
        )
        | inr w ↦ let past = w.0 in absurd (omega arith)
      ]

  pub to_listed : in_listing set state ≡ true → IsLogged log state
  to_listed holds =
      let found : InStates log.atoms states state =
      (in_states-Decides log.atoms states state).0
      (sym (atoms_of_listing log.atoms states set state are.over are.states) ∙ holds) in
      found_at found.0 found.1 found.2

  pub from_listed : IsLogged log state → in_listing set state ≡ true
  from_listed (k, x, stands, same) =
      let size = length-map states (state_of log.atoms) in
      let many = length-map log.entries (λ (entry : LogEntry). entry.state) in
      let within = slice_get_within log.entries k x stands in
      let here : get_or states k x.state ≡ x.state =
      get_or-map (λ (entry : LogEntry). entry.state) log.entries k x x.state within
      ∙ ap (λ (y : LogEntry). y.state) (get_or_from_slice_get log.entries k x x stands) in
      atoms_of_listing log.atoms states set state are.over are.states
      ∙ (in_states-Decides log.atoms states state).1 (
        k,
        omega arith,
        get_or-map (state_of log.atoms) states k x.state state (omega arith)
            ∙ (ap (state_of log.atoms) here ∙ same),
      )

module _ (task : Strips) (log : SearchLog) (place : ℕ) (x : LogEntry)
    (stands : StandsInLog log place x) where
  module _ (set : ListedStates) (are : ListsLog log set) (holds : x.expanded ≡ true) where
    pub leads_from : (number : ℕ) → StaysListed task set (state_in log x) number
        → LeadsOn task log place number
    leads_from number stays = λ e a at more is can.
        let same = same_entry log place x e stands at in
        subst (λ y. IsLogged log (successor a (state_in log y))) same
        (to_listed log set are (successor a (state_in log x))
        (stays a is (ap (λ y. applicable a (state_in log y)) same ∙ can)))

    pub stays_from : (number : ℕ) → LeadsOn task log place number
        → StaysListed task set (state_in log x) number
    stays_from number leads = λ a is can. from_listed log set are (successor a (state_in log x))
        (leads x a stands holds is can)

    pub first_from : (number : ℕ) → IsFirstWithout (StaysListed task set (state_in log x)) number
        → IsFirstWithout (LeadsOn task log place) number
    first_from number first = (
      λ leads. first.0 (stays_from number leads),
      λ before less. leads_from
          before (first.1 before less),
    )

    pub all_from : ((number : ℕ) → number < length task.actions
        → StaysListed task set (state_in log x) number) → (number : ℕ)
        → LeadsOn task log place number
    all_from all number = leads_from number
        (λ a is can. all number (slice_get_within task.actions number a is) a is can)

module _ (task : Strips) (log : SearchLog) where
  -- what holds of each entry holds of each place
  pub free_all : ((place : ℕ) → place < length log.entries → IsGoalFree task log place)
      → (place : ℕ) → IsGoalFree task log place
  free_all all place = λ e at holds. all place (slice_get_within log.entries place e at) e at holds

  pub leads_all : ((place number : ℕ) → place < length log.entries → LeadsOn task log place number)
      → (place number : ℕ) → LeadsOn task log place number
  leads_all all place number = λ e a at holds is can. all place number
      (slice_get_within log.entries place e at) e a at holds is can

  pub not_listed : (set : ListedStates) (state : List Bool) → ListsLog log set
      → in_listing set state ≡ false → IsLogged log state → ⊥
  not_listed set state are fails holds = let f : false ≡ true = sym fails
      ∙ from_listed log set are state holds in absurd cc

-- where every action leads on from an expanded state, it does from the same state at another place
pub leads_again : (task : Strips) (log : SearchLog) (old place : ℕ) (held : List ℕ) (x : LogEntry)
    → HasExpanded log old held → ((action : ℕ) → LeadsOn task log old action)
    → StandsInLog log place x → held ≡ x.state → (action : ℕ) → LeadsOn task log place action
leads_again task log old place held x again leads stands same action = λ e a at holds is can.
    let here : again.0.state ≡ e.state =
    again.3 ∙ (same ∙ ap (λ (y : LogEntry). y.state) (same_entry log place x e stands at)) in
    let state : state_of log.atoms again.0.state ≡ state_of log.atoms e.state =
    ap (state_of log.atoms) here in
    subst (λ s. IsLogged log (successor a s)) state
    (leads action again.0 a again.1 again.2 is
    (subst (λ s. applicable a s ≡ true) (sym state) can))

-- places past the log, from which nothing leads
pub leads_past : (task : Strips) (log : SearchLog) (place : ℕ) → length log.entries ≤ place
    → (action : ℕ) → LeadsOn task log place action
leads_past task log place past action = λ e a at holds is can.
    let less = slice_get_within log.entries place e at in absurd (omega arith)
