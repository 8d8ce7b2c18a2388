-- How a replay goes on, entry by entry, and what is at its end.
use Rattle.std.proofs.Common.{◌≡◌, ℕ, zero, suc, ◌+◌, ◌<◌, ◌≤◌, ◌∙◌, ◌⊎◌, ◌↔◌, ◌++◌, Bool, true}
use Rattle.std.proofs.Common.{false, List, [], ◌∷◌, Option, Some, Result, Ok, Err, IfErr, IfOk}
use Rattle.std.proofs.Common.{OnOk, cond, inl, inr, length, map, not, sym, ap, subst, take, arith}
use Rattle.std.specs.Prelude.{slice_get}
use Rattle.std.specs.List.{All, Contains, filter}
use Rattle.std.proofs.lemmas.Bool.{cases_lt}
use Rattle.std.proofs.lemmas.List.{length-append, length-map, take_more}
use Rattle.std.proofs.lemmas.List.Elements.{All-filter, All-map, Contains-append_left}
use Rattle.std.proofs.lemmas.List.Elements.{Contains-append_right, Contains-push}
use Rattle.std.proofs.lemmas.List.Elements.{Contains-push_cases}
use Rattle.std.proofs.lemmas.List.Sums.{length-filter}
use Rattle.std.proofs.lemmas.Option.{get_or_from_slice_get, slice_get_within}
use Rattle.hv_task.specs.declared.action.Action.{Action}
use Rattle.hv_task.specs.State.{applicable, state_of, successor}
use Rattle.hv_task.specs.Strips.{Strips, atoms, is_goal, start_state}
use Rattle.hv_sets.specs.Truth.{InStates}
use Rattle.hv_lines.specs.Drafts.{IsGoodTable, onto, prelude}
use Rattle.hv_lines.specs.Judged.{Concludes}
use Rattle.hv_lines.specs.Numbering.{expr_count, known_count}
use Rattle.hv_lines.specs.Pruning.{BeginsAsDraft, Extends, IsDeadBy, states_in}
use Rattle.hv_lines.specs.Rules.{Says}
use Rattle.hv_lines.specs.declared.line.Line.{Line}
use Rattle.hv_lines.specs.declared.line.Statement.TheVariants as T
use Rattle.hv_lines.proofs.Drafting.{table_of}
use Rattle.hv_lines.proofs.Extended.{goes_on_none, prelude_begins}
use Rattle.hv_lines.proofs.Laws.{speaks_at}
use Rattle.hv_replay.specs.Closed.{IsClosed, IsFirstWithout, IsFirstHole, IsSearchFollowed}
use Rattle.hv_replay.specs.Closed.{IsJustified, IsLogged, state_in}
use Rattle.hv_replay.specs.ClosingLines.{closing_lines}
use Rattle.hv_replay.specs.Working.ClosingLines.{IsClosedSearch}
use Rattle.hv_replay.specs.Expanded.{expanded_states}
use Rattle.hv_replay.specs.Working.Expanded.{IsExpanded}
use Rattle.hv_replay.specs.Logs.{IsAtomSet, IsLog, IsLogEntry, LogEntry, SearchLog, StandsInLog}
use Rattle.hv_replay.specs.Progress.{IsProof}
use Rattle.hv_replay.specs.Working.Progress.{IsProgress}
use Rattle.hv_replay.specs.PrunedLines.{pruned_lines, pruned_word}
use Rattle.hv_replay.specs.Working.PrunedLines.{IsPrunedUnion, most_pruned}
use Rattle.hv_replay.specs.Replayed.{ArePruned, after_pruned, none, one_more, pruned_in}
use Rattle.hv_replay.specs.Replayed.{union_after}
use Rattle.hv_replay.specs.declared.hole.ReplayFault.{ReplayFault}
use Rattle.hv_replay.specs.declared.hole.ReplayFault.TheVariants as H
use Rattle.hv_lines.specs.declared.note.Note.{Note}
use Rattle.hv_lines.proofs.Elements.{nothing_in}
use Rattle.hv_replay.proofs.Steps.{either, expanded_out, log_goalless, log_starts}
use Rattle.hv_replay.proofs.Unions.{states_stay, union_begins, union_extended}

-- at first no pruned state has lines
pub progress_begins : (task : Strips) (lines : List Line) → lines ≡ onto prelude []
    → IsGoodTable task lines
    → IsProgress task [] lines (record { set = 0; line = 0 })
progress_begins task lines is good =
    let begins : BeginsAsDraft lines = subst BeginsAsDraft (sym is)
    (goes_on_none (onto prelude [])) in
    record {
      good = good;
      pruned = subst (λ l. ArePruned [] l (record { set = 0; line = 0 })) (sym is) none;
      dead = union_begins lines (prelude_begins task lines begins good);
      inside = λ held c. absurd (nothing_in held c);
    }

-- the five lines of a further pruned state
module _ (task : Strips) (old now new : List Line) (held : List ℕ) (by : ℕ) (union more : Note)
    (extends : Extends task old now)
    (dead : IsDeadBy task now (state_of (atoms task) held) by)
    (lines : (set : ℕ) → Says now by (T.Dead set)
    → new ≡ onto (pruned_lines (expr_count now) (known_count now) held (pruned_word now set)
    (record { set = set; line = by }) union) now)
    (number : more ≡ union_after now) (further : Extends task now new)
    (unions : (pruned : ℕ) → IsPrunedUnion now pruned union
    → IsPrunedUnion new (pruned + 1) more)
    (inside : states_in task new more.set (state_of (atoms task) held))
    (keeps : (state : List Bool) → states_in task now union.set state
    → states_in task new more.set state)
    (states : List (List ℕ)) (before : IsProgress task states old union) where
  abbrev holder : Note
  holder = record { set = dead.set; line = by }

  are_pruned : ArePruned (states ++ held ∷ []) new more
  are_pruned =
      let says : Says (onto extends.0.0 old) by (T.Dead dead.set) = subst
      (λ l. Says l by (T.Dead dead.set)) extends.0.1 dead.dead.says in
      let put : ArePruned (states ++ held ∷ [])
      (after_pruned (onto extends.0.0 old) held holder union)
      (union_after (onto extends.0.0 old)) =
      one_more states old extends.0.0 union held holder before.pruned says in
      let at_now : ArePruned (states ++ held ∷ []) (after_pruned now held holder union)
      (union_after now) =
      subst (λ l. ArePruned (states ++ held ∷ []) (after_pruned l held holder union)
      (union_after l)) (sym extends.0.1) put in
      subst (λ l. ArePruned (states ++ held ∷ []) l more) (sym (lines dead.set dead.dead.says))
      (subst (λ u. ArePruned (states ++ held ∷ []) (after_pruned now held holder union) u)
      (sym number) at_now)

  new_in : (other : List ℕ) → Contains (states ++ held ∷ []) other
      → states_in task new more.set (state_of (atoms task) other)
  new_in other c =
      elim (Contains-push_cases states held other c) [
        | inl there ↦
            keeps (state_of (atoms task) other)
            (states_stay task old now extends union.set (state_of (atoms task) other)
            (speaks_at old union.line (T.Dead union.set) (table_of task old before.good)
            before.dead.says) (before.inside other there))
        | inr same ↦ subst (λ h. states_in task new more.set (state_of (atoms task) h)) same inside
      ]

  pub progress_more : IsProgress task (states ++ held ∷ []) new more
  progress_more = record {
    good = further.1;
    pruned = are_pruned;
    dead = subst (λ n. IsPrunedUnion new n more) (sym (length-append states (held ∷ [])))
        (unions (length states) (union_extended task old now extends (length states) union
        before.dead));
    inside = new_in;
  }

-- entries, and the pruned ones of them

abbrev pick : Bool → LogEntry → List LogEntry → List (List ℕ)
pick b x entries =
    map (λ (e : LogEntry). e.state)
    (cond (not b) (x ∷ filter (λ (e : LogEntry). not e.expanded) entries)
    (filter (λ (e : LogEntry). not e.expanded) entries))

stays_in : (x : LogEntry) (entries : List LogEntry) (held : List ℕ) (b : Bool)
    → Contains (pruned_in entries) held → Contains (pick b x entries) held
stays_in x entries held true c = c
stays_in x entries held false c = Contains-append_right (x.state ∷ []) (pruned_in entries) held c

comes_first : (x : LogEntry) (entries : List LogEntry) (b : Bool) → b ≡ false
    → Contains (pick b x entries) x.state
comes_first x entries false is = Contains-append_left (x.state ∷ []) (pruned_in entries) x.state
    (Contains-push [] x.state)
comes_first x entries true is = absurd cc

pruned_has : (entries : List LogEntry) (place : ℕ) (entry : LogEntry)
    → slice_get entries place ≡ Some entry → entry.expanded ≡ false
    → Contains (pruned_in entries) entry.state
pruned_has [] place entry at is = absurd cc
pruned_has (x ∷ entries) zero entry at is =
    let same : x ≡ entry = cc in
    subst (λ (e : LogEntry). Contains (pruned_in (x ∷ entries)) e.state) same
    (comes_first x entries x.expanded (ap (λ (e : LogEntry). e.expanded) same ∙ is))
pruned_has (x ∷ entries) (suc place) entry at is = stays_in x entries entry.state x.expanded
    (pruned_has entries place entry at is)

-- one entry more
pub entries_next : (log : SearchLog) (place : ℕ) (entry : LogEntry) → StandsInLog log place entry
    → take (place + 1) log.entries ≡ take place log.entries ++ entry ∷ []
entries_next log place entry at =
    take_more log.entries place entry (slice_get_within log.entries place entry at)
    ∙ ap (λ x. take place log.entries ++ x ∷ [])
    (get_or_from_slice_get log.entries place entry entry at)

pub progress_next : (task : Strips) (log : SearchLog) (place : ℕ) (entry : LogEntry)
    (lines : List Line) (union : Note) → StandsInLog log place entry
    → IsProgress task (pruned_in (take place log.entries ++ entry ∷ [])) lines union
    → IsProgress task (pruned_in (take (place + 1) log.entries)) lines union
progress_next task log place entry lines union at is =
    subst (λ es. IsProgress task (pruned_in es) lines union) (sym (entries_next log place entry at))
    is

-- justified entries, where the states that are covered are said otherwise

module _ (log : SearchLog) (P Q : List Bool → Type 0) where
  pub justified_as : ((state : List Bool) → P state → Q state) → (place : ℕ)
      → IsJustified log P place → IsJustified log Q place
  justified_as to place is = λ entry at plain. to (state_in log entry) (is entry at plain)

module _ (task : Strips) (log : SearchLog) (P Q : List Bool → Type 0)
    (same : (state : List Bool) → P state ↔ Q state) where
  first_as : (place : ℕ) → IsFirstWithout (IsJustified log P) place
      → IsFirstWithout (IsJustified log Q) place
  first_as place first = (
    λ all. first.0 (justified_as log Q P (λ state. (same state).1) place all),
    λ before less. justified_as log P Q (λ state. (same state).0) before (first.1 before less),
  )

  pub hole_as : (fault : ReplayFault) → IsFirstHole task log P fault → IsFirstHole task log Q fault
  hole_as H.NoInitial h = h
  hole_as (H.GoalExpanded line) h = h
  hole_as (H.Open line action) h = h
  hole_as (H.Unjustified line) h = (h.0, h.1, h.2, first_as h.1 h.3)
  hole_as H.Memory h = absurd h

  pub closed_as : IsClosed task log P → IsClosed task log Q
  closed_as closed = record {
    followed = closed.followed;
    justified = λ place. justified_as log P Q
        (λ state. (same state).0) place (closed.justified place);
  }

module _ (log : SearchLog) (n : ℕ) (over : log.atoms ≡ n) (P : List Bool → Type 0) (place : ℕ)
    (entry : LogEntry) (stands : StandsInLog log place entry)
    (before : (k : ℕ) → k < place → IsJustified log P k) where
  pub first_uncovered : entry.expanded ≡ false → (P (state_of n entry.state) → ⊥)
      → IsFirstWithout (IsJustified log P) place
  first_uncovered plain not_covered = (
    λ all. not_covered (subst (λ m. P (state_of m entry.state)) over (all entry stands plain)),
    before,
  )

  justified_here : (entry.expanded ≡ false → P (state_of n entry.state)) → IsJustified log P place
  justified_here covered = λ e at plain.
      let same : entry ≡ e = let is : ◌≡◌ {A = Option LogEntry} (Some entry) (Some e) = sym stands
      ∙ at in cc in
      subst (λ x. P (state_in log x)) same
      (subst (λ m. P (state_of m entry.state)) (sym over)
      (covered (ap (λ (x : LogEntry). x.expanded) same ∙ plain)))

  pub next_justified : (entry.expanded ≡ false → P (state_of n entry.state)) → (k : ℕ)
      → k < place + 1 → IsJustified log P k
  next_justified covered k less =
      elim (cases_lt k place) [
        | inl lower ↦ before k lower
        | inr upper ↦
            let same : place ≡ k = omega (arith, less, upper) in
            subst (λ j. IsJustified log P j) same (justified_here covered)
      ]

pub justified_all : (log : SearchLog) (P : List Bool → Type 0) (n : ℕ) → length log.entries ≤ n
    → ((k : ℕ) → k < n → IsJustified log P k)
    → (place : ℕ) → IsJustified log P place
justified_all log P n whole all place = λ entry at plain.
    all place (omega (arith, whole, slice_get_within log.entries place entry at)) entry at plain

-- the end

pub pruned_few : (log : SearchLog) → IsLog log.atoms log.entries
    → length (pruned_in log.entries) ≤ most_pruned
pruned_few log is =
    let size = length-map (filter (λ (e : LogEntry). not e.expanded) log.entries)
    (λ (e : LogEntry). e.state) in
    let many = length-filter (λ (e : LogEntry). not e.expanded) log.entries in
    omega (arith, size, many, is.few.pruned)

module _ (task : Strips) (log : SearchLog) (is : IsLog log.atoms log.entries)
    (over : log.atoms ≡ atoms task) (followed : IsSearchFollowed task log)
    (lines : List Line) (union : Note) (progress : IsProgress task (pruned_in log.entries) lines
    union) where
  abbrev Pruned : List Bool → Type 0
  Pruned = states_in task lines union.set

  noted : (place : ℕ) (entry : LogEntry) → StandsInLog log place entry → entry.expanded ≡ false
      → Pruned (state_in log entry)
  noted place entry at plain =
      subst (λ n. Pruned (state_of n entry.state)) (sym over)
      (progress.inside entry.state (pruned_has log.entries place entry at plain))

  steps : (k : ℕ) (a : Action) → slice_get task.actions k ≡ Some a → (state : List Bool)
      → IsExpanded log state → applicable a state ≡ true
      → IsExpanded log (successor a state) ⊎ Pruned (successor a state)
  steps k a at state from can =
      let w = expanded_out log state from in
      let listed = followed.leads w.0 k w.1 a w.2 w.3 at (ap (applicable a) w.4 ∙ can) in
      either task log followed Pruned noted (successor a state)
      (subst (λ s. IsLogged log (successor a s)) w.4 listed)

  sets : All (IsAtomSet (atoms task)) (expanded_states log)
  sets =
      All-map (IsAtomSet (atoms task)) (λ (e : LogEntry). e.state)
      (filter (λ (e : LogEntry). e.expanded) log.entries)
      (All-filter (λ (e : LogEntry). e.expanded) (IsLogEntry (atoms task)) log.entries
      (subst (λ n. All (IsLogEntry n) log.entries) over is.each))

  expanded_few : length (expanded_states log) ≤ 1000000
  expanded_few =
      let size = length-map (filter (λ (e : LogEntry). e.expanded) log.entries)
      (λ (e : LogEntry). e.state) in
      let many = length-filter (λ (e : LogEntry). e.expanded) log.entries in
      omega (arith, size, many, is.few.expanded)

  pub closed_search : IsClosedSearch task (expanded_states log) Pruned
  closed_search = record {
    atom_sets = sets;
    few = expanded_few;
    leads = subst
        (λ n. (k : ℕ) (a : Action) → slice_get task.actions k ≡ Some a → (state : List Bool)
        → InStates n (expanded_states log) state
        → applicable a state ≡ true → InStates n (expanded_states log) (successor a state)
        ⊎ Pruned (successor a state))
        over steps;
    goalless = subst (λ n. (state : List Bool) → InStates n (expanded_states log) state
        → is_goal task state ≡ true → ⊥)
        over (log_goalless task log followed Pruned noted);
    starts = subst (λ n. InStates n (expanded_states log) (start_state task)
        ⊎ Pruned (start_state task))
        over (log_starts task log followed Pruned noted);
  }

-- with the closing lines the replay is a proof
pub proof_at : {E : Type 0} (task : Strips) (log : SearchLog) (old new : List Line) (union : Note)
    (states : List (List ℕ))
    (r : Result (Unit {0}) E) → states ≡ expanded_states log
    → IsProgress task (pruned_in log.entries) old union
    → OnOk r (new ≡ onto (closing_lines (expr_count old) (known_count old) states union) old)
    → Extends task old new
    → OnOk r (Concludes new) → OnOk r (IsProof task log new)
proof_at task log old new union states (Ok one) same progress lines extends concludes = record {
  replayed = (
    old,
    union,
    progress.pruned,
    lines ∙ ap (λ ss. onto (closing_lines (expr_count old) (known_count old) ss union) old) same,
  );
  good = extends.1;
  concludes = concludes;
}
proof_at task log old new union states (Err e) same progress lines extends concludes = tt

-- results, where the states that are covered are said otherwise
module _ {D : Type 0} (task : Strips) (log : SearchLog) (P Q : List Bool → Type 0)
    (same : (state : List Bool) → P state ↔ Q state) where
  pub result_closed : (r : Result D ReplayFault) → IfOk r (λ _. IsClosed task log P)
      → IfOk r (λ _. IsClosed task log Q)
  result_closed (Ok draft) h = closed_as task log P Q same h
  result_closed (Err fault) h = tt

  pub result_hole : (r : Result D ReplayFault)
      → IfErr r (λ fault. (fault ≡ H.Memory → ⊥) → IsFirstHole task log P fault)
      → IfErr r (λ fault. (fault ≡ H.Memory → ⊥) → IsFirstHole task log Q fault)
  result_hole (Ok draft) h = tt
  result_hole (Err fault) h = λ other. hole_as task log P Q same fault (h other)
