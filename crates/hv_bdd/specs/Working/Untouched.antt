-- What is known of all searches of the same operands whose actions mark none of some places.
use Rattle.std.specs.Prelude.{◌≡◌, ◌<◌, ◌≤◌, ℕ, Bool, true, List, Option, None, IfSome, MatchOption}
use Rattle.std.specs.Prelude.{length}
use Rattle.hv_task.specs.State.{has_atom, state_of}
use Rattle.hv_task.specs.Strips.{Strips, atoms, start_state}
use Rattle.hv_sets.specs.declared.finding.Finding.TheVariants as F
use Rattle.hv_bdd.specs.declared.asked.Asked.{Asked}
use Rattle.hv_bdd.specs.declared.untouched.Untouched.{Untouched}
use Rattle.hv_bdd.specs.Live.{bit_mark_of, moves}
use Rattle.hv_bdd.specs.Nodes.{NodeList}
use Rattle.hv_bdd.specs.Order.{atom_at}
use Rattle.hv_bdd.specs.Tuples.{least}
use Rattle.hv_bdd.specs.Working.Graphs.{IsLiveAnswer}
use Rattle.hv_bdd.specs.Working.Search.{TupleSearch}

-- no place among these has an atom with a mark
abbrev pub MarksNone : NodeList → List (Option Bool) → List Bool → Type 0
MarksNone list marks places =
    (v : ℕ) → v < list.atoms → has_atom places v ≡ true → bit_mark_of marks (atom_at list v) ≡ None

-- the tuple asks for a place among these
abbrev pub AsksAmong : TupleSearch → List Bool → List ℕ → Type 0
AsksAmong s places nodes =
    (least (moves s.setting) s.asked nodes < s.setting.list.atoms)
    × (has_atom places (least (moves s.setting) s.asked nodes) ≡ true)

-- no state suits these operands by an action that marks none of these places, and its search
-- reaches no more than so many tuples
abbrev pub FindNothing : NodeList → List Bool → List Bool → List Asked → List Bool → ℕ → Type 0
FindNothing list start goal asked places count =
    (needed changed : List (Option Bool)) (budget : ℕ) (state : List Bool)
    → length needed ≡ list.atoms → length changed ≡ list.atoms
    → MarksNone list needed places → MarksNone list changed places → count ≤ budget
    → IsLiveAnswer F.Empty (record {
      list = list;
      start = start;
      goal = goal;
      needed = needed;
      changed = changed;
    }) asked budget state

-- what is kept is so
pub record IsKeptTruly (list : NodeList) (start goal : List Bool) (known : Untouched) : Type 0 where
  pub size : length known.places ≡ list.atoms
  pub nothing : IfSome known.count (λ count.
      FindNothing list start goal known.asked.items known.places count)

-- so is what is kept of a task's searches, if anything is
abbrev pub IsKeptOf : NodeList → Strips → Option Untouched → Type 0
IsKeptOf list task known =
    IfSome known (IsKeptTruly list (start_state task) (state_of (atoms task) task.goal))

-- and it is kept of the operands of a search
abbrev pub IsKeptTrulyFor : TupleSearch → Option Untouched → Type 0
IsKeptTrulyFor s known = IfSome known (λ k. (k.asked.items ≡ s.asked)
    × IsKeptTruly s.setting.list s.setting.start s.setting.goal k)

-- it says that a search by an action of these marks finds nothing within the budget
abbrev pub IsFruitless : NodeList → List (Option Bool) → List (Option Bool) → ℕ → Option Untouched
    → Type 0
IsFruitless list needed changed budget known =
    MatchOption known ⊥ (λ k. MatchOption k.count ⊥ (λ count.
    MarksNone list needed k.places × MarksNone list changed k.places × (count ≤ budget)))
