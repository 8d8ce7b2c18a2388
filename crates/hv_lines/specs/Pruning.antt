-- Drafts that grow, what they show of states, and how a pruner answers by its notes.
use Rattle.std.specs.Prelude.{◌≡◌, ◌<◌, ◌≤◌, ◌++◌, ℕ, Bool, List, [], ◌∷◌, Option, Some, None}
use Rattle.std.specs.Prelude.{length, slice_get}
use Rattle.hv_task.specs.Strips.{Strips, IsState, atoms}
use Rattle.hv_bdd.specs.Nodes.{no_nodes}
use Rattle.hv_lines.specs.Drafts.{DraftState, IsGoodTable, default_budget, onto, prelude}
use Rattle.hv_lines.specs.Literals.{IsLiteral}
use Rattle.hv_lines.specs.Meaning.{SetOfStates, sets_of}
use Rattle.hv_lines.specs.Numbering.{expr_at, statement_at}
use Rattle.hv_lines.specs.declared.line.Expr.TheVariants as E
use Rattle.hv_lines.specs.declared.line.Line.{Line}
use Rattle.hv_lines.specs.declared.line.Statement.TheVariants as T
use Rattle.hv_lines.specs.declared.note.Note.{Note}

-- the new lines are the old ones and, after them, further ones; in both the newest is the first
abbrev pub GoesOn : List Line → List Line → Type 0
GoesOn old new = (more : List Line) × (new ≡ onto more old)

-- the lines begin as every draft does
abbrev pub BeginsAsDraft : List Line → Type 0
BeginsAsDraft lines = GoesOn (onto prelude []) lines

-- the new lines are those of a good draft for the task, and the old ones are the first of them
abbrev pub Extends : Strips → List Line → List Line → Type 0
Extends task old new = GoesOn old new × IsGoodTable task new

-- the states of the set in a draft for the task, where there is no node file
abbrev pub states_in : Strips → List Line → ℕ → SetOfStates
states_in task lines set = sets_of task (no_nodes (atoms task)) lines set

-- where the set is the negation of listed states, these are at most 1,000,000: so many as a query
-- may cost
abbrev pub DeniesFew : List Line → ℕ → Type 0
DeniesFew lines set =
    (inner : ℕ) (states : List (List ℕ)) → expr_at lines set ≡ Some (E.Not inner)
    → expr_at lines inner ≡ Some (E.States states) → length states ≤ default_budget

-- the set is a literal, and the line says that it is dead
pub record IsDeadLiteral (lines : List Line) (set line : ℕ) : Type 0 where
  pub literal : IsLiteral lines set
  pub says : statement_at lines line ≡ Some (T.Dead set)
  pub few : DeniesFew lines set

-- the line says that a literal is dead which holds the state
pub record IsDeadBy (task : Strips) (lines : List Line) (state : List Bool) (line : ℕ)
    : Type 0 where
  pub set : ℕ
  pub dead : IsDeadLiteral lines set line
  pub holds : states_in task lines set state

-- what was noted is in the lines: the line says that the literal is dead, and the literal holds
-- covered states alone
pub record IsNoted (task : Strips) (covered : SetOfStates) (lines : List Line) (note : Note)
    : Type 0 where
  pub dead : IsDeadLiteral lines note.set note.line
  pub within : (state : List Bool) → IsState task state → states_in task lines note.set state
      → covered state

-- the line is that of the first note whose literal holds the state
pub record IsFirstNoted (task : Strips) (lines : List Line) (notes : List Note) (state : List Bool)
    (line : ℕ) : Type 0 where
  pub place : ℕ
  pub note : Note
  pub at : slice_get notes place ≡ Some note
  pub by : note.line ≡ line
  pub holds : states_in task lines note.set state
  pub first : (k : ℕ) (other : Note) → k < place → slice_get notes k ≡ Some other
      → states_in task lines other.set state → ⊥

-- no note's literal holds the state
abbrev pub NoneNoted : Strips → List Line → List Note → List Bool → Type 0
NoneNoted task lines notes state =
    (k : ℕ) (note : Note) → slice_get notes k ≡ Some note
    → states_in task lines note.set state → ⊥

-- How a pruner with notes answers of a state: the line that it found, its notes and the draft
-- before and after. A block is what it writes for this state: lines, and the note of what they
-- show.
pub record IsPrunerAnswer (task : Strips) (covered : SetOfStates) (IsBlock : List Line → Note → Type
    0)
    (state : List Bool) (found : Option ℕ) (notes : List Note) (draft : DraftState)
    (new_notes : List Note) (new_draft : DraftState) : Type 0 where
  -- where a note's literal holds the state, the first such note answers
  pub noted : (line : ℕ) → IsFirstNoted task draft.lines notes state line
      → (found ≡ Some line) × (new_notes ≡ notes) × (new_draft ≡ draft)
  -- otherwise, where the state is covered, a block is written and noted
  pub written : NoneNoted task draft.lines notes state → covered state
      → (block : List Line) × (note : Note) × IsBlock block note
      × (new_draft.lines ≡ onto block draft.lines) × (new_notes ≡ notes ++ note ∷ [])
      × (found ≡ Some note.line)
  -- otherwise there is none
  pub nothing : NoneNoted task draft.lines notes state → (covered state → ⊥)
      → (found ≡ None) × (new_notes ≡ notes) × (new_draft ≡ draft)
