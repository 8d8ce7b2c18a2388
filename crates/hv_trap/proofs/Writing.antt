-- What a note of the greatest trap tells, and the block that is written after a pruner's question.
use Rattle.std.proofs.Common.{◌≡◌, ℕ, ◌+◌, ◌≤◌, ◌++◌, Bool, false, List, [], ◌∷◌, Option, Some}
use Rattle.std.proofs.Common.{None, length, slice_get, refl, sym, ap, subst, inl, arith}
use Rattle.std.specs.Option.{SomeIff}
use Rattle.hv_task.specs.Strips.{Strips, IsState, atoms}
use Rattle.hv_sets.specs.Truth.{in_clauses}
use Rattle.hv_sets.specs.declared.literal.Literal.{Literal}
use Rattle.hv_propagation.specs.Clauses.{AreClauses}
use Rattle.hv_lines.specs.Drafts.{DraftState, IsGoodTable, onto}
use Rattle.hv_lines.specs.Numbering.{IsTable, expr_at}
use Rattle.hv_lines.specs.Pruning.{NoneNoted, states_in}
use Rattle.hv_lines.specs.Shapes.{IsLiteralOf}
use Rattle.hv_lines.specs.Working.Pruning.{IsOutcome}
use Rattle.hv_lines.specs.declared.formula_family.FormulaFamily.TheVariants as F
use Rattle.hv_lines.specs.declared.line.Expr.TheVariants as E
use Rattle.hv_lines.specs.declared.line.Line.{Line}
use Rattle.hv_lines.specs.declared.note.Note.{Note}
use Rattle.hv_lines.proofs.Blocks.{outcome_written, written_literal, written_set}
use Rattle.hv_lines.proofs.Clausal.{literal_in, literal_out, two_clausal}
use Rattle.hv_lines.proofs.Drafting.{table_of}
use Rattle.hv_lines.proofs.Outcomes.{outcome_beyond, outcome_noted}
use Rattle.hv_trap.specs.Working.Fitting.{trap_set_kept}
use Rattle.hv_trap.specs.Pruner.{AreTrapNotes, IsTrapBlock, IsTrapSet, TrapCovers}
use Rattle.hv_trap.specs.Trap.{AreTrapClauses}
use Rattle.hv_trap.specs.Written.{trap_block}
use Rattle.hv_trap.proofs.Enclosing.{enclose_below}
use Rattle.hv_trap.proofs.Trapped.{trap_encloses, trap_satisfied}

-- the clauses of the trap are over the atoms of a state
pub trap_below : (task : Strips) (clauses : List (List Literal)) (state : List Bool)
    → AreTrapClauses task clauses → IsState task state
    → AreClauses (length state) clauses
trap_below task clauses state trap is_state =
    subst (λ n. AreClauses n clauses) (sym is_state)
    (enclose_below task trap.0 clauses (trap_encloses task clauses trap))

-- the set that a note is of has the states that satisfy a conjunction of the greatest trap
module _ (task : Strips) (lines : List Line) (table : IsTable lines) (set formula : ℕ)
    (clauses : List (List Literal))
    (negates : expr_at lines set ≡ Some (E.Not formula))
    (says : expr_at lines formula ≡ Some (E.Two clauses)) (state : List Bool) where
  literal : IsLiteralOf lines set formula false
  literal = (negates, (E.Two clauses, says, inl tt))

  pub set_breaks : states_in task lines set state → in_clauses clauses state ≡ false
  set_breaks = literal_out task (E.Two clauses) F.Two clauses (two_clausal task clauses) lines
      formula says table state false set literal

  pub breaks_set : in_clauses clauses state ≡ false → states_in task lines set state
  breaks_set = literal_in task (E.Two clauses) F.Two clauses (two_clausal task clauses) lines
      formula says table state false set literal

-- the clauses that are there are those of the trap
pub asked_clauses : (task : Strips) (lines : List Line) (set : ℕ) → IsTrapSet task lines set
    → (formula : ℕ) (clauses : List (List Literal))
    → expr_at lines set ≡ Some (E.Not formula) → expr_at lines formula ≡ Some (E.Two clauses)
    → AreTrapClauses task clauses
asked_clauses task lines set (named, of, negates, says, trap) formula clauses negates_too says_too =
    let same : named ≡ formula = cc (negates, negates_too) in
    let is : of ≡ clauses = cc (says, says_too, ap (expr_at lines) same) in
    subst (AreTrapClauses task) is trap

covered_in : (task : Strips) (lines : List Line) → IsTable lines → (set : ℕ)
    → IsTrapSet task lines set → (state : List Bool)
    → TrapCovers task state → states_in task lines set state
covered_in task lines table set (formula, clauses, negates, says, trap) state covered =
    breaks_set task lines table set formula clauses negates says state
    ((trap_satisfied task clauses trap state).1 covered.1)

-- the first note tells
pub outcome_first : (task : Strips) (state : List Bool) (notes : List Note) (draft : DraftState)
    → IsState task state → IsGoodTable task draft.lines → AreTrapNotes task draft.lines notes
    → (note : Note) → slice_get notes 0 ≡ Some note → (found : Option ℕ)
    → SomeIff found (states_in task draft.lines note.set state) note.line
    → IsOutcome task (TrapCovers task) (IsTrapSet task) (IsTrapBlock task draft.lines) state found
    notes draft notes draft
outcome_first task state notes draft is_state good fits note at None told =
    outcome_beyond task (TrapCovers task) (IsTrapSet task) (IsTrapBlock task draft.lines) state
    notes draft is_state good fits
    (λ is. told (covered_in task draft.lines (table_of task draft.lines good) note.set
    (fits 0 note at).1 state is))
outcome_first task state notes draft is_state good fits note at (Some line) told =
    outcome_noted task (TrapCovers task) (IsTrapSet task) (IsTrapBlock task draft.lines) state
    notes draft is_state good fits line (record {
      place = 0;
      note = note;
      at = at;
      by = sym told.1;
      holds = told.0;
      first = λ k other less also inside. absurd (omega (arith, less));
    })

-- without notes none holds a state
pub none_noted : (task : Strips) (lines : List Line) (notes : List Note) (state : List Bool)
    → ((note : Note) → slice_get notes 0 ≡ Some note → ⊥) → NoneNoted task lines notes state
none_noted task lines [] state none k note at inside = absurd (cc (at))
none_noted task lines (x ∷ notes) state none k note at inside = none x refl

-- no note's literal holds the state, it is covered, and the block is written and noted
pub trap_outcome : (task : Strips) (lines : List Line) (clauses : List (List Literal)) (s k : ℕ)
    → IsGoodTable task (onto (trap_block s k clauses) lines) → atoms task ≤ 64
    → AreTrapClauses task clauses → (state : List Bool) → IsState task state
    → TrapCovers task state → (notes : List Note) → AreTrapNotes task lines notes
    → NoneNoted task lines notes state
    → IsTrapBlock task lines (trap_block s k clauses) (record { set = s + 1; line = k + 3 })
    → (draft new : DraftState) (new_notes : List Note) → draft.lines ≡ lines
    → new.lines ≡ onto (trap_block s k clauses) lines
    → new_notes ≡ notes ++ record { set = s + 1; line = k + 3 } ∷ []
    → IsOutcome task (TrapCovers task) (IsTrapSet task) (IsTrapBlock task lines) state
    (Some (k + 3)) notes draft new_notes new
trap_outcome task lines clauses s k good few trap state is_state covered notes fits none block =
    let table = table_of task (onto (trap_block s k clauses) lines) good in
    let literal = written_literal task (E.Two clauses) F.Two clauses (two_clausal task clauses)
    lines s k false table in
    let set = written_set task (E.Two clauses) F.Two clauses (two_clausal task clauses) lines s k
    false table in
    outcome_written task (E.Two clauses) F.Two clauses (two_clausal task clauses) lines s k false
    good (TrapCovers task)
    (λ other is_other breaks. (few, (trap_satisfied task clauses trap other).0 breaks))
    (IsTrapSet task) (trap_set_kept task) (s, clauses, literal.0, set, trap)
    (IsTrapBlock task lines) state notes is_state
    ((trap_satisfied task clauses trap state).1 covered.1) fits none block
