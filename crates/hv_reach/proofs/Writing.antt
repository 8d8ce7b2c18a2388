-- The block of a formula is written after a pruner's question, and noted.
use Rattle.std.proofs.Common.{◌≡◌, ℕ, ◌+◌, ◌↔◌, ◌++◌, Bool, true, List, [], ◌∷◌, Some, Result}
use Rattle.std.proofs.Common.{Ok, Err, length, sym, subst}
use Rattle.std.specs.Result.{IfOk, OnErr}
use Rattle.hv_task.specs.Strips.{Strips, IsState, atoms}
use Rattle.hv_sets.specs.Truth.{in_clauses}
use Rattle.hv_sets.specs.declared.literal.Literal.{Literal}
use Rattle.hv_lines.specs.Drafts.{DraftState, IsGoodTable, draft_setting, onto}
use Rattle.hv_lines.specs.Meaning.{SetOfStates}
use Rattle.hv_lines.specs.Numbering.{IsTable, expr_at}
use Rattle.hv_lines.specs.Pruning.{NoneNoted}
use Rattle.hv_lines.specs.Working.Pruning.{IsOutcome}
use Rattle.hv_lines.specs.declared.formula_family.FormulaFamily.TheVariants as F
use Rattle.hv_lines.specs.declared.line.Expr.TheVariants as E
use Rattle.hv_lines.specs.declared.line.Line.{Line}
use Rattle.hv_lines.specs.declared.note.Note.{Note}
use Rattle.hv_lines.proofs.Blocks.{outcome_written, written_set}
use Rattle.hv_lines.proofs.Clausal.{horn_clausal}
use Rattle.hv_lines.proofs.Drafting.{table_of}
use Rattle.hv_lines.proofs.Extended.{extends_by}
use Rattle.hv_lines.proofs.Laws.{set_in, set_out}
use Rattle.hv_reach.specs.Working.Fitting.{denied_kept, described_fit}
use Rattle.hv_reach.specs.Pruners.{AreDescribed, AreHornNotes, IsDenied}
use Rattle.hv_reach.specs.Working.Pruners.{ShowsWhyDead}
use Rattle.hv_reach.specs.Written.{dead_block}
use Rattle.hv_reach.proofs.Described.{described_pushed}

module _ (task : Strips) (lines : List Line) (clauses : List (List Literal)) (m k : ℕ)
    (good : IsGoodTable task (onto (dead_block m k clauses) lines)) where
  abbrev Written : List Line
  Written = onto (dead_block m k clauses) lines

  table : IsTable Written
  table = table_of task Written good

  written_horn : expr_at Written m ≡ Some (E.Horn clauses)
  written_horn = written_set task (E.Horn clauses) F.Horn clauses (horn_clausal task clauses) lines
      m k true table

  abbrev Noted : Note
  Noted = record { set = m; line = k + 3 }

  -- no note's formula holds the state, and its block is written
  pub horn_outcome : (covered : SetOfStates) (state : List Bool)
      → ShowsWhyDead task covered state clauses → (IsBlock : List Line → Note → Type 0)
      (notes : List Note) → IsState task state → AreHornNotes task covered lines notes
      → IsBlock (dead_block m k clauses) Noted → NoneNoted task lines notes state
      → (draft new : DraftState) (new_notes : List Note) → draft.lines ≡ lines
      → new.lines ≡ Written → new_notes ≡ notes ++ Noted ∷ []
      → IsOutcome task covered (IsDenied (atoms task)) IsBlock state (Some (k + 3)) notes draft
      new_notes new
  horn_outcome covered state reason IsBlock notes is_state fits block none =
      outcome_written task (E.Horn clauses) F.Horn clauses (horn_clausal task clauses) lines m k
      true good covered reason.within (IsDenied (atoms task)) (denied_kept task)
      (clauses, written_horn, reason.dead.denials) IsBlock state notes is_state reason.holds fits
      none block

  -- what is kept of the block's formula is right
  pub written_described : {X : Type 0} (Holds : List X → List Bool → Type 0) (covered : SetOfStates)
      (notes : List Note)
      (reached : List (List X)) (item : List X) → AreHornNotes task covered lines notes
      → AreDescribed Holds task lines notes reached
      → length item ≡ atoms task → ((state : List Bool) → IsState task state
      → (in_clauses clauses state ≡ true) ↔ Holds item state)
      → (new : List Line) (new_notes : List Note) (new_reached : List (List X)) → new ≡ Written
      → new_notes ≡ notes ++ Noted ∷ []
      → new_reached ≡ reached ++ item ∷ [] → AreDescribed Holds task new new_notes new_reached
  written_described Holds covered notes reached item fits fact size tells new new_notes new_reached
      is noted kept =
      subst (λ ls. AreDescribed Holds task ls new_notes new_reached) (sym is)
      (subst (λ ns. AreDescribed Holds task Written ns new_reached) (sym noted)
      (subst (λ rs. AreDescribed Holds task Written (notes ++ Noted ∷ []) rs) (sym kept)
      (described_pushed Holds task Written notes reached Noted item
      (described_fit Holds task covered lines Written notes reached fits
      (extends_by task (dead_block m k clauses) lines good) fact) (
        size,
        λ state is_state. (
          λ inside. (tells state is_state).0 (set_out task (draft_setting task).nodes Written m
              (E.Horn clauses) table written_horn state inside),
          λ holds. set_in task (draft_setting task).nodes Written m (E.Horn clauses) table
              written_horn state ((tells state is_state).1 holds),
        ),
      ))))

-- what is kept of the notes is right also after running out of memory
pub described_after : {X Y Z : Type 0} (Holds : List X → List Bool → Type 0) (task : Strips)
    (draft new : DraftState) (notes new_notes : List Note)
    (reached new_reached : List (List X)) (result : Result Y Z)
    → IfOk result (λ _. AreDescribed Holds task new.lines new_notes new_reached)
    → OnErr result (new ≡ draft)
    → OnErr result (new_notes ≡ notes) → OnErr result (new_reached ≡ reached)
    → AreDescribed Holds task draft.lines notes reached
    → AreDescribed Holds task new.lines new_notes new_reached
described_after Holds task draft new notes new_notes reached new_reached (Ok found) now d n r fact =
    now
described_after Holds task draft new notes new_notes reached new_reached (Err error) now d n r fact
    =
    subst (λ (x : DraftState). AreDescribed Holds task x.lines new_notes new_reached) (sym d)
    (subst (λ x. AreDescribed Holds task draft.lines x new_reached) (sym n)
    (subst (λ x. AreDescribed Holds task draft.lines notes x) (sym r) fact))
