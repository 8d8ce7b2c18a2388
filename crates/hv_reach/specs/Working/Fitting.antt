-- What fits a draft fits each extension of it: the law of the trait Pruner for notes of formulas.
use Rattle.std.specs.Prelude.{◌↔◌, ℕ, Bool, List, Option, Some, None, IfSome, slice_get}
use Rattle.std.proofs.Common.{subst, sym}
use Rattle.hv_task.specs.Strips.{Strips, atoms}
use Rattle.hv_lines.specs.Meaning.{SetOfStates}
use Rattle.hv_lines.specs.Pruning.{Extends}
use Rattle.hv_lines.specs.declared.line.Expr.TheVariants as E
use Rattle.hv_lines.specs.declared.line.Line.{Line}
use Rattle.hv_lines.specs.declared.note.Note.{Note}
use Rattle.hv_lines.proofs.Extended.{expr_extended, literal_below, states_extended}
use Rattle.hv_lines.proofs.Outcomes.{notes_kept}
use Rattle.hv_reach.specs.Pruners.{AreHornNotes, AreDescribed, FitPairs, FitRelaxed, HoldsAtomsOf}
use Rattle.hv_reach.specs.Pruners.{HoldsPairsOf, IsDenied, PairNotes, PairsCover, RelaxedNotes}
use Rattle.hv_reach.specs.Pruners.{Describes}
use Rattle.hv_reach.specs.Written.{RelaxedExcludesFrom}

pub denied_kept : (task : Strips) (old new : List Line) → Extends task old new → (set : ℕ)
    → IsDenied (atoms task) old set → IsDenied (atoms task) new set
denied_kept task old new extends set (clauses, at, denials) =
    (clauses, expr_extended task old new extends set (E.Horn clauses) at, denials)

pub notes_fit : (task : Strips) (covered : SetOfStates) (old new : List Line) (notes : List Note)
    → AreHornNotes task covered old notes → Extends task old new
    → AreHornNotes task covered new notes
notes_fit task covered = notes_kept task covered (IsDenied (atoms task)) (denied_kept task)

-- what is said of an item, in other words
pub if_some : {X : Type 0} (found : Option X) (P Q : X → Type 0) → ((x : X) → P x → Q x)
    → IfSome found P → IfSome found Q
if_some None P Q more fact = tt
if_some (Some x) P Q more fact = more x fact

pub described_fit : {X : Type 0} (Holds : List X → List Bool → Type 0) (task : Strips)
    (covered : SetOfStates) (old new : List Line) (notes : List Note) (reached : List (List X))
    → AreHornNotes task covered old notes → Extends task old new
    → AreDescribed Holds task old notes reached → AreDescribed Holds task new notes reached
described_fit Holds task covered old new notes reached fits extends fact = (
  fact.0,
  λ k note at.
      if_some (slice_get reached k) (Describes Holds task old note.set)
      (Describes Holds task new note.set)
      (λ item this. (
        this.0,
        λ state is_state.
            subst (λ (S : SetOfStates). S state ↔ Holds item state)
            (sym (states_extended task old new extends note.set
            (literal_below task old new extends note.set (fits k note at).0.dead.literal)))
            (this.1 state is_state),
      ))
      (fact.1 k note at),
)

pub relaxed_fits : (task : Strips) (old new : List Line) (kept : RelaxedNotes)
    → FitRelaxed task old kept → Extends task old new → FitRelaxed task new kept
relaxed_fits task old new kept fits extends = (
  notes_fit task (RelaxedExcludesFrom task) old new kept.notes fits.0 extends,
  described_fit HoldsAtomsOf task (RelaxedExcludesFrom task) old new kept.notes kept.reached fits.0
      extends fits.1,
  fits.2,
)

pub pairs_fit : (task : Strips) (old new : List Line) (kept : PairNotes)
    → FitPairs task old kept → Extends task old new → FitPairs task new kept
pairs_fit task old new kept fits extends = (
  notes_fit task (PairsCover task) old new kept.notes fits.0 extends,
  described_fit HoldsPairsOf task (PairsCover task) old new kept.notes kept.reached fits.0 extends
      fits.1,
  fits.2,
)
