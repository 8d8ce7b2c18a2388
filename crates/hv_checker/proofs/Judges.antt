-- What is kept stays right where nothing changes, and where a good line is put in.
use Rattle.std.proofs.Common.{◌≡◌, List, ◌∷◌, MatchOption, None, Option, Some, refl, subst, sym}
use Rattle.std.proofs.Common.{Result, Ok, Err, IfOk, OnErr}
use Rattle.std.specs.declared.alloc.AllocError.{AllocError}
use Rattle.hv_basic.specs.Sharing.{IsShared}
use Rattle.hv_basic.specs.Stores.{IsStoreOf, StoreState}
use Rattle.hv_basic.specs.declared.shared.Shared.{Shared}
use Rattle.hv_basic.specs.declared.store.Store.{Store}
use Rattle.hv_lines.specs.Good.{IsGood}
use Rattle.hv_lines.specs.Numbering.{IsNumbered, MayFollow}
use Rattle.hv_lines.specs.Judged.{IsReason, LineText}
use Rattle.hv_lines.specs.Setting.{Setting}
use Rattle.hv_lines.specs.declared.line.Line.{Line}
use Rattle.hv_lines.specs.declared.line.Line.TheVariants as L
use Rattle.hv_task.specs.Strips.{Strips}
use Rattle.hv_lines.specs.declared.reason.Reason.{Reason}
use Rattle.hv_lines.proofs.Reasons.{good_next}
use Rattle.hv_basic.proofs.Growing.{stands_with}
use Rattle.hv_checker.specs.Stopping.{stop_after}
use Rattle.hv_checker.specs.Working.Judge.{IsJudge, SaysNoSet}
use Rattle.hv_checker.specs.Working.PieceVerdicts.{IsPlainFeedAnswer}
use Rattle.hv_checker.specs.declared.piece.Fed.{Fed}
use Rattle.hv_checker.specs.declared.piece.Fed.TheVariants as F
use Rattle.hv_checker.specs.declared.stop.Stop.{Stop}
use Rattle.hv_checker.specs.declared.stop.Stop.TheVariants as S

module _ (setting : Setting) (old new : List Line) (store next : Store) (shared : Shared)
    (is : IsJudge (record { setting = setting; lines = old }) store shared) where
  pub judge_same : new ≡ old → next ≡ store
      → IsJudge (record { setting = setting; lines = new }) next shared
  judge_same same kept =
      subst (λ lines. IsJudge (record { setting = setting; lines = lines }) next shared) (sym same)
      (subst (λ s. IsJudge (record { setting = setting; lines = old }) s shared) (sym kept) is)

  pub judge_more : (line : Line) → new ≡ line ∷ old → IsGood setting old line
      → IsStoreOf setting.task (line ∷ old) next
      → (MayFollow old line → IsShared old shared → IsShared (line ∷ old) shared)
      → IsJudge (record { setting = setting; lines = new }) next shared
  judge_more line added good stored stays =
      subst (λ lines. IsJudge (record { setting = setting; lines = lines }) next shared) (sym added)
      record {
        setting = is.setting;
        good = (good, is.good);
        stored = stored;
        kept = stays (good_next setting old line good) is.kept;
      }

-- what is known where nothing is said
pub none_told : {X : Type 0} (o : Option X) (P : Type 0) (Q : X → Type 0) → MatchOption o P Q
    → ((x : X) → o ≡ Some x → ⊥) → P
none_told None P Q told none = told
none_told (Some x) P Q told none = absurd (none x refl)

-- a line that says no set leaves the store as it is
pub stored_alone : (task : Strips) (lines : List Line) (store : StoreState) (line : Line)
    → SaysNoSet line → IsStoreOf task lines store → IsNumbered lines line
    → IsStoreOf task (line ∷ lines) store
stored_alone task lines store (L.Acts id acts) none is numbered =
    stands_with task lines store store (L.Acts id acts) is numbered refl
stored_alone task lines store (L.Expr id expr) none is numbered = absurd none
stored_alone task lines store (L.Known id statement word premises) none is numbered =
    stands_with task lines store store (L.Known id statement word premises) is numbered refl

-- a piece that is refused for its reason is answered so
pub refused_answer : (setting : Setting) (old new : List Line) (piece : LineText) (reason : Reason)
    (stop : Stop) (answer : Result Fed AllocError)
    → IfOk answer (λ fed. (fed ≡ F.Refused reason) × (stop ≡ S.Refused reason))
    → IsReason setting old piece reason → new ≡ old
    → IfOk answer (λ fed. IsPlainFeedAnswer setting old new piece fed)
refused_answer setting old new piece reason stop (Ok fed) said why same =
    subst (λ f. IsPlainFeedAnswer setting old new piece f) (sym said.0) (why, same)
refused_answer setting old new piece reason stop (Err error) said why same = tt

-- and the checker goes no further
pub refused_stop : (reason : Reason) (before stop : Stop) (answer : Result Fed AllocError)
    → IfOk answer (λ fed. (fed ≡ F.Refused reason) × (stop ≡ S.Refused reason))
    → IfOk answer (λ fed. stop ≡ stop_after before fed)
refused_stop reason before stop (Ok fed) said =
    subst (λ f. stop ≡ stop_after before f) (sym said.0) said.1
refused_stop reason before stop (Err error) said = tt

-- what is so anyway is so where memory ran out
pub so_anyway : (answer : Result Fed AllocError) (P : Type 0) → P → OnErr answer P
so_anyway (Ok fed) P is = tt
so_anyway (Err error) P is = is
