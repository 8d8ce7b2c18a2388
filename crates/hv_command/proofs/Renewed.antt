-- A closed proof that is written in place of another one is judged as that is.
use Rattle.std.proofs.Common.{◌≡◌, ◌≤◌, ◌<◌, ◌^◌, ℕ, ◌∙◌, List, [], ◌∷◌, ◌++◌, Option, None, Some}
use Rattle.std.proofs.Common.{ap, append-nil, arith, inl, inr, length, reverse, subst, sym}
use Rattle.std.proofs.lemmas.List.{reverse-append}
use Rattle.hv_bytes.specs.Files.{Names, bytes_of}
use Rattle.hv_bytes.specs.Pieces.{PieceBytes, pieces_of}
use Rattle.hv_bytes.specs.Standard.{most_file_bytes, standard}
use Rattle.hv_task.specs.Strips.{Strips, atoms}
use Rattle.hv_task_text.specs.TaskText.{AreTaskTextOf}
use Rattle.hv_task_text.proofs.OneAnswer.{one_task}
use Rattle.hv_bdd.specs.Nodes.{NodeList, no_nodes}
use Rattle.hv_bdd.proofs.OneAnswer.{one_list}
use Rattle.hv_lines.specs.Judged.{Accepts, Concludes, Judged, JudgedBytes, Judgement, LineText}
use Rattle.hv_lines.specs.Judged.{NoConclusion, Refused, Unsolvable}
use Rattle.hv_lines.specs.Setting.{Setting, setting_of}
use Rattle.hv_lines.specs.Versions.{judged_so_far, last_mark, missing_end, part_of}
use Rattle.hv_lines.specs.declared.part.Part.{Part}
use Rattle.hv_lines.specs.declared.part.Part.TheVariants as P
use Rattle.hv_lines.proofs.Versions.{none_last}
use Rattle.hv_lines.specs.declared.line.Line.{Line}
use Rattle.hv_checker.proofs.OneJudgement.{accepts_once}
use Rattle.hv_proof_text.proofs.ClosedBack.{closed_judged}
use Rattle.hv_command.specs.Answer.{AnswersCheck, AnswersProof, AnswersTask, HasNodes, IsTold}
use Rattle.hv_command.specs.Answer.{IsUpgradedProof}
use Rattle.hv_command.specs.Replies.{judgement_status}
use Rattle.hv_command.specs.declared.job.Report.TheVariants as R
use Rattle.hv_command.specs.declared.status.Status.{Status}
use Rattle.hv_command.specs.declared.status.Status.TheVariants as S

-- a task text names few atoms
pub few_atoms : (pieces : List PieceBytes) (task : Strips) → AreTaskTextOf pieces task → atoms task
    < 10 ^ 18
few_atoms pieces task text =
    let few = text.2.legal.is_head.names.few in
    let same = ap (λ (t : Strips). atoms t) text.2.says in
    omega (arith, few, same)

-- Where all pieces of a proof are accepted, its end isn't missing.
module _ (setting : Setting) (lines : List Line) where
  none_lacking : (part : Part) (pieces : List LineText)
      → Accepts setting (reverse (pieces ++ missing_end part)) lines
      → Accepts setting (reverse pieces) lines
  none_lacking P.AtStart pieces accepts =
      subst (λ ps. Accepts setting (reverse ps) lines) (append-nil pieces) accepts
  none_lacking P.Open pieces accepts =
      subst (λ ps. Accepts setting (reverse ps) lines) (append-nil pieces) accepts
  none_lacking P.BeforeEnd pieces accepts =
      no_end (subst (λ ps. Accepts setting ps lines) (reverse-append pieces (Some last_mark ∷ []))
      accepts)
    where
      no_end : Accepts setting (Some last_mark ∷ reverse pieces) lines
          → Accepts setting (reverse pieces) lines
      no_end (inl (skipped, before)) = before
      no_end (inr (line, before, same, spells, good, accepts)) = absurd (none_last line spells)
  none_lacking P.PastEnd pieces accepts =
      subst (λ ps. Accepts setting (reverse ps) lines) (append-nil pieces) accepts

-- what is said of a proof that is judged so is judged so
module _ (setting : Setting) (bytes text : List ℕ) (small : length text ≤ most_file_bytes) where
  told_judged : (judgement : Judgement) → Judged setting (pieces_of standard bytes) judgement
      → judgement_status judgement ≡ S.Done
      → IsTold setting (pieces_of standard bytes) judgement R.Renewal text
      → JudgedBytes setting standard text Unsolvable
  told_judged Unsolvable judged done (lines, accepts, said) =
      let pieces = pieces_of standard bytes in
      let first = judged_so_far pieces in
      let concludes = subst (λ ls. Concludes ls)
      (accepts_once setting (reverse first) judged.lines lines
      (none_lacking setting judged.lines (part_of pieces) first judged.accepted) accepts)
      judged.concludes in
      subst (λ t. JudgedBytes setting standard t Unsolvable) (sym said)
      (closed_judged setting bytes lines accepts concludes
      (subst (λ t. length t ≤ most_file_bytes) said small))
  told_judged (Refused line reason) judged done told = absurd (cc)
  told_judged NoConclusion judged done told = absurd (cc)

  proof_renewed : (status : Status) → AnswersProof R.Renewal setting bytes status text
      → status ≡ S.Done → JudgedBytes setting standard text Unsolvable
  proof_renewed status (judgement, judged, status_is, told) done =
      told_judged judgement judged (sym status_is ∙ done) told

-- the same after a node file, or without one
task_renewed : (task : Strips) (few : atoms task < 10 ^ 18) (proof_name : List ℕ)
    (nodes_name : Option (List ℕ)) (budget : ℕ) (held : Names) (status : Status) (text : List ℕ)
    → AnswersTask R.Renewal task proof_name nodes_name budget held status text → status ≡ S.Done
    → length text ≤ most_file_bytes
    → (nodes : NodeList) → HasNodes task nodes_name held nodes
    → JudgedBytes (setting_of task nodes budget) standard text Unsolvable
task_renewed task few proof_name None budget held status text answers done small nodes has =
    subst (λ list. JudgedBytes (setting_of task list budget) standard text Unsolvable) (sym has)
    (proof_renewed (setting_of task (no_nodes (atoms task)) budget) (bytes_of held proof_name) text
    small status answers done)
task_renewed task few proof_name (Some name) budget held status text
    (inl (fault, first, bad, said)) done small nodes has = absurd (cc)
task_renewed task few proof_name (Some name) budget held status text
    (inr (list, is_text, answers)) done small nodes has =
    subst (λ (l : NodeList). JudgedBytes (setting_of task l budget) standard text Unsolvable)
    (one_list (atoms task) few (pieces_of standard (bytes_of held name)) list nodes is_text has)
    (proof_renewed (setting_of task list budget) (bytes_of held proof_name) text small status
    answers done)

-- and after a task text
pub upgraded : (task_name proof_name : List ℕ) (nodes_name : Option (List ℕ)) (budget : ℕ)
    (held : Names) (status : Status) (text : List ℕ)
    → AnswersCheck R.Renewal task_name proof_name nodes_name budget held status text
    → status ≡ S.Done → length text ≤ most_file_bytes
    → IsUpgradedProof task_name nodes_name budget held text
upgraded task_name proof_name nodes_name budget held status text (inl (fault, first, bad, said))
    done small task is_text = absurd (cc)
upgraded task_name proof_name nodes_name budget held status text (inr (other, other_text, answers))
    done small task is_text =
    let pieces = pieces_of standard (bytes_of held task_name) in
    let same = one_task pieces other task other_text is_text in
    task_renewed task (few_atoms pieces task is_text) proof_name nodes_name budget held status text
    (subst (λ (t : Strips). AnswersTask R.Renewal t proof_name nodes_name budget held status text)
    same answers) done small
