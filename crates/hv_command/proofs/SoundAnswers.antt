-- What the program says is true.
use Rattle.std.proofs.Common.{◌≡◌, ℕ, ◌∙◌, List, Option, Some, None, inl, inr, reverse, subst, sym}
use Rattle.hv_bytes.specs.Files.{Names, bytes_of}
use Rattle.hv_bytes.specs.Pieces.{pieces_of}
use Rattle.hv_bytes.specs.Standard.{standard}
use Rattle.hv_task.specs.Plan.{IsUnsolvable}
use Rattle.hv_task.specs.Strips.{Strips, atoms}
use Rattle.hv_bdd.specs.Nodes.{no_nodes}
use Rattle.hv_task_text.specs.TaskText.{TaskText}
use Rattle.hv_task_text.proofs.OneAnswer.{one_task}
use Rattle.hv_lines.specs.Judged.{Judged, Judgement, LineText, Unsolvable, Refused, NoConclusion}
use Rattle.hv_lines.specs.Setting.{Setting, setting_of}
use Rattle.hv_lines.specs.Versions.{judged_so_far, judged_whole}
use Rattle.hv_checker.proofs.GoodLines.{accepts_good, good_concludes, good_true}
use Rattle.hv_command.specs.Answer.{AfterTask, AnswersCheck, AnswersProduce, AnswersReplay}
use Rattle.hv_command.specs.Answer.{AnswersTask, AnswersTold, Covered, IsSoundCheck, IsSoundProof}
use Rattle.hv_command.specs.Answer.{IsSoundTold}
use Rattle.hv_command.specs.Replies.{judgement_status}
use Rattle.hv_command.specs.declared.job.Job.{Job}
use Rattle.hv_command.specs.declared.job.Job.TheVariants as J
use Rattle.hv_command.specs.declared.job.Kind.{Kind}
use Rattle.hv_command.specs.declared.job.Report.{Report}
use Rattle.hv_command.specs.declared.job.Report.TheVariants as P
use Rattle.hv_command.proofs.Produced.{answer_unsolvable, replay_unsolvable}
use Rattle.hv_task_text.proofs.TaskTexts.{is_task}
use Rattle.hv_command.specs.declared.status.Status.{Status}
use Rattle.hv_command.specs.declared.status.Status.TheVariants as S

-- a yes to a proof of a task: no list of actions is a plan
yes_unsolvable : (setting : Setting) (pieces : List LineText) (judgement : Judgement)
    → Judged setting pieces judgement
    → judgement_status judgement ≡ S.Done → IsUnsolvable setting.task
yes_unsolvable setting pieces Unsolvable judged done =
    good_concludes setting judged.lines (accepts_good setting (reverse (judged_whole pieces))
    judged.lines judged.accepted) judged.concludes
yes_unsolvable setting pieces (Refused line reason) judged done = absurd (cc)
yes_unsolvable setting pieces NoConclusion judged done = absurd (cc)

-- the same after a node file, or without one
yes_task : (report : Report) (task : Strips) (proof_name : List ℕ) (nodes_name : Option (List ℕ))
    (budget : ℕ) (held : Names) (status : Status) (text : List ℕ)
    → AnswersTask report task proof_name nodes_name budget held status text → status ≡ S.Done
    → IsUnsolvable task
yes_task report task proof_name None budget held status text answers done =
    yes_unsolvable (setting_of task (no_nodes (atoms task)) budget)
    (pieces_of standard (bytes_of held proof_name)) answers.0 answers.1 (sym answers.2 ∙ done)
yes_task report task proof_name (Some name) budget held status text (inl (fault, first, bad, said))
    done = absurd (cc)
yes_task report task proof_name (Some name) budget held status text (inr (list, is_text, answers))
    done =
    yes_unsolvable (setting_of task list budget) (pieces_of standard (bytes_of held proof_name))
    answers.0 answers.1 (sym answers.2 ∙ done)

module _ (report : Report) (task_name proof_name : List ℕ) (nodes_name : Option (List ℕ))
    (budget : ℕ) (held : Names) (status : Status) (text : List ℕ) where
  done_unsolvable : AnswersCheck report task_name proof_name nodes_name budget held status text
      → (task : Strips) → TaskText standard (bytes_of held task_name) task → status ≡ S.Done
      → IsUnsolvable task
  done_unsolvable (inl (fault, first, bad, said)) task is_text done = absurd (cc)
  done_unsolvable (inr (other, other_text, answers)) task is_text done =
      subst IsUnsolvable (one_task (pieces_of standard (bytes_of held task_name)) other task
      other_text is_text)
      (yes_task report other proof_name nodes_name budget held status text answers done)

  sound_check : AnswersCheck report task_name proof_name nodes_name budget held status text
      → IsSoundCheck task_name proof_name nodes_name budget held status
  sound_check answers task is_text = (
    λ done. done_unsolvable answers task is_text done,
    λ nodes front rest lines has cut accepts.
        good_true (setting_of task nodes budget) lines
        (accepts_good (setting_of task nodes budget) (reverse (judged_so_far front)) lines accepts),
  )

sound_produce : (kind : Kind) (name : List ℕ) (held : Names) (status : Status) (text : List ℕ)
    → AfterTask (bytes_of held name) (AnswersProduce kind) status text
    → IsSoundProof name held status
sound_produce kind name held status text (inl (fault, first, bad, said)) task is_text done = absurd
    (cc)
sound_produce kind name held status text (inr (other, other_text, answers)) task is_text done =
    subst IsUnsolvable (one_task (pieces_of standard (bytes_of held name)) other task other_text
    is_text)
    (answer_unsolvable other (is_task (pieces_of standard (bytes_of held name)) other other_text)
    kind status text answers done)

sound_replay : (covered : Covered) (name log_name : List ℕ) (held : Names) (status : Status)
    (text : List ℕ)
    → AnswersReplay covered name log_name held status text → IsSoundProof name held status
sound_replay covered name log_name held status text (inl (fault, first, bad, said)) task is_text
    done = absurd (cc)
sound_replay covered name log_name held status text
    (inr (other, other_text, inl (fault, first, bad, said))) task is_text done = absurd (cc)
sound_replay covered name log_name held status text
    (inr (other, other_text, inr (log, log_text, answers))) task is_text done =
    subst IsUnsolvable (one_task (pieces_of standard (bytes_of held name)) other task other_text
    is_text)
    (replay_unsolvable (covered other) other log status text answers done)

-- an answer says what is true
pub sound_told : (covered : Covered) (job : Option Job) (held : Option Names) (status : Status)
    (text : List ℕ)
    → AnswersTold covered job held status text → IsSoundTold job held status
sound_told covered job None status text answers = tt
sound_told covered None (Some held) status text answers = tt
sound_told covered (Some (J.Check task proof nodes budget)) (Some held) status text answers =
    sound_check P.Verdict task proof nodes budget held status text answers
sound_told covered (Some (J.Explain task proof nodes budget)) (Some held) status text answers =
    sound_check P.Explanation task proof nodes budget held status text answers
sound_told covered (Some (J.Upgrade task proof nodes budget)) (Some held) status text answers =
    sound_check P.Renewal task proof nodes budget held status text answers
sound_told covered (Some (J.Produce kind task)) (Some held) status text answers = sound_produce kind
    task held status text answers
sound_told covered (Some (J.Replay task log)) (Some held) status text answers =
    sound_replay covered task log held status text answers
sound_told covered (Some (J.Sample rooms)) (Some held) status text answers = tt
sound_told covered (Some (J.Sas file)) (Some held) status text answers = tt
sound_told covered (Some (J.Bound task most)) (Some held) status text answers = tt
sound_told covered (Some (J.Plan task plan)) (Some held) status text answers = tt
