-- What is answered to a job, from what was read and judged.
use Rattle.std.proofs.Common.{◌≡◌, ℕ, ◌∙◌, List, Option, Some, None, Result, Ok, Err, IfOk, IfSome}
use Rattle.std.proofs.Common.{[], arith}
use Rattle.std.proofs.Common.{codes, inl, inr, ap, refl, unwrap_or, reverse, subst, sym}
use Rattle.std.specs.Option.{option_map}
use Rattle.hv_bytes.specs.Files.{Names, bytes_of}
use Rattle.hv_bytes.specs.Standard.{standard}
use Rattle.hv_task.specs.Strips.{Strips, atoms}
use Rattle.hv_task_text.specs.TaskText.{HasTaskFault, IsTaskReadFrom, TaskText}
use Rattle.hv_task_text.specs.declared.fault.TaskFault.{TaskFault}
use Rattle.hv_task_text.specs.declared.fault.TaskFault.TheVariants as F
use Rattle.hv_lines.specs.Judged.{Accepts, Concludes, Judged, JudgedBytes, Judgement, LineText}
use Rattle.hv_lines.specs.Judged.{NoConclusion, Refused, Unsolvable, outline_of}
use Rattle.hv_lines.specs.declared.reason.Reason.{Reason}
use Rattle.hv_checker.specs.Checkers.{CheckerState, SaysEnd, Refusal, HasJudged, HasJudgedAt}
use Rattle.hv_checker.specs.Checkers.{refusal_at}
use Rattle.hv_checker.specs.Checkers.{refusal_of}
use Rattle.hv_checker.specs.declared.stop.Stop.{Stop}
use Rattle.hv_checker.specs.declared.stop.Stop.TheVariants as C
use Rattle.hv_checker.specs.declared.piece.End.{End}
use Rattle.hv_checker.specs.declared.piece.End.TheVariants as E
use Rattle.hv_bdd.specs.NodeText.{AreNodeTextOf, HasNodesFault as IsFirstNodesFault}
use Rattle.hv_bdd.specs.NodeText.{IsNodesReadFrom as IsNodesRead}
use Rattle.hv_bdd.specs.Nodes.{NodeList, no_nodes}
use Rattle.hv_lines.specs.Drafts.{IsGoodTable, default_budget, draft_setting}
use Rattle.hv_lines.specs.Spelling.{proof_text}
use Rattle.hv_lines.specs.declared.line.Line.{Line}
use Rattle.hv_proof_text.proofs.ReadBack.{draft_judged, draft_small}
use Rattle.hv_bdd.specs.declared.fault.NodesFault.{NodesFault}
use Rattle.hv_bdd.specs.declared.fault.NodesFault.TheVariants as N
use Rattle.hv_bytes.specs.Pieces.{pieces_of}
use Rattle.hv_lines.specs.Setting.{Setting, setting_of}
use Rattle.hv_lines.specs.Versions.{judged_so_far}
use Rattle.hv_checker.proofs.OneJudgement.{judged_once}
use Rattle.hv_replay.specs.Logs.{SearchLog}
use Rattle.hv_replay.specs.LogText.{AreLogTextOf as AreTextOfLog, HasLogFault as IsFirstLogFault}
use Rattle.hv_replay.specs.LogText.{IsLogReadFrom as IsLogRead, log_limits}
use Rattle.hv_replay.specs.declared.fault.LogFault.{LogFault}
use Rattle.hv_replay.specs.declared.fault.LogFault.TheVariants as L
use Rattle.hv_sas.specs.Answer.{IsSasReadFrom as IsSasRead, sas_in}
use Rattle.hv_sas.specs.declared.fault.SasFault.{SasFault}
use Rattle.hv_sas.specs.declared.fault.SasFault.TheVariants as A
use Rattle.hv_sas.specs.declared.sas_task.Sas.{Sas}
use Rattle.hv_bound.specs.PlanFile.{IsPlanRead, plan_answer, plan_file, plan_in, plan_limits}
use Rattle.hv_bound.specs.declared.fault.PlanFault.{PlanFault}
use Rattle.hv_bound.specs.declared.fault.PlanFault.TheVariants as B
use Rattle.hv_command.specs.Answer.{AfterLog, AfterPlan, AfterSas, AfterTask, AfterText, Answer}
use Rattle.hv_command.specs.Answer.{AnswersCheck, AnswersPieces, AnswersProof, AnswersTask}
use Rattle.hv_command.specs.Answer.{AnswersTold, Covered, IsTold}
use Rattle.hv_command.specs.Replies.{judgement_status, log_fault_text, nodes_fault_text}
use Rattle.hv_command.specs.Replies.{plan_fault_text, refused_text, sas_fault_text}
use Rattle.hv_command.specs.Replies.{task_fault_text, unsolvable_text}
use Rattle.hv_command.specs.Working.Replies.{IsLogFault, IsNodesFault, IsPlanFault, IsSasFault}
use Rattle.hv_command.specs.Working.Replies.{IsTextFault}
use Rattle.hv_command.specs.Sample.{sample_text}
use Rattle.hv_command.specs.Working.Sample.{IsHornProof}
use Rattle.hv_command.proofs.Sampled.{horn_size}
use Rattle.hv_command.specs.declared.job.Job.{Job}
use Rattle.hv_command.specs.declared.job.Job.TheVariants as J
use Rattle.hv_command.specs.declared.job.Report.{Report}
use Rattle.hv_command.specs.declared.job.Report.TheVariants as P
use Rattle.hv_command.specs.Words.{HasName}
use Rattle.hv_command.specs.declared.job_fault.JobFault.{JobFault}
use Rattle.hv_command.specs.declared.reply.Reply.{Reply}
use Rattle.hv_command.specs.declared.status.Status.{Status}
use Rattle.hv_command.specs.declared.status.Status.TheVariants as S

-- the answer to a refused proof
pub refused_reply : (report : Report) (checker : CheckerState) (line : ℕ) (reason : Reason)
    (end : End) (status : Status) (text : List ℕ)
    → end ≡ E.Refused line → ((pieces : List LineText) → HasJudged checker pieces
    → SaysEnd checker pieces end)
    → option_map (λ (r : Refusal). r.reason) (refusal_of checker) ≡ Some reason → status ≡ S.Refused
    → text ≡ refused_text line reason → (pieces : List LineText) → HasJudged checker pieces
    → AnswersPieces report checker.setting pieces status text
refused_reply report checker line reason end status text is judged told status_is text_is pieces
    stands =
    let h = subst (λ e. SaysEnd checker pieces e) is (judged pieces stands) in
    let one : Some h.0 ≡ Some reason = sym (ap (option_map (λ (r : Refusal). r.reason)) h.1)
    ∙ told in
    let same : h.0 ≡ reason = cc in
    (Refused line h.0, h.2, status_is, text_is ∙ ap (refused_text line) (sym same))

-- what holds whatever files there are
pub on_all : (held : Option Names) (A : Type 0) → A → IfSome held (λ _. A)
on_all None A holds = tt
on_all (Some h) A holds = holds

-- what is answered after a text, whatever is known of the source: to the value that was read, or to
-- the first fault
module _ {A F : Type 0} (StandsFor : Names → A → Type 0) (HasFault : Names → F → Type 0)
    (fault_text : F → List ℕ) (Answers : Names → A → Status → List ℕ → Type 0) (status : Status)
    (text : List ℕ) where
  value_answer : (held : Option Names) (value : A) → IfSome held (λ h. StandsFor h value)
      → IfSome held (λ h. Answers h value status text)
      → IfSome held (λ h. AfterText (StandsFor h) (HasFault h) fault_text (Answers h) status text)
  value_answer None value stands answers = tt
  value_answer (Some h) value stands answers = inr (value, stands, answers)

  fault_answer : (held : Option Names) (fault : F) → IfSome held (λ h. HasFault h fault)
      → status ≡ S.BadInput → text ≡ fault_text fault
      → IfSome held (λ h. AfterText (StandsFor h) (HasFault h) fault_text (Answers h) status text)
  fault_answer None fault first status_is text_is = tt
  fault_answer (Some h) fault first status_is text_is = inl (fault, first, status_is, text_is)

-- what is answered after the text of a task
module _ (held : Option Names) (name : List ℕ) (Answers : Names → Strips → Status → List ℕ → Type 0)
  where
    -- the answer to a task that was read
    pub task_answer : (task : Strips) (status : Status) (text : List ℕ)
        → IfSome held (λ h. TaskText standard (bytes_of h name) task)
        → IfSome held (λ h. Answers h task status text)
        → IfSome held (λ h. AfterTask (bytes_of h name) (Answers h) status text)
    task_answer task status text =
        value_answer (λ h. TaskText standard (bytes_of h name))
        (λ h. HasTaskFault (pieces_of standard (bytes_of h name))) task_fault_text Answers status
        text held task

    -- the answer to a task text with a fault
    pub task_fault : (fault : TaskFault) (status : Status) (text : List ℕ)
        → IfSome held (λ h. IsTaskReadFrom standard (bytes_of h name) (Err fault)) → IsTextFault
        fault
        → status ≡ S.BadInput → text ≡ task_fault_text fault
        → IfSome held (λ h. AfterTask (bytes_of h name) (Answers h) status text)
    task_fault fault status text read is_fault =
        fault_answer (λ h. TaskText standard (bytes_of h name))
        (λ h. HasTaskFault (pieces_of standard (bytes_of h name))) task_fault_text Answers status
        text held fault (first held fault read is_fault)
      where
        first : (files : Option Names) (f : TaskFault)
            → IfSome files (λ h. IsTaskReadFrom standard (bytes_of h name) (Err f)) → IsTextFault f
            → IfSome files (λ h. HasTaskFault (pieces_of standard (bytes_of h name)) f)
        first None f told is = tt
        first (Some h) (F.Place line kind) told is = told
        first (Some h) (F.Limit line limit) told is = told
        first (Some h) F.ReadFault told is = absurd is
        first (Some h) F.Memory told is = absurd is

-- the same after a log
module _ (task : Strips) (held : Option Names) (name : List ℕ)
    (Answers : SearchLog → Status → List ℕ → Type 0) where
  pub log_answer : (log : SearchLog) (status : Status) (text : List ℕ)
      → IfSome held (λ h. IsLogRead (atoms task) (bytes_of h name) (Ok log))
      → Answers log status text
      → IfSome held (λ h. AfterLog task (bytes_of h name) Answers status text)
  log_answer log status text is_text answers =
      value_answer (λ h. AreTextOfLog (atoms task) (pieces_of log_limits (bytes_of h name)))
      (λ h. IsFirstLogFault (atoms task) (pieces_of log_limits (bytes_of h name))) log_fault_text
      (λ h. Answers) status text held log is_text (on_all held (Answers log status text) answers)

  pub log_fault : (fault : LogFault) (status : Status) (text : List ℕ)
      → IfSome held (λ h. IsLogRead (atoms task) (bytes_of h name) (Err fault)) → IsLogFault fault
      → status ≡ S.BadInput → text ≡ log_fault_text fault
      → IfSome held (λ h. AfterLog task (bytes_of h name) Answers status text)
  log_fault fault status text read is_fault =
      fault_answer (λ h. AreTextOfLog (atoms task) (pieces_of log_limits (bytes_of h name)))
      (λ h. IsFirstLogFault (atoms task) (pieces_of log_limits (bytes_of h name))) log_fault_text
      (λ h. Answers) status text held fault (first held fault read is_fault)
    where
      first : (files : Option Names) (f : LogFault)
          → IfSome files (λ h. IsLogRead (atoms task) (bytes_of h name) (Err f)) → IsLogFault f
          → IfSome files (λ h. IsFirstLogFault (atoms task)
          (pieces_of log_limits (bytes_of h name)) f)
      first None f told is = tt
      first (Some h) (L.Place line) told is = told
      first (Some h) (L.Limit line limit) told is = told
      first (Some h) L.ReadFault told is = absurd is
      first (Some h) L.Memory told is = absurd is

-- the same after a translator's file
module _ (held : Option Names) (name : List ℕ) (Answers : Sas → Status → List ℕ → Type 0) where
  pub sas_text_answer : (sas : Sas) (status : Status) (text : List ℕ)
      → IfSome held (λ h. IsSasRead standard (bytes_of h name) (Ok sas))
      → Answers sas status text
      → IfSome held (λ h. AfterSas (bytes_of h name) Answers status text)
  sas_text_answer sas status text is_text answers =
      value_answer (λ h sas. sas_in (pieces_of standard (bytes_of h name)) ≡ Ok sas)
      (λ h fault. sas_in (pieces_of standard (bytes_of h name)) ≡ Err fault) sas_fault_text
      (λ h. Answers) status text held sas is_text (on_all held (Answers sas status text) answers)

  pub sas_text_fault : (fault : SasFault) (status : Status) (text : List ℕ)
      → IfSome held (λ h. IsSasRead standard (bytes_of h name) (Err fault)) → IsSasFault fault
      → status ≡ S.BadInput → text ≡ sas_fault_text fault
      → IfSome held (λ h. AfterSas (bytes_of h name) Answers status text)
  sas_text_fault fault status text read is_fault =
      fault_answer (λ h sas. sas_in (pieces_of standard (bytes_of h name)) ≡ Ok sas)
      (λ h fault. sas_in (pieces_of standard (bytes_of h name)) ≡ Err fault) sas_fault_text
      (λ h. Answers) status text held fault (first held fault read is_fault)
    where
      first : (files : Option Names) (f : SasFault)
          → IfSome files (λ h. IsSasRead standard (bytes_of h name) (Err f)) → IsSasFault f
          → IfSome files (λ h. sas_in (pieces_of standard (bytes_of h name)) ≡ Err f)
      first None f told is = tt
      first (Some h) (A.Place line kind) told is = told
      first (Some h) (A.Unsupported line which) told is = told
      first (Some h) (A.Limit line limit) told is = told
      first (Some h) A.ReadFault told is = absurd is
      first (Some h) A.Memory told is = absurd is

-- the same after a plan file
module _ (held : Option Names) (name : List ℕ) (Answers : List ℕ → Status → List ℕ → Type 0) where
  pub plan_text_answer : (list : List ℕ) (status : Status) (text : List ℕ)
      → IfSome held (λ h. IsPlanRead (plan_file 0 (pieces_of plan_limits (bytes_of h name)))
      (Ok list))
      → Answers list status text
      → IfSome held (λ h. AfterPlan (bytes_of h name) Answers status text)
  plan_text_answer list status text is_text answers =
      value_answer (λ h list. plan_in (pieces_of plan_limits (bytes_of h name)) ≡ Ok list)
      (λ h fault. plan_in (pieces_of plan_limits (bytes_of h name)) ≡ Err fault) plan_fault_text
      (λ h. Answers) status text held list (value held is_text)
      (on_all held (Answers list status text) answers)
    where
      value : (files : Option Names)
          → IfSome files (λ h. IsPlanRead (plan_file 0 (pieces_of plan_limits (bytes_of h name)))
          (Ok list))
          → IfSome files (λ h. plan_in (pieces_of plan_limits (bytes_of h name)) ≡ Ok list)
      value None told = tt
      value (Some h) told = ap plan_answer told.2

  pub plan_text_fault : (fault : PlanFault) (status : Status) (text : List ℕ)
      → IfSome held (λ h. IsPlanRead (plan_file 0 (pieces_of plan_limits (bytes_of h name)))
      (Err fault)) → IsPlanFault fault
      → status ≡ S.BadInput → text ≡ plan_fault_text fault
      → IfSome held (λ h. AfterPlan (bytes_of h name) Answers status text)
  plan_text_fault fault status text read is_fault =
      fault_answer (λ h list. plan_in (pieces_of plan_limits (bytes_of h name)) ≡ Ok list)
      (λ h fault. plan_in (pieces_of plan_limits (bytes_of h name)) ≡ Err fault) plan_fault_text
      (λ h. Answers) status text held fault (first held fault read is_fault)
    where
      first : (files : Option Names) (f : PlanFault)
          → IfSome files (λ h. IsPlanRead (plan_file 0 (pieces_of plan_limits (bytes_of h name)))
          (Err f)) → IsPlanFault f
          → IfSome files (λ h. plan_in (pieces_of plan_limits (bytes_of h name)) ≡ Err f)
      first None f told is = tt
      first (Some h) (B.Place line) told is = ap plan_answer told
      first (Some h) (B.Limit line) told is = ap plan_answer told
      first (Some h) B.ReadFault told is = absurd is
      first (Some h) B.Memory told is = absurd is

-- the answer to a job that reads a file, whatever is known of the source
pub told_job : (covered : Covered) (job other : Job) (name : List ℕ) (held : Option Names)
    (status : Status) (text : List ℕ)
    → other ≡ job → HasName (Some job) name
    → IfSome held (λ h. Answer covered (Some job) h status text)
    → AnswersTold covered (Some other) held status text
told_job covered job other name held status text same has answers =
    subst (λ j. AnswersTold covered (Some j) held status text) (sym same) (of_files held answers)
  where
    of_files : (files : Option Names) → IfSome files (λ h. Answer covered (Some job) h status text)
        → AnswersTold covered (Some job) files status text
    of_files None says = λ unread h. absurd (unread name has)
    of_files (Some h) says = says

-- the same of what a function gives
pub told_result : (covered : Covered) (job other : Job) (name : List ℕ) (held : Option Names)
    (result : Result Reply JobFault)
    → other ≡ job → HasName (Some job) name
    → IfSome held (λ h. IfOk result (λ r. Answer covered (Some job) h r.status r.text))
    → IfOk result (λ r. AnswersTold covered (Some other) held r.status r.text)
told_result covered job other name held (Ok r) same has answers =
    told_job covered job other name held r.status r.text same has answers
told_result covered job other name held (Err fault) same has answers = tt

module _ (report : Report) (task : Strips) (proof_name nodes_name : List ℕ) (budget : ℕ) where
  -- the answer to nodes that were read
  pub nodes_answer : (held : Option Names) (list : NodeList) (status : Status) (text : List ℕ)
      → IfSome held (λ h. AreNodeTextOf (atoms task) (pieces_of standard (bytes_of h nodes_name))
      list)
      → IfSome held (λ h. AnswersProof report (setting_of task list budget) (bytes_of h proof_name)
      status text)
      → IfSome held (λ h. AnswersTask report task proof_name (Some nodes_name) budget h status text)
  nodes_answer held list status text =
      value_answer (λ h. AreNodeTextOf (atoms task) (pieces_of standard (bytes_of h nodes_name)))
      (λ h. IsFirstNodesFault (atoms task) (pieces_of standard (bytes_of h nodes_name)))
      nodes_fault_text
      (λ h nodes. AnswersProof report (setting_of task nodes budget) (bytes_of h proof_name))
      status text held list

  -- the answer to a node file with a fault
  pub nodes_fault : (held : Option Names) (fault : NodesFault) (status : Status) (text : List ℕ)
      → IfSome held (λ h. IsNodesRead standard (atoms task) (bytes_of h nodes_name) (Err fault))
      → IsNodesFault fault
      → status ≡ S.BadInput → text ≡ nodes_fault_text fault
      → IfSome held (λ h. AnswersTask report task proof_name (Some nodes_name) budget h status text)
  nodes_fault held fault status text read is_fault =
      fault_answer (λ h. AreNodeTextOf (atoms task) (pieces_of standard (bytes_of h nodes_name)))
      (λ h. IsFirstNodesFault (atoms task) (pieces_of standard (bytes_of h nodes_name)))
      nodes_fault_text
      (λ h nodes. AnswersProof report (setting_of task nodes budget) (bytes_of h proof_name))
      status text held fault (first held fault read is_fault)
    where
      first : (files : Option Names) (f : NodesFault)
          → IfSome files (λ h. IsNodesRead standard (atoms task) (bytes_of h nodes_name) (Err f))
          → IsNodesFault f
          → IfSome files (λ h. IsFirstNodesFault (atoms task)
          (pieces_of standard (bytes_of h nodes_name)) f)
      first None f told is = tt
      first (Some h) (N.Place line kind) told is = told
      first (Some h) (N.Limit line limit) told is = told
      first (Some h) N.ReadFault told is = absurd is
      first (Some h) N.Memory told is = absurd is

-- the answer to the proof of a file, by what that file is
pub of_file : (held : Option Names) (task_name : List ℕ) (nodes_name : Option (List ℕ))
    (status : Status) (text : List ℕ) {report other : Report} {name proof_name : List ℕ}
    {most budget : ℕ}
    → other ≡ report → proof_name ≡ name → budget ≡ most
    → IfSome held (λ h. AnswersCheck other task_name proof_name nodes_name budget h status text)
    → IfSome held (λ h. AnswersCheck report task_name name nodes_name most h status text)
of_file held task_name nodes_name status text {report} {other} {name} {proof_name} {most} {budget}
    same_report same_name same_budget answers =
    subst (λ (r : Report). IfSome held (λ h. AnswersCheck r task_name name nodes_name most h
    status text)) same_report
    (subst (λ n. IfSome held (λ h. AnswersCheck other task_name n nodes_name most h status text))
    same_name
    (subst (λ b. IfSome held (λ h. AnswersCheck other task_name proof_name nodes_name b h
    status text)) same_budget answers))

-- the lines of a checker that refused nothing are those that are accepted of all pieces
pub all_accepted : (checker : CheckerState) (stop : Stop) (pieces : List LineText)
    → refusal_at checker.fed checker.part stop ≡ None → (stop ≡ C.Memory → ⊥)
    → HasJudgedAt checker stop pieces
    → Accepts checker.setting (reverse (judged_so_far pieces)) checker.lines
all_accepted checker C.Going pieces none found stands = stands.2
all_accepted checker (C.Refused reason) pieces none found stands = absurd (cc)
all_accepted checker C.Memory pieces none found stands = absurd (found refl)

-- the answer to a sample, whatever files there are
pub told_sample : (covered : Covered) (rooms : ℕ) (job : Job) (held : Option Names)
    (status : Status) (text : List ℕ)
    → job ≡ J.Sample rooms → status ≡ S.Done → text ≡ sample_text rooms
    → AnswersTold covered (Some job) held status text
told_sample covered rooms job held status text same done says =
    subst (λ j. AnswersTold covered (Some j) held status text) (sym same) (of_files held)
  where
    of_files : (files : Option Names) → AnswersTold covered (Some (J.Sample rooms)) files status
        text
    of_files None = λ unread h. (done, says)
    of_files (Some h) = (done, says)

-- what a proof is judged is said of it
pub judged_unsolvable : (setting : Setting) (pieces : List LineText) (status : Status)
    (text : List ℕ) → Judged setting pieces Unsolvable
    → AnswersPieces P.Verdict setting pieces status text
    → (status ≡ S.Done) × (text ≡ unsolvable_text)
judged_unsolvable setting pieces status text judged (other, also, status_is, told) =
    told_of other (judged_once setting pieces other Unsolvable also judged) status_is told
  where
    told_of : (j : Judgement) → outline_of j ≡ outline_of Unsolvable → status ≡ judgement_status j
        → IsTold setting pieces j P.Verdict text
        → (status ≡ S.Done) × (text ≡ unsolvable_text)
    told_of Unsolvable e is says = (is, says)
    told_of (Refused line reason) e is says = absurd (cc)
    told_of NoConclusion e is says = absurd (cc)

-- the file `proof` is judged so, without a node file and within the default budget
pub file_unsolvable : (task : Strips) (nodes : NodeList) (count : ℕ) (held : Names) (name : List ℕ)
    (budget : ℕ) (report : Report) (status : Status) (text : List ℕ)
    → JudgedBytes (draft_setting task) standard (bytes_of held (codes "proof")) Unsolvable
    → count ≡ atoms task → nodes ≡ no_nodes count
    → name ≡ codes "proof" → budget ≡ default_budget → report ≡ P.Verdict
    → AnswersProof report (setting_of task nodes budget) (bytes_of held name) status text
    → (status ≡ S.Done) × (text ≡ unsolvable_text)
file_unsolvable task nodes count held name budget report status text judged count_is nodes_is
    name_is budget_is report_is answers =
    judged_unsolvable (draft_setting task) (pieces_of standard (bytes_of held (codes "proof")))
    status text judged
    (subst (λ list. AnswersProof P.Verdict (setting_of task list default_budget)
    (bytes_of held (codes "proof")) status text)
    (nodes_is ∙ ap no_nodes count_is)
    (subst (λ n. AnswersProof P.Verdict (setting_of task nodes default_budget) (bytes_of held n)
    status text) name_is
    (subst (λ b. AnswersProof P.Verdict (setting_of task nodes b) (bytes_of held name) status text)
    budget_is
    (subst (λ (r : Report). AnswersProof r (setting_of task nodes budget) (bytes_of held name)
    status text) report_is answers))))

-- a good proof by a Horn formula is judged so from its text
pub horn_judged : (task : Strips) (lines : List Line) → IsHornProof lines → IsGoodTable task lines
    → Concludes lines
    → JudgedBytes (draft_setting task) standard (proof_text (reverse lines)) Unsolvable
horn_judged task lines horn good concludes =
    let size = horn_size lines horn in
    draft_judged task lines good concludes (draft_small task lines good (omega (arith, size)))

-- what is held under a name
pub held_bytes : (held : Names) (name bytes : List ℕ) → held name ≡ Some bytes
    → bytes_of held name ≡ bytes
held_bytes held name bytes e = ap (λ b. unwrap_or b []) e
