-- What the program answers to a job, by the bytes of the files that it reads.
use Rattle.std.specs.Prelude.{◌≡◌, ◌<◌, ◌≤◌, ◌⊎◌, ◌++◌, ℕ, List, Option, Some, None, Ok}
use Rattle.std.specs.Prelude.{Err, length, reverse}
use Rattle.hv_bytes.specs.Files.{Names, bytes_of}
use Rattle.hv_bytes.specs.Pieces.{pieces_of}
use Rattle.hv_bytes.specs.Standard.{most_file_bytes, standard}
use Rattle.hv_task.specs.Plan.{IsUnsolvable}
use Rattle.hv_task.specs.Strips.{Strips, atoms, start_state}
use Rattle.hv_task_text.specs.TaskText.{TaskText, HasTaskFault}
use Rattle.hv_bdd.specs.NodeText.{AreNodeTextOf, HasNodesFault as IsFirstNodesFault}
use Rattle.hv_bdd.specs.Nodes.{NodeList, no_nodes}
use Rattle.hv_lines.specs.Judged.{LineText, Accepts, Judged, JudgedBytes, Judgement, Unsolvable}
use Rattle.hv_lines.specs.Judged.{Refused, NoConclusion}
use Rattle.hv_lines.specs.Meaning.{AllTrue, SetOfStates}
use Rattle.hv_lines.specs.Setting.{Setting, setting_of}
use Rattle.hv_lines.specs.Versions.{judged_so_far}
use Rattle.hv_lines.specs.declared.line.Line.{Line}
use Rattle.hv_lines.specs.Drafts.{draft_setting}
use Rattle.hv_lines.specs.Spelling.{proof_text}
use Rattle.hv_explain.specs.Explained.{IsExplanation}
use Rattle.hv_proof_text.specs.Closed.{closed_text}
use Rattle.hv_reach.specs.Written.{IsPairsProof, IsRelaxedProof, PairsExclude, RelaxedExcludes}
use Rattle.hv_replay.specs.Closed.{IsClosed, IsFirstHole}
use Rattle.hv_replay.specs.Logs.{SearchLog}
use Rattle.hv_replay.specs.LogText.{AreLogTextOf as AreTextOfLog, HasLogFault as IsFirstLogFault}
use Rattle.hv_replay.specs.LogText.{log_limits}
use Rattle.hv_replay.specs.Progress.{IsProof as IsLogProof}
use Rattle.hv_replay.specs.declared.hole.ReplayFault.{ReplayFault}
use Rattle.hv_trap.specs.Trap.{IsSatisfied}
use Rattle.hv_trap.specs.Written.{IsTrapProof}
use Rattle.hv_task_text.specs.Canonical.{canonical_of}
use Rattle.hv_sas.specs.Answer.{sas_in}
use Rattle.hv_sas.specs.Made.{strips_of}
use Rattle.hv_sas.specs.declared.sas_task.Sas.{Sas}
use Rattle.hv_bound.specs.Bounded.{IsTooLarge, bounded_task}
use Rattle.hv_bound.specs.PlanAnswers.{IsPlanAnswer}
use Rattle.hv_bound.specs.PlanFile.{plan_in, plan_limits}
use Rattle.hv_bound.specs.declared.plan_check.PlanAnswer.{PlanAnswer}
use Rattle.hv_command.specs.Replies.{usage_text, hole_text, judgement_status, judgement_text}
use Rattle.hv_command.specs.Replies.{log_fault_text, no_proof_text, nodes_fault_text}
use Rattle.hv_command.specs.Replies.{plan_fault_text, plan_status, plan_text, sas_fault_text}
use Rattle.hv_command.specs.Replies.{task_fault_text, too_large_text, too_many_atoms_text}
use Rattle.hv_command.specs.Sample.{sample_text}
use Rattle.hv_command.specs.Words.{HasName}
use Rattle.hv_command.specs.declared.job.Job.{Job}
use Rattle.hv_command.specs.declared.job.Job.TheVariants as J
use Rattle.hv_command.specs.declared.job.Kind.{Kind}
use Rattle.hv_command.specs.declared.job.Report.{Report}
use Rattle.hv_command.specs.declared.job.Report.TheVariants as P
use Rattle.hv_command.specs.declared.job.Kind.TheVariants as K
use Rattle.hv_command.specs.declared.status.Status.{Status}
use Rattle.hv_command.specs.declared.status.Status.TheVariants as S

-- the answer after a text that denotes a value or has a fault: its fault, or else what is
-- answered to the value
abbrev pub AfterText : {A F : Type 0} → (A → Type 0) → (F → Type 0) → (F → List ℕ)
    → (A → Status → List ℕ → Type 0)
    → Status → List ℕ → Type 0
AfterText {A} {F} StandsFor HasFault fault_text Answers status text =
    ((fault : F) × HasFault fault × (status ≡ S.BadInput) × (text ≡ fault_text fault))
    ⊎ ((value : A) × StandsFor value × Answers value status text)

-- the answer after the bytes of a task
abbrev pub AfterTask : List ℕ → (Strips → Status → List ℕ → Type 0) → Status → List ℕ → Type 0
AfterTask bytes Answers status text =
    AfterText (TaskText standard bytes) (HasTaskFault (pieces_of standard bytes)) task_fault_text
    Answers status text

-- the answer after the node file of a task: where none is named, the nodes are 0 and 1 alone
abbrev pub AfterNodes : Strips → Option (List ℕ) → Names → (NodeList → Status → List ℕ → Type 0)
    → Status → List ℕ → Type 0
AfterNodes task None held Answers status text = Answers (no_nodes (atoms task)) status text
AfterNodes task (Some name) held Answers status text =
    AfterText (AreNodeTextOf (atoms task) (pieces_of standard (bytes_of held name)))
    (IsFirstNodesFault (atoms task) (pieces_of standard (bytes_of held name))) nodes_fault_text
    Answers status text

-- the text tells which of the lines that are accepted of the pieces are needed
abbrev pub IsExplained : Setting → List LineText → List ℕ → Type 0
IsExplained setting pieces text =
    (lines : List Line) × Accepts setting (reverse (judged_so_far pieces)) lines
    × IsExplanation lines text

-- the text is that of the closed proof which has the lines that are accepted of the pieces
abbrev pub IsRenewed : Setting → List LineText → List ℕ → Type 0
IsRenewed setting pieces text =
    (lines : List Line) × Accepts setting (reverse (judged_so_far pieces)) lines
    × (text ≡ closed_text (reverse lines))

-- the text that tells what the pieces are judged: where they show that the task has no plan, that
-- they do, or which lines are needed, or the lines as a closed proof
abbrev pub IsTold : Setting → List LineText → Judgement → Report → List ℕ → Type 0
IsTold setting pieces Unsolvable P.Verdict text = text ≡ judgement_text Unsolvable
IsTold setting pieces Unsolvable P.Explanation text = IsExplained setting pieces text
IsTold setting pieces Unsolvable P.Renewal text = IsRenewed setting pieces text
IsTold setting pieces (Refused line reason) report text =
    text ≡ judgement_text (Refused line reason)
IsTold setting pieces NoConclusion report text = text ≡ judgement_text NoConclusion

-- the answer to the pieces of a proof: what they are judged
abbrev pub AnswersPieces : Report → Setting → List LineText → Status → List ℕ → Type 0
AnswersPieces report setting pieces status text =
    (judgement : Judgement) × Judged setting pieces judgement
    × (status ≡ judgement_status judgement) × IsTold setting pieces judgement report text

-- the answer to the bytes of a proof
abbrev pub AnswersProof : Report → Setting → List ℕ → Status → List ℕ → Type 0
AnswersProof report setting bytes status text =
    AnswersPieces report setting (pieces_of standard bytes) status text

-- the answer to a check of a task by the files of these names, with this budget
abbrev pub AnswersTask : Report → Strips → List ℕ → Option (List ℕ) → ℕ → Names
    → Status → List ℕ → Type 0
AnswersTask report task proof_name nodes_name budget held status text =
    AfterNodes task nodes_name held
    (λ nodes. AnswersProof report (setting_of task nodes budget) (bytes_of held proof_name))
    status text

-- the answer to a check by the files of these names, with this budget
abbrev pub AnswersCheck : Report → List ℕ → List ℕ → Option (List ℕ) → ℕ → Names
    → Status → List ℕ → Type 0
AnswersCheck report task_name proof_name nodes_name budget held status text =
    AfterTask (bytes_of held task_name)
    (λ task. AnswersTask report task proof_name nodes_name budget held) status text

-- what is reached from the initial state excludes the goal, or that state satisfies a conjunction
-- of the greatest trap
abbrev pub Excludes : Kind → Strips → Type 0
Excludes K.Relaxed task = RelaxedExcludes task
Excludes K.Pairs task = PairsExclude task
Excludes K.Trap task = IsSatisfied task (start_state task)

-- the task has too many atoms for a proof of the kind
abbrev pub HasTooMany : Kind → Strips → Type 0
HasTooMany K.Relaxed task = ⊥
HasTooMany K.Pairs task = 1024 < atoms task
HasTooMany K.Trap task = 64 < atoms task

-- the lines, of which the newest is the first, are the proof of the kind
abbrev pub IsProofBy : Kind → Strips → List Line → Type 0
IsProofBy K.Relaxed task lines = IsRelaxedProof task lines
IsProofBy K.Pairs task lines = IsPairsProof task lines
IsProofBy K.Trap task lines = IsTrapProof task lines

-- what is written of a task that hasn't too many atoms: its proof, exactly where the goal is
-- excluded
abbrev pub IsWritten : Kind → Strips → Status → List ℕ → Type 0
IsWritten kind task status text =
    (Excludes kind task × (status ≡ S.Done)
    × ((lines : List Line) × IsProofBy kind task lines × (text ≡ proof_text (reverse lines))))
    ⊎ ((Excludes kind task → ⊥) × (status ≡ S.Refused) × (text ≡ no_proof_text))

-- the answer to a task of which a proof is wanted
abbrev pub AnswersProduce : Kind → Strips → Status → List ℕ → Type 0
AnswersProduce kind task status text =
    (HasTooMany kind task × (status ≡ S.Refused) × (text ≡ too_many_atoms_text))
    ⊎ ((HasTooMany kind task → ⊥) × IsWritten kind task status text)

-- which states of which tasks are covered by the pruners that are handed in
abbrev pub Covered : Type 1
Covered = Strips → SetOfStates

-- the answer after the bytes of a log of the task
abbrev pub AfterLog : Strips → List ℕ → (SearchLog → Status → List ℕ → Type 0)
    → Status → List ℕ → Type 0
AfterLog task bytes Answers status text =
    AfterText (AreTextOfLog (atoms task) (pieces_of log_limits bytes))
    (IsFirstLogFault (atoms task) (pieces_of log_limits bytes)) log_fault_text
    Answers status text

-- the answer to a log: where it is closed, a proof that replays it, and else its first hole
abbrev pub AnswersLog : Covered → Strips → SearchLog → Status → List ℕ → Type 0
AnswersLog covered task log status text =
    (IsClosed task log (covered task) × (status ≡ S.Done)
    × ((lines : List Line) × IsLogProof task log lines × (text ≡ proof_text (reverse lines))))
    ⊎ ((hole : ReplayFault) × IsFirstHole task log (covered task) hole
    × (status ≡ S.Refused) × (text ≡ hole_text hole))

-- the answer to a replay by the files of these names
abbrev pub AnswersReplay : Covered → List ℕ → List ℕ → Names → Status → List ℕ → Type 0
AnswersReplay covered task_name log_name held status text =
    AfterTask (bytes_of held task_name)
    (λ task. AfterLog task (bytes_of held log_name) (AnswersLog covered task)) status text

-- the answer after the bytes of a translator's file
abbrev pub AfterSas : List ℕ → (Sas → Status → List ℕ → Type 0) → Status → List ℕ → Type 0
AfterSas bytes Answers status text =
    AfterText (λ sas. sas_in (pieces_of standard bytes) ≡ Ok sas)
    (λ fault. sas_in (pieces_of standard bytes) ≡ Err fault) sas_fault_text Answers status text

-- the answer to a translator's task: the text of the task that is made of it
abbrev pub AnswersSas : Sas → Status → List ℕ → Type 0
AnswersSas sas status text = (status ≡ S.Done) × (text ≡ canonical_of (strips_of sas))

-- the answer to a bound on the cost of a task's plans: the text of the task that has a plan exactly
-- where this one has a plan within the bound, or that it would be too large
abbrev pub AnswersBound : ℕ → Strips → Status → List ℕ → Type 0
AnswersBound most task status text =
    (IsTooLarge task most × (status ≡ S.Refused) × (text ≡ too_large_text))
    ⊎ ((IsTooLarge task most → ⊥) × (status ≡ S.Done)
    × (text ≡ canonical_of (bounded_task task most)))

-- the answer after the bytes of a plan file
abbrev pub AfterPlan : List ℕ → (List ℕ → Status → List ℕ → Type 0) → Status → List ℕ → Type 0
AfterPlan bytes Answers status text =
    AfterText (λ list. plan_in (pieces_of plan_limits bytes) ≡ Ok list)
    (λ fault. plan_in (pieces_of plan_limits bytes) ≡ Err fault) plan_fault_text Answers status text

-- the answer to a list of action numbers: its cost, where it is a plan of the task, or else its
-- first step that can't be taken, or that it doesn't end at the goal
abbrev pub AnswersPlan : Strips → List ℕ → Status → List ℕ → Type 0
AnswersPlan task list status text =
    (answer : PlanAnswer) × IsPlanAnswer task list answer
    × (status ≡ plan_status answer) × (text ≡ plan_text answer)

-- the answer to a job, by what is covered and by the bytes that are held under its names; words
-- that are no job get the usage line
abbrev pub Answer : Covered → Option Job → Names → Status → List ℕ → Type 0
Answer covered None held status text = (status ≡ S.Usage) × (text ≡ usage_text)
Answer covered (Some (J.Check task proof nodes budget)) held status text =
    AnswersCheck P.Verdict task proof nodes budget held status text
Answer covered (Some (J.Explain task proof nodes budget)) held status text =
    AnswersCheck P.Explanation task proof nodes budget held status text
Answer covered (Some (J.Upgrade task proof nodes budget)) held status text =
    AnswersCheck P.Renewal task proof nodes budget held status text
Answer covered (Some (J.Produce kind task)) held status text =
    AfterTask (bytes_of held task) (AnswersProduce kind) status text
Answer covered (Some (J.Replay task log)) held status text =
    AnswersReplay covered task log held status text
Answer covered (Some (J.Sample rooms)) held status text =
    (status ≡ S.Done) × (text ≡ sample_text rooms)
Answer covered (Some (J.Sas file)) held status text =
    AfterSas (bytes_of held file) AnswersSas status text
Answer covered (Some (J.Bound task most)) held status text =
    AfterTask (bytes_of held task) (AnswersBound most) status text
Answer covered (Some (J.Plan task plan)) held status text =
    AfterTask (bytes_of held task) (λ given. AfterPlan (bytes_of held plan) (AnswersPlan given))
    status text

-- The same where the source's bytes are known. Otherwise it is the answer of a job that reads no
-- file, whatever the files hold, and nothing is said of other jobs.
abbrev pub AnswersTold : Covered → Option Job → Option Names → Status → List ℕ → Type 0
AnswersTold covered job None status text =
    ((name : List ℕ) → HasName job name → ⊥) → (held : Names) → Answer covered job held status text
AnswersTold covered job (Some held) status text = Answer covered job held status text

-- the answer to the job is a proof that replays a log; which lines it has is the pruners' choice
abbrev pub IsReplayProof : Option Job → Status → Type 0
IsReplayProof (Some (J.Replay task log)) status = status ≡ S.Done
IsReplayProof _ status = ⊥

-- the nodes of a check: 0 and 1 alone where no node file is named, or else those of the file
abbrev pub HasNodes : Strips → Option (List ℕ) → Names → NodeList → Type 0
HasNodes task None held nodes = nodes ≡ no_nodes (atoms task)
HasNodes task (Some name) held nodes =
    AreNodeTextOf (atoms task) (pieces_of standard (bytes_of held name)) nodes

-- What the program says is true: where it answers yes to a task, no list of actions leads from the
-- initial state to the goal, and every `k` line that is accepted, also before a line that is
-- refused, claims what is true.
abbrev pub IsSoundCheck : List ℕ → List ℕ → Option (List ℕ) → ℕ → Names → Status → Type 0
IsSoundCheck task_name proof_name nodes_name budget held status =
    (task : Strips) → TaskText standard (bytes_of held task_name) task
    → (status ≡ S.Done → IsUnsolvable task)
    × ((nodes : NodeList) (front rest : List LineText) (lines : List Line)
    → HasNodes task nodes_name held nodes
    → front ++ rest ≡ pieces_of standard (bytes_of held proof_name)
    → Accepts (setting_of task nodes budget) (reverse (judged_so_far front)) lines
    → AllTrue task nodes lines)

-- the same of a proof that is written: no list of actions is a plan of the task
abbrev pub IsSoundProof : List ℕ → Names → Status → Type 0
IsSoundProof task_name held status =
    (task : Strips) → TaskText standard (bytes_of held task_name) task
    → status ≡ S.Done → IsUnsolvable task

-- what is said of a job, by the bytes that are held under its names, is true
abbrev pub IsSound : Option Job → Names → Status → Type 0
IsSound None held status = Unit {0}
IsSound (Some (J.Check task proof nodes budget)) held status =
    IsSoundCheck task proof nodes budget held status
IsSound (Some (J.Explain task proof nodes budget)) held status =
    IsSoundCheck task proof nodes budget held status
IsSound (Some (J.Upgrade task proof nodes budget)) held status =
    IsSoundCheck task proof nodes budget held status
IsSound (Some (J.Produce kind task)) held status = IsSoundProof task held status
IsSound (Some (J.Replay task log)) held status = IsSoundProof task held status
IsSound (Some (J.Sample rooms)) held status = Unit {0}
IsSound (Some (J.Sas file)) held status = Unit {0}
IsSound (Some (J.Bound task most)) held status = Unit {0}
IsSound (Some (J.Plan task plan)) held status = Unit {0}

-- the same where the source's bytes are known
abbrev pub IsSoundTold : Option Job → Option Names → Status → Type 0
IsSoundTold job None status = Unit {0}
IsSoundTold job (Some held) status = IsSound job held status

-- the text is judged to show that the task of this file has no plan, without a node file and within
-- the default budget
abbrev pub IsAcceptedProof : List ℕ → Names → List ℕ → Type 0
IsAcceptedProof task_name held text =
    (task : Strips) → TaskText standard (bytes_of held task_name) task
    → JudgedBytes (draft_setting task) standard text Unsolvable

-- the text is judged to show that the task of this file has no plan, with the nodes of that file
-- and within this budget
abbrev pub IsUpgradedProof : List ℕ → Option (List ℕ) → ℕ → Names → List ℕ → Type 0
IsUpgradedProof task_name nodes_name budget held text =
    (task : Strips) → TaskText standard (bytes_of held task_name) task
    → (nodes : NodeList) → HasNodes task nodes_name held nodes
    → JudgedBytes (setting_of task nodes budget) standard text Unsolvable

-- the text is that of the task which a cost bound makes of the task of this file
abbrev pub IsBoundReadBack : ℕ → List ℕ → Names → List ℕ → Type 0
IsBoundReadBack most task_name held text =
    (task : Strips) → TaskText standard (bytes_of held task_name) task
    → TaskText standard text (bounded_task task most)

-- the text is that of the task which is made of the translator's task of this file
abbrev pub IsSasReadBack : List ℕ → Names → List ℕ → Type 0
IsSasReadBack name held text =
    (sas : Sas) → sas_in (pieces_of standard (bytes_of held name)) ≡ Ok sas
    → TaskText standard text (strips_of sas)

-- What the program reads in what it wrote. A proof is judged so; one that replays a log or that is
-- upgraded, where it has no more bytes than a file may have. Then a task text, too, is read as the
-- task that was made: of a translator's file, or with a cost bound. Nothing is said of other jobs.
abbrev pub IsAccepted : Option Job → Names → Status → List ℕ → Type 0
IsAccepted None held status text = Unit {0}
IsAccepted (Some (J.Check task proof nodes budget)) held status text = Unit {0}
IsAccepted (Some (J.Explain task proof nodes budget)) held status text = Unit {0}
IsAccepted (Some (J.Upgrade task proof nodes budget)) held status text =
    status ≡ S.Done → length text ≤ most_file_bytes
    → IsUpgradedProof task nodes budget held text
IsAccepted (Some (J.Produce kind task)) held status text =
    status ≡ S.Done → IsAcceptedProof task held text
IsAccepted (Some (J.Replay task log)) held status text =
    status ≡ S.Done → length text ≤ most_file_bytes → IsAcceptedProof task held text
IsAccepted (Some (J.Sample rooms)) held status text = Unit {0}
IsAccepted (Some (J.Sas file)) held status text =
    status ≡ S.Done → length text ≤ most_file_bytes → IsSasReadBack file held text
IsAccepted (Some (J.Bound task most)) held status text =
    status ≡ S.Done → length text ≤ most_file_bytes → IsBoundReadBack most task held text
IsAccepted (Some (J.Plan task plan)) held status text = Unit {0}

-- the same where the source's bytes are known
abbrev pub IsAcceptedTold : Option Job → Option Names → Status → List ℕ → Type 0
IsAcceptedTold job None status text = Unit {0}
IsAcceptedTold job (Some held) status text = IsAccepted job held status text
