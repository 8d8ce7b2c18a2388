-- A job has one answer.
use Rattle.std.proofs.Common.{◌≡◌, ◌⊎◌, ◌↔◌, ◌<◌, ◌^◌, ℕ, ◌∙◌, Bool, List, [], Option, Some, None}
use Rattle.std.proofs.Common.{Ok, Err, IsSome, inl, inr, ap, refl, reverse, subst}
use Rattle.std.proofs.Common.{sym}
use Rattle.std.specs.Option.{option_map}
use Rattle.hv_bytes.specs.Files.{Names, bytes_of}
use Rattle.hv_bytes.specs.Pieces.{pieces_of}
use Rattle.hv_bytes.specs.Standard.{standard}
use Rattle.hv_task.specs.Strips.{Strips, atoms}
use Rattle.hv_task_text.specs.TaskText.{HasTaskFault, TaskText}
use Rattle.hv_bdd.specs.NodeText.{AreNodeTextOf as AreTextOfNodes}
use Rattle.hv_bdd.specs.NodeText.{HasNodesFault as IsFirstNodesFault}
use Rattle.hv_bdd.specs.Nodes.{no_nodes}
use Rattle.hv_task_text.proofs.OneAnswer.{one_fault, one_task, text_or_fault}
use Rattle.hv_bdd.proofs.OneAnswer.{one_fault as one_nodes_fault, one_list}
use Rattle.hv_bdd.proofs.OneAnswer.{text_or_fault as list_or_fault}
use Rattle.hv_lines.specs.Judged.{Judgement, LineText, Unsolvable, Refused, NoConclusion}
use Rattle.hv_lines.specs.Judged.{outline_of}
use Rattle.hv_lines.specs.Order.{without_state}
use Rattle.hv_lines.specs.Setting.{Setting, setting_of}
use Rattle.hv_lines.specs.Versions.{judged_so_far}
use Rattle.hv_lines.specs.declared.reason.Clash.{Clash}
use Rattle.hv_lines.specs.declared.reason.Reason.{Reason}
use Rattle.hv_lines.specs.declared.reason.Reason.TheVariants as R
use Rattle.hv_checker.proofs.OneJudgement.{accepts_once, judged_once}
use Rattle.hv_explain.proofs.OneText.{one_explanation}
use Rattle.hv_explain.specs.Explained.{IsExplanation}
use Rattle.hv_lines.specs.declared.line.Line.{Line}
use Rattle.hv_proof_text.specs.Closed.{closed_text}
use Rattle.hv_replay.specs.Logs.{SearchLog}
use Rattle.hv_replay.specs.LogText.{AreLogTextOf as AreTextOfLog, HasLogFault as IsFirstLogFault}
use Rattle.hv_replay.specs.LogText.{log_limits}
use Rattle.hv_replay.proofs.OneAnswer.{one_fault as one_log_fault, one_log}
use Rattle.hv_replay.proofs.OneAnswer.{text_or_fault as log_or_fault}
use Rattle.hv_replay.proofs.OneHole.{closed_or_hole, one_hole}
use Rattle.hv_bound.proofs.Steps.{one_answer as one_plan_answer}
use Rattle.hv_bound.specs.PlanFile.{plan_in, plan_limits}
use Rattle.hv_sas.specs.Answer.{sas_in}
use Rattle.hv_command.specs.Answer.{AfterLog, AfterPlan, AfterSas, AfterTask, AfterText, Answer}
use Rattle.hv_command.specs.Answer.{AnswersBound, AnswersCheck, AnswersLog, AnswersPieces}
use Rattle.hv_command.specs.Answer.{AnswersPlan, AnswersProduce, AnswersProof, AnswersReplay}
use Rattle.hv_command.specs.Answer.{AnswersSas, AnswersTask, Covered, IsReplayProof, IsTold}
use Rattle.hv_command.specs.Replies.{AreOneText, hole_text, judgement_status, judgement_text}
use Rattle.hv_command.specs.Replies.{log_fault_text, nodes_fault_text, plan_fault_text}
use Rattle.hv_command.specs.Replies.{plan_status, plan_text, refused_text, sas_fault_text}
use Rattle.hv_command.specs.Replies.{task_fault_text}
use Rattle.hv_command.specs.declared.job.Job.{Job}
use Rattle.hv_command.specs.declared.job.Job.TheVariants as J
use Rattle.hv_command.specs.declared.job.Kind.{Kind}
use Rattle.hv_command.specs.declared.job.Report.{Report}
use Rattle.hv_command.specs.declared.job.Report.TheVariants as P
use Rattle.hv_command.proofs.Computed.{one_fault_of, one_value_of, value_or_fault_of}
use Rattle.hv_command.proofs.Produced.{one_produced}
use Rattle.hv_command.proofs.Renewed.{few_atoms}
use Rattle.hv_command.specs.declared.status.Status.{Status}
use Rattle.hv_command.specs.declared.status.Status.TheVariants as S

-- a reason has no counterexample, or is one
plain_or_false : (r : Reason) → (without_state r ≡ r) ⊎ ((a : Clash) × (r ≡ R.False a))
plain_or_false R.Long = inl refl
plain_or_false R.Grammar = inl refl
plain_or_false R.Number = inl refl
plain_or_false R.Unknown = inl refl
plain_or_false R.Family = inl refl
plain_or_false R.Rule = inl refl
plain_or_false R.Shape = inl refl
plain_or_false R.NotOffered = inl refl
plain_or_false R.Budget = inl refl
plain_or_false (R.False a) = inr (a, refl)

-- reasons that agree but for which state is named
abbrev AreOneReason : Reason → Reason → Type 0
AreOneReason r q =
    (r ≡ q)
    ⊎ ((a : Clash) × (b : Clash) × (a.action ≡ b.action) × (IsSome a.state ↔ IsSome b.state)
    × (r ≡ R.False a) × (q ≡ R.False b))

-- whether a state is named, and nothing of it
abbrev bare_state : Option (List Bool) → Option (List Bool)
bare_state state = option_map (λ _. []) state

-- a counterexample without its state
abbrev bare : Clash → Clash
bare clash = record { action = clash.action; state = bare_state clash.state }

-- the action and the state of a counterexample
abbrev action_in : Reason → Option ℕ
action_in (R.False clash) = clash.action
action_in _ = None

abbrev state_in : Reason → Option (List Bool)
state_in (R.False clash) = clash.state
state_in _ = None

-- both name a state or none does
presence : (x y : Option (List Bool)) → bare_state x ≡ bare_state y → IsSome x ↔ IsSome y
presence None None e = (λ h. h, λ h. h)
presence None (Some y) e = absurd (cc)
presence (Some x) None e = absurd (cc)
presence (Some x) (Some y) e = (λ h. refl, λ h. refl)

twice : (x : Option (List Bool)) → bare_state (bare_state x) ≡ bare_state x
twice None = refl
twice (Some x) = refl

joined : (r q : Reason) → without_state r ≡ without_state q
    → (without_state r ≡ r) ⊎ ((a : Clash) × (r ≡ R.False a))
    → (without_state q ≡ q) ⊎ ((b : Clash) × (q ≡ R.False b)) → AreOneReason r q
joined r q e (inl p) (inl s) = inl (sym p ∙ (e ∙ s))
joined r q e (inl p) (inr (b, s)) =
    let none : r ≡ R.False (bare b) = sym p ∙ (e ∙ ap without_state s) in
    inr (bare b, b, refl, presence (bare b).state b.state (twice b.state), none, s)
joined r q e (inr (a, p)) (inl s) =
    let none : q ≡ R.False (bare a) = sym s ∙ (sym e ∙ ap without_state p) in
    inr (a, bare a, refl, presence a.state (bare a).state (sym (twice a.state)), p, none)
joined r q e (inr (a, p)) (inr (b, s)) =
    let both = sym (ap without_state p) ∙ (e ∙ ap without_state s) in
    inr (a, b, ap action_in both, presence a.state b.state (ap state_in both), p, s)

one_reason : (r q : Reason) → without_state r ≡ without_state q → AreOneReason r q
one_reason r q e = joined r q e (plain_or_false r) (plain_or_false q)

refused_texts : (p q : ℕ) (r s : Reason) → p ≡ q → AreOneReason r s
    → AreOneText (refused_text p r) (refused_text q s)
refused_texts p q r s place (inl same) = inl
    (ap (λ n. refused_text n r) place ∙ ap (refused_text q) same)
refused_texts p q r s place (inr (a, b, actions, named, x, y)) =
    inr (
      q,
      a,
      b,
      actions,
      named,
      ap (λ n. refused_text n r) place
          ∙ ap (refused_text q) x,
      ap (refused_text q) y,
    )

one_text : (a b : Judgement) → outline_of a ≡ outline_of b
    → (judgement_status a ≡ judgement_status b) × AreOneText (judgement_text a) (judgement_text b)
one_text Unsolvable Unsolvable e = (refl, inl refl)
one_text Unsolvable (Refused q s) e = absurd (cc)
one_text Unsolvable NoConclusion e = absurd (cc)
one_text (Refused p r) Unsolvable e = absurd (cc)
one_text (Refused p r) (Refused q s) e =
    let place : p ≡ q = cc in
    let reasons : without_state r ≡ without_state s = cc in
    (refl, refused_texts p q r s place (one_reason r s reasons))
one_text (Refused p r) NoConclusion e = absurd (cc)
one_text NoConclusion Unsolvable e = absurd (cc)
one_text NoConclusion (Refused q s) e = absurd (cc)
one_text NoConclusion NoConclusion e = (refl, inl refl)

-- what is said of one judgement is one text
one_told : (setting : Setting) (pieces : List LineText) (a b : Judgement) (report : Report)
    (t v : List ℕ) → outline_of a ≡ outline_of b
    → IsTold setting pieces a report t → IsTold setting pieces b report v → AreOneText t v
one_told setting pieces Unsolvable Unsolvable P.Verdict t v e x y = inl (x ∙ sym y)
one_told setting pieces Unsolvable Unsolvable P.Explanation t v e x y =
    inl (one_explanation y.0 t v
    (subst (λ (ls : List Line). IsExplanation ls t)
    (accepts_once setting (reverse (judged_so_far pieces)) x.0 y.0 x.1 y.1) x.2) y.2)
one_told setting pieces Unsolvable Unsolvable P.Renewal t v e x y =
    inl (x.2
    ∙ (ap (λ ls. closed_text (reverse ls))
    (accepts_once setting (reverse (judged_so_far pieces)) x.0 y.0 x.1 y.1)
    ∙ sym y.2))
one_told setting pieces Unsolvable (Refused q r) report t v e x y = absurd (cc)
one_told setting pieces Unsolvable NoConclusion report t v e x y = absurd (cc)
one_told setting pieces (Refused p r) Unsolvable report t v e x y = absurd (cc)
one_told setting pieces (Refused p r) (Refused q s) report t v e x y =
    subst (λ w. AreOneText w v) (sym x)
    (subst (λ w. AreOneText (refused_text p r) w) (sym y)
    (one_text (Refused p r) (Refused q s) e).1)
one_told setting pieces (Refused p r) NoConclusion report t v e x y = absurd (cc)
one_told setting pieces NoConclusion Unsolvable report t v e x y = absurd (cc)
one_told setting pieces NoConclusion (Refused q s) report t v e x y = absurd (cc)
one_told setting pieces NoConclusion NoConclusion report t v e x y = inl (x ∙ sym y)

one_proof : (report : Report) (setting : Setting) (pieces : List LineText) (s u : Status)
    (t v : List ℕ)
    → AnswersPieces report setting pieces s t → AnswersPieces report setting pieces u v
    → (s ≡ u) × AreOneText t v
one_proof report setting pieces s u t v (a, judged, s_is, told) (b, other, u_is, says) =
    let e = judged_once setting pieces a b judged other in
    (s_is ∙ ((one_text a b e).0 ∙ sym u_is), one_told setting pieces a b report t v e told says)

-- one status and one text
abbrev AreOne : Status → Status → List ℕ → List ℕ → Type 0
AreOne s u t v = (s ≡ u) × AreOneText t v

-- one text, but for a proof that replays a log
abbrev IsOne : Status → Status → List ℕ → List ℕ → Type 0
IsOne s u t v = (s ≡ u) × ((s ≡ S.Done → ⊥) → AreOneText t v)

are_one : (s u : Status) (t v : List ℕ) → s ≡ u → t ≡ v → AreOne s u t v
are_one s u t v same one = (same, inl one)

is_one : (s u : Status) (t v : List ℕ) → s ≡ u → t ≡ v → IsOne s u t v
is_one s u t v same one = (same, λ _. inl one)

-- A text denotes one value, or has one first fault: so what is answered after it is one, where
-- the answers to its value are.
module _ {A F : Type 0} (StandsFor : A → Type 0) (HasFault : F → Type 0)
    (fault_text : F → List ℕ) (Answers : A → Status → List ℕ → Type 0)
    (Same : Status → Status → List ℕ → List ℕ → Type 0)
    (one_value : (a b : A) → StandsFor a → StandsFor b → a ≡ b)
    (value_or_fault : (a : A) (f : F) → StandsFor a → HasFault f → ⊥)
    (one_first : (f g : F) → HasFault f → HasFault g → f ≡ g)
    (same_texts : (s u : Status) (t v : List ℕ) → s ≡ u → t ≡ v → Same s u t v)
    (same_answers : (a : A) → StandsFor a → (s u : Status) (t v : List ℕ) → Answers a s t
    → Answers a u v → Same s u t v) where
  one_after : (s u : Status) (t v : List ℕ)
      → AfterText StandsFor HasFault fault_text Answers s t
      → AfterText StandsFor HasFault fault_text Answers u v → Same s u t v
  one_after s u t v (inl (f, first, bad, said)) (inl (g, other, wrong, told)) =
      same_texts s u t v (bad ∙ sym wrong)
      (said ∙ (ap fault_text (one_first f g first other) ∙ sym told))
  one_after s u t v (inl (f, first, bad, said)) (inr (b, stands, answers)) =
      absurd (value_or_fault b f stands first)
  one_after s u t v (inr (a, stands, answers)) (inl (f, first, bad, said)) =
      absurd (value_or_fault a f stands first)
  one_after s u t v (inr (a, stands, answers)) (inr (b, also, says)) =
      same_answers b also s u t v
      (subst (λ (x : A). Answers x s t) (one_value a b stands also) answers) says

-- the same after the bytes of a task
module _ (bytes : List ℕ) (Answers : Strips → Status → List ℕ → Type 0)
    (Same : Status → Status → List ℕ → List ℕ → Type 0)
    (same_texts : (s u : Status) (t v : List ℕ) → s ≡ u → t ≡ v → Same s u t v)
    (same_answers : (task : Strips) → TaskText standard bytes task
    → (s u : Status) (t v : List ℕ) → Answers task s t → Answers task u v → Same s u t v) where
  one_after_task : (s u : Status) (t v : List ℕ) → AfterTask bytes Answers s t
      → AfterTask bytes Answers u v → Same s u t v
  one_after_task =
      let pieces = pieces_of standard bytes in
      one_after (TaskText standard bytes) (HasTaskFault pieces) task_fault_text Answers Same
      (one_task pieces) (text_or_fault pieces) (one_fault pieces) same_texts same_answers

module _ (report : Report) (task : Strips) (few : atoms task < 10 ^ 18) (proof_name : List ℕ)
    (budget : ℕ) (held : Names) where
  one_task_answer : (nodes_name : Option (List ℕ)) (s u : Status) (t v : List ℕ)
      → AnswersTask report task proof_name nodes_name budget held s t
      → AnswersTask report task proof_name nodes_name budget held u v
      → AreOne s u t v
  one_task_answer None s u t v x y =
      one_proof report (setting_of task (no_nodes (atoms task)) budget)
      (pieces_of standard (bytes_of held proof_name)) s u t v x y
  one_task_answer (Some name) s u t v x y =
      let pieces = pieces_of standard (bytes_of held name) in
      one_after (AreTextOfNodes (atoms task) pieces) (IsFirstNodesFault (atoms task) pieces)
      nodes_fault_text
      (λ nodes. AnswersProof report (setting_of task nodes budget) (bytes_of held proof_name))
      AreOne (one_list (atoms task) few pieces) (list_or_fault (atoms task) few pieces)
      (one_nodes_fault (atoms task) few pieces) are_one
      (λ nodes _. one_proof report (setting_of task nodes budget)
      (pieces_of standard (bytes_of held proof_name))) s u t v x y

one_check : (report : Report) (task_name proof_name : List ℕ) (nodes_name : Option (List ℕ))
    (budget : ℕ) (held : Names) (s u : Status) (t v : List ℕ)
    → AnswersCheck report task_name proof_name nodes_name budget held s t
    → AnswersCheck report task_name proof_name nodes_name budget held u v → AreOne s u t v
one_check report task_name proof_name nodes_name budget held =
    let bytes = bytes_of held task_name in
    one_after_task bytes (λ task. AnswersTask report task proof_name nodes_name budget held) AreOne
    are_one
    (λ task is_text. one_task_answer report task (few_atoms (pieces_of standard bytes) task is_text)
    proof_name budget held nodes_name)

one_proof_answer : (kind : Kind) (name : List ℕ) (held : Names) (s u : Status) (t v : List ℕ)
    → AfterTask (bytes_of held name) (AnswersProduce kind) s t
    → AfterTask (bytes_of held name) (AnswersProduce kind) u v → AreOne s u t v
one_proof_answer kind name held =
    one_after_task (bytes_of held name) (AnswersProduce kind) AreOne are_one
    (λ task _ s u t v x y. let one = one_produced kind task s u t v x y in (one.0, inl one.1))

module _ (covered : List Bool → Type 0) (task : Strips) (log : SearchLog) where
  one_replay : (s u : Status) (t v : List ℕ) → AnswersLog (λ _. covered) task log s t
      → AnswersLog (λ _. covered) task log u v → IsOne s u t v
  one_replay s u t v (inl (closed, s_is, proof)) (inl (also, u_is, other)) =
      (s_is ∙ sym u_is, λ refused. absurd (refused s_is))
  one_replay s u t v (inl (closed, s_is, proof)) (inr (hole, first, u_is, says)) = absurd
      (closed_or_hole task log covered hole closed first)
  one_replay s u t v (inr (hole, first, s_is, says)) (inl (closed, u_is, proof)) = absurd
      (closed_or_hole task log covered hole closed first)
  one_replay s u t v (inr (f, first, s_is, says)) (inr (g, other, u_is, tells)) = (
    s_is ∙ sym u_is,
    λ _. inl (says ∙ (ap hole_text (one_hole task log covered f g first other)
        ∙ sym tells)),
  )

one_log_answer : (covered : List Bool → Type 0) (task : Strips) (few : atoms task < 10 ^ 18)
    (bytes : List ℕ) (s u : Status) (t v : List ℕ)
    → AfterLog task bytes (AnswersLog (λ _. covered) task) s t
    → AfterLog task bytes (AnswersLog (λ _. covered) task) u v → IsOne s u t v
one_log_answer covered task few bytes =
    let pieces = pieces_of log_limits bytes in
    one_after (AreTextOfLog (atoms task) pieces) (IsFirstLogFault (atoms task) pieces)
    log_fault_text (AnswersLog (λ _. covered) task) IsOne (one_log (atoms task) few pieces)
    (log_or_fault (atoms task) few pieces) (one_log_fault (atoms task) few pieces) is_one
    (λ log _. one_replay covered task log)

one_replay_answer : (covered : Covered) (name log_name : List ℕ) (held : Names) (s u : Status)
    (t v : List ℕ)
    → AnswersReplay covered name log_name held s t → AnswersReplay covered name log_name held u v
    → IsOne s u t v
one_replay_answer covered name log_name held =
    let bytes = bytes_of held name in
    one_after_task bytes
    (λ task. AfterLog task (bytes_of held log_name) (AnswersLog covered task)) IsOne is_one
    (λ task is_text. one_log_answer (covered task) task
    (few_atoms (pieces_of standard bytes) task is_text) (bytes_of held log_name))

one_sas_answer : (bytes : List ℕ) (s u : Status) (t v : List ℕ) → AfterSas bytes AnswersSas s t
    → AfterSas bytes AnswersSas u v → AreOne s u t v
one_sas_answer bytes =
    let answer = sas_in (pieces_of standard bytes) in
    one_after (λ sas. answer ≡ Ok sas) (λ fault. answer ≡ Err fault) sas_fault_text AnswersSas
    AreOne (one_value_of answer) (value_or_fault_of answer) (one_fault_of answer) are_one
    (λ sas _ s u t v x y. (x.0 ∙ sym y.0, inl (x.1 ∙ sym y.1)))

one_bound : (most : ℕ) (task : Strips) (s u : Status) (t v : List ℕ)
    → AnswersBound most task s t → AnswersBound most task u v → AreOne s u t v
one_bound most task s u t v (inl (large, s_is, t_is)) (inl (also, u_is, v_is)) =
    (s_is ∙ sym u_is, inl (t_is ∙ sym v_is))
one_bound most task s u t v (inl (large, s_is, t_is)) (inr (fits, u_is, v_is)) = absurd (fits large)
one_bound most task s u t v (inr (fits, s_is, t_is)) (inl (large, u_is, v_is)) = absurd (fits large)
one_bound most task s u t v (inr (fits, s_is, t_is)) (inr (also, u_is, v_is)) =
    (s_is ∙ sym u_is, inl (t_is ∙ sym v_is))

one_bound_answer : (most : ℕ) (bytes : List ℕ) (s u : Status) (t v : List ℕ)
    → AfterTask bytes (AnswersBound most) s t → AfterTask bytes (AnswersBound most) u v
    → AreOne s u t v
one_bound_answer most bytes =
    one_after_task bytes (AnswersBound most) AreOne are_one (λ task _. one_bound most task)

one_list_answer : (task : Strips) (list : List ℕ) (s u : Status) (t v : List ℕ)
    → AnswersPlan task list s t → AnswersPlan task list u v → AreOne s u t v
one_list_answer task list s u t v (a, is, s_is, t_is) (b, also, u_is, v_is) =
    let same = one_plan_answer task list a b is also in (
      s_is ∙ (ap plan_status same ∙ sym u_is),
      inl (t_is ∙ (ap plan_text same ∙ sym v_is)),
    )

one_plan_file : (bytes plan_bytes : List ℕ) (s u : Status) (t v : List ℕ)
    → AfterTask bytes (λ task. AfterPlan plan_bytes (AnswersPlan task)) s t
    → AfterTask bytes (λ task. AfterPlan plan_bytes (AnswersPlan task)) u v → AreOne s u t v
one_plan_file bytes plan_bytes =
    let answer = plan_in (pieces_of plan_limits plan_bytes) in
    one_after_task bytes (λ task. AfterPlan plan_bytes (AnswersPlan task)) AreOne are_one
    (λ task _. one_after (λ list. answer ≡ Ok list) (λ fault. answer ≡ Err fault) plan_fault_text
    (AnswersPlan task) AreOne (one_value_of answer) (value_or_fault_of answer)
    (one_fault_of answer) are_one (λ list _. one_list_answer task list))

-- where one text is had in any case
in_any_case : (s u : Status) (t v : List ℕ) (A : Type 0) → (s ≡ u) × AreOneText t v
    → (s ≡ u) × (A → AreOneText t v)
in_any_case s u t v A same = (same.0, λ _. same.1)

pub one_answer : (covered : Covered) (job : Option Job) (held : Names) (s u : Status) (t v : List ℕ)
    → Answer covered job held s t
    → Answer covered job held u v → (s ≡ u) × ((IsReplayProof job s → ⊥) → AreOneText t v)
one_answer covered None held s u t v x y = (x.0 ∙ sym y.0, λ _. inl (x.1 ∙ sym y.1))
one_answer covered (Some (J.Check task proof nodes budget)) held s u t v x y =
    in_any_case s u t v _ (one_check P.Verdict task proof nodes budget held s u t v x y)
one_answer covered (Some (J.Explain task proof nodes budget)) held s u t v x y =
    in_any_case s u t v _ (one_check P.Explanation task proof nodes budget held s u t v x y)
one_answer covered (Some (J.Upgrade task proof nodes budget)) held s u t v x y =
    in_any_case s u t v _ (one_check P.Renewal task proof nodes budget held s u t v x y)
one_answer covered (Some (J.Produce kind task)) held s u t v x y =
    in_any_case s u t v _ (one_proof_answer kind task held s u t v x y)
one_answer covered (Some (J.Replay task log)) held s u t v x y = one_replay_answer covered task log
    held s u t v x y
one_answer covered (Some (J.Sample rooms)) held s u t v x y =
    (x.0 ∙ sym y.0, λ _. inl (x.1 ∙ sym y.1))
one_answer covered (Some (J.Sas file)) held s u t v x y =
    in_any_case s u t v _ (one_sas_answer (bytes_of held file) s u t v x y)
one_answer covered (Some (J.Bound task most)) held s u t v x y =
    in_any_case s u t v _ (one_bound_answer most (bytes_of held task) s u t v x y)
one_answer covered (Some (J.Plan task plan)) held s u t v x y =
    in_any_case s u t v _ (one_plan_file (bytes_of held task) (bytes_of held plan) s u t v x y)
