-- The texts that the program prints, and its exit statuses.
use Rattle.std.specs.Prelude.{◌≡◌, ◌⊎◌, ◌↔◌, ℕ, Bool, List, [], ◌∷◌, ◌++◌, Option, Some, None}
use Rattle.std.specs.Prelude.{IsSome, codes, cond, decimal, flat_map, length}
use Rattle.std.specs.List.{range_with_len}
use Rattle.hv_task.specs.State.{has_atom}
use Rattle.hv_lines.specs.Judged.{Judgement, Unsolvable, Refused, NoConclusion}
use Rattle.hv_lines.specs.declared.reason.Clash.{Clash}
use Rattle.hv_lines.specs.declared.reason.Reason.{Reason}
use Rattle.hv_lines.specs.declared.reason.Reason.TheVariants as R
use Rattle.hv_task_text.specs.declared.fault.TaskFault.{TaskFault}
use Rattle.hv_task_text.specs.declared.fault.TaskFault.TheVariants as F
use Rattle.hv_task_text.specs.Words.{task_kind_word, task_limit_word}
use Rattle.hv_bdd.specs.declared.fault.NodesFault.{NodesFault}
use Rattle.hv_bdd.specs.declared.fault.NodesFault.TheVariants as N
use Rattle.hv_bdd.specs.Words.{node_kind_word, node_limit_word}
use Rattle.hv_replay.specs.declared.fault.LogFault.{LogFault}
use Rattle.hv_replay.specs.declared.fault.LogFault.TheVariants as L
use Rattle.hv_replay.specs.declared.hole.ReplayFault.{ReplayFault}
use Rattle.hv_replay.specs.declared.hole.ReplayFault.TheVariants as H
use Rattle.hv_replay.specs.Words.{log_limit_word}
use Rattle.hv_sas.specs.declared.fault.SasFault.{SasFault}
use Rattle.hv_sas.specs.declared.fault.SasFault.TheVariants as A
use Rattle.hv_sas.specs.Words.{sas_kind_word, sas_limit_word}
use Rattle.hv_sas.specs.Words.{which_word}
use Rattle.hv_bound.specs.declared.fault.PlanFault.{PlanFault}
use Rattle.hv_bound.specs.declared.fault.PlanFault.TheVariants as B
use Rattle.hv_bound.specs.declared.plan_check.PlanAnswer.{PlanAnswer}
use Rattle.hv_bound.specs.declared.plan_check.PlanAnswer.TheVariants as W
use Rattle.hv_command.specs.declared.status.Status.{Status}
use Rattle.hv_command.specs.declared.status.Status.TheVariants as S

-- the exit status
abbrev pub status_number : Status → ℕ
status_number S.Done = 0
status_number S.Refused = 1
status_number S.Usage = 2
status_number S.BadInput = 3
status_number S.ReadFault = 4
status_number S.WriteFault = 5
status_number S.Memory = 6

-- the statuses with which a text is printed
abbrev pub IsAnswered : Status → Type 0
IsAnswered S.Done = Unit {0}
IsAnswered S.Refused = Unit {0}
IsAnswered S.Usage = Unit {0}
IsAnswered S.BadInput = Unit {0}
IsAnswered _ = ⊥

-- a text with its LF
abbrev pub line_of : List ℕ → List ℕ
line_of text = text ++ 10 ∷ []

-- words that are no job
abbrev pub usage_text : List ℕ
usage_text = line_of (codes "usage: helve COMMAND ARGUMENTS")

-- every line is good, and one says that the task is unsolvable
abbrev pub unsolvable_text : List ℕ
unsolvable_text = line_of (codes "unsolvable")

-- every line is good, and none says that the task is unsolvable
abbrev pub no_conclusion_text : List ℕ
no_conclusion_text = line_of (codes "no conclusion")

-- no proof is written
abbrev pub no_proof_text : List ℕ
no_proof_text = line_of (codes "no proof")

-- the task has too many atoms for the kind of proof
abbrev pub too_many_atoms_text : List ℕ
too_many_atoms_text = line_of (codes "too many atoms")

-- the action of a counterexample, where it has one
abbrev pub action_text : Option ℕ → List ℕ
action_text None = []
action_text (Some action) = codes " action " ++ decimal action

-- an atom, where the state holds it
abbrev pub atom_text : List Bool → ℕ → List ℕ
atom_text state atom = cond (has_atom state atom) (codes " " ++ decimal atom) []

-- the state of a counterexample, where it has one: the atoms that it holds, rising
abbrev pub state_text : Option (List Bool) → List ℕ
state_text None = []
state_text (Some state) = codes " state"
    ++ flat_map (atom_text state) (range_with_len 0 (length state)) ++ codes " ;"

-- the printed word of a reason, and the counterexample where there is one
abbrev pub reason_text : Reason → List ℕ
reason_text R.Long = codes "long"
reason_text R.Grammar = codes "grammar"
reason_text R.Number = codes "number"
reason_text R.Unknown = codes "unknown"
reason_text R.Family = codes "family"
reason_text R.Rule = codes "rule"
reason_text R.Shape = codes "shape"
reason_text R.NotOffered = codes "not offered"
reason_text R.Budget = codes "budget"
reason_text (R.False clash) = codes "false" ++ action_text clash.action ++ state_text clash.state

-- the first line that isn't good, and why
abbrev pub refused_text : ℕ → Reason → List ℕ
refused_text line reason = line_of (codes "line " ++ decimal line ++ codes ": "
    ++ reason_text reason)

-- the status of what a proof is judged
abbrev pub judgement_status : Judgement → Status
judgement_status Unsolvable = S.Done
judgement_status (Refused line reason) = S.Refused
judgement_status NoConclusion = S.Refused

-- the text of what a proof is judged
abbrev pub judgement_text : Judgement → List ℕ
judgement_text Unsolvable = unsolvable_text
judgement_text (Refused line reason) = refused_text line reason
judgement_text NoConclusion = no_conclusion_text

-- the first fault of the task text
abbrev pub task_fault_text : TaskFault → List ℕ
task_fault_text (F.Place line kind) = line_of (codes "task line " ++ decimal line
    ++ codes ": place " ++ task_kind_word kind)
task_fault_text (F.Limit line limit) = line_of (codes "task line " ++ decimal line
    ++ codes ": limit " ++ task_limit_word limit)
task_fault_text F.ReadFault = []
task_fault_text F.Memory = []

-- the first fault of the node file
abbrev pub nodes_fault_text : NodesFault → List ℕ
nodes_fault_text (N.Place line kind) =
    line_of (codes "nodes line " ++ decimal line ++ codes ": place " ++ node_kind_word kind)
nodes_fault_text (N.Limit line limit) =
    line_of (codes "nodes line " ++ decimal line ++ codes ": limit " ++ node_limit_word limit)
nodes_fault_text N.ReadFault = []
nodes_fault_text N.Memory = []

-- the first fault of the log
abbrev pub log_fault_text : LogFault → List ℕ
log_fault_text (L.Place line) = line_of (codes "log line " ++ decimal line ++ codes ": place")
log_fault_text (L.Limit line limit) =
    line_of (codes "log line " ++ decimal line ++ codes ": limit " ++ log_limit_word limit)
log_fault_text L.ReadFault = []
log_fault_text L.Memory = []

-- the first hole of the log
abbrev pub hole_text : ReplayFault → List ℕ
hole_text H.NoInitial = line_of (codes "log: no initial state")
hole_text (H.GoalExpanded line) =
    line_of (codes "log line " ++ decimal line ++ codes ": goal expanded")
hole_text (H.Open line action) =
    line_of (codes "log line " ++ decimal line ++ codes ": open action " ++ decimal action)
hole_text (H.Unjustified line) =
    line_of (codes "log line " ++ decimal line ++ codes ": unjustified")
hole_text H.Memory = []

-- the first fault of the translator's file
abbrev pub sas_fault_text : SasFault → List ℕ
sas_fault_text (A.Place line kind) =
    line_of (codes "sas line " ++ decimal line ++ codes ": place " ++ sas_kind_word kind)
sas_fault_text (A.Unsupported line which) =
    line_of (codes "sas line " ++ decimal line ++ codes ": unsupported " ++ which_word which)
sas_fault_text (A.Limit line limit) =
    line_of (codes "sas line " ++ decimal line ++ codes ": limit " ++ sas_limit_word limit)
sas_fault_text A.ReadFault = []
sas_fault_text A.Memory = []

-- the task with the bound would have too many atoms or actions
abbrev pub too_large_text : List ℕ
too_large_text = line_of (codes "too large")

-- the first fault of the plan file
abbrev pub plan_fault_text : PlanFault → List ℕ
plan_fault_text (B.Place line) = line_of (codes "plan line " ++ decimal line ++ codes ": place")
plan_fault_text (B.Limit line) = line_of (codes "plan line " ++ decimal line ++ codes ": limit")
plan_fault_text B.ReadFault = []
plan_fault_text B.Memory = []

-- the status of what a list of action numbers is
abbrev pub plan_status : PlanAnswer → Status
plan_status (W.Cost cost) = S.Done
plan_status (W.Unknown step) = S.Refused
plan_status (W.NotApplicable step) = S.Refused
plan_status W.NoGoal = S.Refused

-- the text of what a list of action numbers is
abbrev pub plan_text : PlanAnswer → List ℕ
plan_text (W.Cost cost) = line_of (codes "plan cost " ++ decimal cost)
plan_text (W.Unknown step) = line_of (codes "step " ++ decimal step ++ codes ": unknown")
plan_text (W.NotApplicable step) =
    line_of (codes "step " ++ decimal step ++ codes ": not applicable")
plan_text W.NoGoal = line_of (codes "no goal")

-- two texts are one, but for which state a counterexample names
abbrev pub AreOneText : List ℕ → List ℕ → Type 0
AreOneText text other =
    (text ≡ other)
    ⊎ ((line : ℕ) × (a : Clash) × (b : Clash) × (a.action ≡ b.action)
    × (IsSome a.state ↔ IsSome b.state)
    × (text ≡ refused_text line (R.False a)) × (other ≡ refused_text line (R.False b)))
