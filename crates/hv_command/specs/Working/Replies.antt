-- Working definitions beside those of `Replies`: for private contracts and proofs.
use Rattle.hv_task_text.specs.declared.fault.TaskFault.{TaskFault}
use Rattle.hv_task_text.specs.declared.fault.TaskFault.TheVariants as F
use Rattle.hv_bdd.specs.declared.fault.NodesFault.{NodesFault}
use Rattle.hv_bdd.specs.declared.fault.NodesFault.TheVariants as N
use Rattle.hv_replay.specs.declared.fault.LogFault.{LogFault}
use Rattle.hv_replay.specs.declared.fault.LogFault.TheVariants as L
use Rattle.hv_sas.specs.declared.fault.SasFault.{SasFault}
use Rattle.hv_sas.specs.declared.fault.SasFault.TheVariants as A
use Rattle.hv_bound.specs.declared.fault.PlanFault.{PlanFault}
use Rattle.hv_bound.specs.declared.fault.PlanFault.TheVariants as B
use Rattle.hv_command.specs.declared.status.Status.{Status}
use Rattle.hv_command.specs.declared.status.Status.TheVariants as S

-- the statuses of the answers to a job
abbrev pub IsJobStatus : Status → Type 0
IsJobStatus S.Done = Unit {0}
IsJobStatus S.Refused = Unit {0}
IsJobStatus S.BadInput = Unit {0}
IsJobStatus _ = ⊥

-- a fault of the text itself, and not of the device or of memory
abbrev pub IsTextFault : TaskFault → Type 0
IsTextFault (F.Place line kind) = Unit {0}
IsTextFault (F.Limit line limit) = Unit {0}
IsTextFault F.ReadFault = ⊥
IsTextFault F.Memory = ⊥

-- the same of a node file
abbrev pub IsNodesFault : NodesFault → Type 0
IsNodesFault (N.Place line kind) = Unit {0}
IsNodesFault (N.Limit line limit) = Unit {0}
IsNodesFault N.ReadFault = ⊥
IsNodesFault N.Memory = ⊥

-- the same of a log
abbrev pub IsLogFault : LogFault → Type 0
IsLogFault (L.Place line) = Unit {0}
IsLogFault (L.Limit line limit) = Unit {0}
IsLogFault L.ReadFault = ⊥
IsLogFault L.Memory = ⊥

-- the same of a translator's file
abbrev pub IsSasFault : SasFault → Type 0
IsSasFault (A.Place line kind) = Unit {0}
IsSasFault (A.Unsupported line which) = Unit {0}
IsSasFault (A.Limit line limit) = Unit {0}
IsSasFault A.ReadFault = ⊥
IsSasFault A.Memory = ⊥

-- the same of a plan file
abbrev pub IsPlanFault : PlanFault → Type 0
IsPlanFault (B.Place line) = Unit {0}
IsPlanFault (B.Limit line) = Unit {0}
IsPlanFault B.ReadFault = ⊥
IsPlanFault B.Memory = ⊥
