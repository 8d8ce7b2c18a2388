-- The text of the task that a translator file makes is read back as that task.
use Rattle.std.proofs.Common.{ℕ, ◌≤◌, ◌↔◌, Bool, true, false, cond, List, arith, length}
use Rattle.std.proofs.Common.{subst, sym}
use Rattle.std.proofs.lemmas.List.Elements.{All-map, All-weaker}
use Rattle.hv_bytes.specs.Pieces.{pieces_of}
use Rattle.hv_bytes.specs.Standard.{most_file_bytes, standard}
use Rattle.hv_task.specs.Plan.{IsUnsolvable, Solves}
use Rattle.hv_task.specs.Strips.{Strips}
use Rattle.hv_task.specs.declared.action.Action.{Action}
use Rattle.hv_task.proofs.Sets.{set_rises}
use Rattle.hv_sas.specs.Made.{operator_action, strips_of}
use Rattle.hv_sas.specs.Meaning.{SasSolves}
use Rattle.hv_sas.specs.Variables.{values_in}
use Rattle.hv_sas.specs.declared.sas_task.Sas.{Sas}
use Rattle.hv_sas.specs.declared.sas_task.SasOperator.{SasOperator}
use Rattle.hv_sas.specs.declared.sas_task.SasVariable.{SasVariable}
use Rattle.hv_sas.proofs.Legal.{is_task}
use Rattle.hv_sas.proofs.Plans.{keeps_plans}
use Rattle.hv_task_text.specs.Canonical.{HasWritableNames, IsWritableName}
use Rattle.hv_task_text.specs.TaskText.{TaskText}
use Rattle.hv_task_text.specs.Working.Canonical.{IsStored}
use Rattle.hv_task_text.proofs.OneAnswer.{one_task}
use Rattle.hv_task_text.proofs.Readable.{All-flat_map, readable}
use Rattle.hv_fronts.specs.SasTexts.{IsSasText}
use Rattle.hv_fronts.proofs.SasFiles.{IsReadOperator, IsReadSas, is_read}

cost_stored : (metric : Bool) (cost : ℕ) → cost ≤ 4294967295 → cond metric cost 1 ≤ 4294967295
cost_stored true cost few = few
cost_stored false cost few = omega arith

action_stored : (sas : Sas) (operator : SasOperator) → IsReadOperator sas.variables operator
    → IsStored (operator_action sas operator)
action_stored sas operator read = record {
  cost = cost_stored sas.metric operator.cost read.cost;
  pre = set_rises (values_in sas.variables) _;
  add = set_rises (values_in sas.variables) _;
  del = set_rises (values_in sas.variables) _;
}

names_written : (sas : Sas) → IsReadSas sas → HasWritableNames (strips_of sas)
names_written sas read = record {
  atoms = All-flat_map IsWritableName (λ (variable : SasVariable). variable.values) sas.variables
      read.names;
  actions = All-map (λ (action : Action). IsWritableName action.name) (operator_action sas)
      sas.operators
      (All-weaker (IsReadOperator sas.variables)
      (λ (operator : SasOperator). IsWritableName operator.name) (λ operator is. is.name)
      sas.operators read.operators);
}

pub sas_read_back : (file text : List ℕ) (sas : Sas) → IsSasText file sas text
    → TaskText standard text (strips_of sas)
sas_read_back file text sas is =
    let read = is_read standard file sas is.read in
    let task = is_task sas read.sound in
    subst (λ bytes. TaskText standard bytes (strips_of sas)) (sym is.written)
    (readable (strips_of sas) task task.start_rises task.goal_rises
    (All-map IsStored (operator_action sas) sas.operators
    (All-weaker (IsReadOperator sas.variables)
    (λ (operator : SasOperator). IsStored (operator_action sas operator)) (action_stored sas)
    sas.operators read.operators))
    (names_written sas read)
    (subst (λ bytes. length bytes ≤ most_file_bytes) is.written is.short))

pub sas_plans : (file text : List ℕ) (sas : Sas) (made : Strips) → IsSasText file sas text
    → TaskText standard text made → (list : List ℕ) → Solves made list ↔ SasSolves sas list
sas_plans file text sas made is reads list =
    subst (λ (task : Strips). Solves task list ↔ SasSolves sas list)
    (one_task (pieces_of standard text) (strips_of sas) made (sas_read_back file text sas is) reads)
    (keeps_plans sas (is_read standard file sas is.read).sound list)

pub sas_unsolvable : (file text : List ℕ) (sas : Sas) (made : Strips) → IsSasText file sas text
    → TaskText standard text made → IsUnsolvable made → (list : List ℕ) → SasSolves sas list → ⊥
sas_unsolvable file text sas made is reads none list solves =
    none list ((sas_plans file text sas made is reads list).1 solves)
