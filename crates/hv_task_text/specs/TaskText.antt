-- Task texts: which pieces of a file are the text of a task, and otherwise their first fault.
use Rattle.std.specs.Prelude.{◌≡◌, ℕ, List, Some, length, Result, Ok, Err}
use Rattle.hv_bytes.specs.declared.cutting.Limits.{Limits}
use Rattle.hv_bytes.specs.Pieces.{PieceBytes, as_pieces, pieces_of}
use Rattle.hv_task.specs.Strips.{Strips}
use Rattle.hv_task_text.specs.TaskFile.{task_fault_in, task_file}
use Rattle.hv_task_text.specs.declared.fault.TaskFault.{TaskFault}
use Rattle.hv_task_text.specs.declared.fault.TaskFault.TheVariants as F
use Rattle.hv_task_text.specs.Written.{AreActions, WrittenAction, WrittenHead, task_of, text_lines}

-- the pieces are a text that denotes this task; so none of its lines is long
pub record IsTaskTextOf
    (pieces : List PieceBytes) (task : Strips) (head : WrittenHead) (actions : List WrittenAction) :
    Type 0
  where
    pub legal : AreActions (length actions) head actions
    pub spelled : as_pieces (text_lines head actions) ≡ pieces
    pub says : task_of head actions ≡ task

-- the pieces are a text of this task
abbrev pub AreTaskTextOf : List PieceBytes → Strips → Type 0
AreTaskTextOf pieces task = (head : WrittenHead) × (actions : List WrittenAction) × IsTaskTextOf
    pieces task head actions

-- the first fault of the pieces is this one
abbrev pub HasTaskFault : List PieceBytes → TaskFault → Type 0
HasTaskFault pieces fault = task_fault_in (task_file 0 pieces) ≡ Some fault

-- the bytes are a text of this task
abbrev pub TaskText : Limits → List ℕ → Strips → Type 0
TaskText limits bytes task = AreTaskTextOf (pieces_of limits bytes) task

-- what a reader answers to these bytes: the task where they are a text, and else the first fault;
-- faults of the device and running out of memory are free here
abbrev pub IsTaskReadFrom : Limits → List ℕ → Result Strips TaskFault → Type 0
IsTaskReadFrom limits bytes (Ok task) = TaskText limits bytes task
IsTaskReadFrom limits bytes (Err (F.Place number kind)) =
    HasTaskFault (pieces_of limits bytes) (F.Place number kind)
IsTaskReadFrom limits bytes (Err (F.Limit number limit)) =
    HasTaskFault (pieces_of limits bytes) (F.Limit number limit)
IsTaskReadFrom limits bytes (Err F.ReadFault) = Unit {0}
IsTaskReadFrom limits bytes (Err F.Memory) = Unit {0}
