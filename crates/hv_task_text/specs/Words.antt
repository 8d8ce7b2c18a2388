-- The printed words of kinds and limits.
use Rattle.std.specs.Prelude.{ℕ, List, codes}
use Rattle.hv_task_text.specs.declared.fault.TaskKind.{TaskKind}
use Rattle.hv_task_text.specs.declared.fault.TaskKind.TheVariants as K
use Rattle.hv_task_text.specs.declared.fault.TaskLimit.{TaskLimit}
use Rattle.hv_task_text.specs.declared.fault.TaskLimit.TheVariants as W

-- the word of a kind of place
abbrev pub task_kind_word : TaskKind → List ℕ
task_kind_word K.BeginAtoms = codes "begin_atoms"
task_kind_word K.AtomName = codes "atom_name"
task_kind_word K.EndAtoms = codes "end_atoms"
task_kind_word K.BeginInit = codes "begin_init"
task_kind_word K.InitAtom = codes "init_atom"
task_kind_word K.BeginGoal = codes "begin_goal"
task_kind_word K.GoalAtom = codes "goal_atom"
task_kind_word K.BeginActions = codes "begin_actions"
task_kind_word K.BeginAction = codes "begin_action"
task_kind_word K.ActionName = codes "action_name"
task_kind_word K.Cost = codes "cost"
task_kind_word K.ActionLine = codes "action_line"
task_kind_word K.EndActions = codes "end_actions"
task_kind_word K.End = codes "end"

-- the word of a limit
abbrev pub task_limit_word : TaskLimit → List ℕ
task_limit_word W.Atoms = codes "atoms"
task_limit_word W.Actions = codes "actions"
task_limit_word W.Name = codes "name"
task_limit_word W.Cost = codes "cost"
task_limit_word W.Long = codes "long"
