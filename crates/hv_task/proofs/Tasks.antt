-- What every task keeps, and the actions of a task.
use Rattle.std.proofs.Common.{◌≡◌, ℕ, ◌<◌, ◌≤◌, List, [], ◌∷◌, ◌++◌, Some, length, get_or, arith}
use Rattle.std.proofs.Common.{subst, sym, length-append}
use Rattle.std.proofs.lemmas.List.Elements.{All-get_or, All-weaker, All-push}
use Rattle.std.proofs.lemmas.Option.{slice_get_within, get_or_from_slice_get}
use Rattle.std.specs.List.{slice_get, All}
use Rattle.hv_task.specs.declared.action.Action.{Action}
use Rattle.hv_task.specs.State.{AreBelow}
use Rattle.hv_task.specs.Strips.{Strips, atoms, IsOver, IsTask}

-- numbers below a bound are below a greater one
pub AreBelow-more : (m n : ℕ) (numbers : List ℕ) → m ≤ n → AreBelow m numbers → AreBelow n numbers
AreBelow-more m n numbers upto below = All-weaker (λ k. k < m) (λ k. k < n)
    (λ k less. omega arith) numbers below

pub IsOver-more : (m n : ℕ) (a : Action) → m ≤ n → IsOver m a → IsOver n a
IsOver-more m n a upto over = record {
  pre = AreBelow-more m n a.pre upto over.pre;
  add = AreBelow-more m n a.add upto over.add;
  del = AreBelow-more m n a.del upto over.del;
}

-- an action of a task speaks of its atoms alone
pub IsOver-action : (task : Strips) (number : ℕ) (a : Action) → IsTask task
    → slice_get task.actions number ≡ Some a → IsOver (atoms task) a
IsOver-action task number a is_task named =
    let within = slice_get_within task.actions number a named in
    subst (IsOver (atoms task)) (get_or_from_slice_get task.actions number a a named)
    (All-get_or (IsOver (atoms task)) task.actions number a within is_task.actions)

-- the same, read from the list
pub IsOver-item : (bound : ℕ) (items : List Action) (i : ℕ) (a : Action) → All (IsOver bound) items
    → i < length items → a ≡ get_or items i a
    → IsOver bound a
IsOver-item bound items i a all within e = subst (IsOver bound) (sym e)
    (All-get_or (IsOver bound) items i a within all)

-- one more atom
pub IsTask-add_atom : (task : Strips) (name : List ℕ) → IsTask task → atoms task < 65535
    → IsTask (record task { names = task.names ++ name ∷ [] })
IsTask-add_atom task name is_task room =
    let size = length-append task.names (name ∷ []) in
    let more : atoms task ≤ length (task.names ++ name ∷ []) = omega arith in
    record {
      start = AreBelow-more (atoms task) (length (task.names ++ name ∷ [])) task.start more
          is_task.start;
      start_rises = is_task.start_rises;
      goal = AreBelow-more (atoms task) (length (task.names ++ name ∷ [])) task.goal more
          is_task.goal;
      goal_rises = is_task.goal_rises;
      actions = All-weaker (IsOver (atoms task)) (IsOver (length (task.names ++ name ∷ [])))
          (λ a over. IsOver-more (atoms task) (length (task.names ++ name ∷ [])) a more over)
          task.actions is_task.actions;
      few_atoms = omega arith;
      few_actions = is_task.few_actions;
    }

-- one more action
pub IsTask-add_action : (task : Strips) (a : Action) → IsTask task → IsOver (atoms task) a
    → length task.actions < 1000000
    → IsTask (record task { actions = task.actions ++ a ∷ [] })
IsTask-add_action task a is_task over room = record {
  start = is_task.start;
  start_rises = is_task.start_rises;
  goal = is_task.goal;
  goal_rises = is_task.goal_rises;
  actions = All-push (IsOver (atoms task)) task.actions a is_task.actions over;
  few_atoms = is_task.few_atoms;
  few_actions = omega (arith, length-append task.actions (a ∷ []));
}
