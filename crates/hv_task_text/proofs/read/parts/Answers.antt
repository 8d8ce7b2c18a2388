use Rattle.std.proofs.Common.{◌∙◌, ap, subst, sym}
use Rattle.hv_grammar.specs.Reads.{Reads}
use Rattle.hv_grammar.specs.Working.Reads.{placed}
use Rattle.hv_grammar.proofs.Going.{filled_err, go, start, stops}
use Rattle.hv_task.specs.Strips.{Strips, atoms}
use Rattle.hv_task_text.specs.TaskFile as text
use Rattle.hv_task_text.proofs.Listed.{closed, go_as, stops_as}
use Rattle.hv_task_text.proofs.read.parts.Goals as goal

pub returns-in_err-atom_names : goal.returns-in_err-atom_names
returns-in_err-atom_names g c =
    stops _ (start text.task_file _) c.in_err-atom_names.ensures.reads
    (filled_err _ _ _ c.from_residual.ensures.1)

pub returns-in_err-put_start : goal.returns-in_err-put_start
returns-in_err-put_start g c =
    stops _ (go _ (start text.task_file _) c.in_ok-atom_names.ensures.reads)
    c.in_err-put_start.ensures.reads (filled_err _ _ _ c.from_residual-in_err-put_start.ensures.1)

pub returns-in_err-put_goal : goal.returns-in_err-put_goal
returns-in_err-put_goal g c =
    stops_as text.goal_atoms _ (ap (λ (t : Strips). atoms t) c.in_ok-put_start.ensures.task)
    (go _ (go _ (start text.task_file _) c.in_ok-atom_names.ensures.reads)
    c.in_ok-put_start.ensures.reads)
    c.in_err-put_goal.ensures.reads (filled_err _ _ _ c.from_residual-in_err-put_goal.ensures.1)

pub returns-in_err-all_actions : goal.returns-in_err-all_actions
returns-in_err-all_actions g c =
    let same = ap (λ (t : Strips). atoms t) c.in_ok-put_start.ensures.task in
    stops_as text.all_actions _
    (ap (λ (t : Strips). atoms t) c.in_ok-put_goal.ensures.task ∙ same)
    (go_as text.goal_atoms _ same (go _ (go _ (start text.task_file _)
    c.in_ok-atom_names.ensures.reads) c.in_ok-put_start.ensures.reads) c.in_ok-put_goal.ensures.reads)
    c.in_err-all_actions.ensures.reads
    (filled_err _ _ _ c.from_residual-in_err-all_actions.ensures.1)

pub returns : goal.returns
returns g c =
    let same = ap (λ (t : Strips). atoms t) c.in_ok-put_start.ensures.task in
    let start_now = c.put_start.new.task.start in
    let goal_now = c.put_goal.new.task.goal in
    let actions = c.all_actions.new.task.actions in
    subst (λ (t : Strips). Reads text.task_file (g.R.Source.position c.args.reader.now)
    (g.R.Source.position c.end_of_input.new.reader) (placed t c.end_of_input.result))
    (sym (c.in_ok-all_actions.ensures.task
    ∙ ap (λ (t : Strips). record t { actions = actions }) c.in_ok-put_goal.ensures.task
    ∙ ap (λ (t : Strips). record t { goal = goal_now; actions = actions })
    c.in_ok-put_start.ensures.task
    ∙ ap (λ (t : Strips). record t { start = start_now; goal = goal_now; actions = actions })
    c.in_ok-atom_names.ensures.task))
    (closed (record {
      names = c.atom_names.new.task.names;
      start = start_now;
      goal = goal_now;
      actions = actions;
    }) c.end_of_input.result
    (go_as text.all_actions _ (ap (λ (t : Strips). atoms t) c.in_ok-put_goal.ensures.task ∙ same)
    (go_as text.goal_atoms _ same (go _ (go _ (start text.task_file _)
    c.in_ok-atom_names.ensures.reads) c.in_ok-put_start.ensures.reads) c.in_ok-put_goal.ensures.reads)
    c.in_ok-all_actions.ensures.reads) c.end_of_input.ensures)
