use Rattle.std.proofs.Common.{◌++◌, ap, refl}
use Rattle.std.specs.Fmt.{decimal}
use Rattle.std.specs.List.{flat_map}
use Rattle.std.specs.Prelude.{codes}
use Rattle.hv_task_text.specs.Canonical.{head_of, with_lf}
use Rattle.hv_task_text.proofs.Appended.{head_written}
use Rattle.hv_task_text.proofs.write.write_head.Goals as goal

pub returns-clause-text : goal.returns-clause-text
returns-clause-text c =
    let init = c.write_line.new.text ++ with_lf (codes "begin_init") in
    let goals = c.write_set.new.text ++ with_lf (codes "begin_goal") in
    head_written (head_of c.args.task.now) c.args.text.now c.write_names.new.text
    c.write_line.new.text
    init (init ++ flat_map (λ n. with_lf (decimal n)) c.start.result.now) c.write_set.new.text
    goals (goals ++ flat_map (λ n. with_lf (decimal n)) c.goal.result.now) c.write_set-2.new.text
    c.in_ok-write_names.ensures c.in_ok-write_line.ensures
    refl
    (ap (λ atoms. init ++ flat_map (λ n. with_lf (decimal n)) atoms) c.start.ensures.start)
    c.in_ok-write_set.ensures.text
    refl
    (ap (λ atoms. goals ++ flat_map (λ n. with_lf (decimal n)) atoms) c.goal.ensures.goal)
    c.in_ok-write_set-2.ensures.text
