use Rattle.std.proofs.Common.{◌∙◌, [], ap, length}
use Rattle.hv_task.proofs.Places.{length-state_of}
use Rattle.hv_reach.proofs.Served.{square}
use Rattle.hv_reach.proofs.pair_course.new_course.Goals as goal

pub returns : goal.returns
returns c =
    let size = length-state_of c.args.atoms [] in
    record {
      told = square c.args.atoms c.in_ok-table.field-0.items c.in_ok-table.ensures.table;
      mask = ap length c.in_ok-empty-2.ensures ∙ size;
      seen = ap length c.in_ok-empty.ensures ∙ size;
    }
