use Rattle.std.proofs.Common.{◌∙◌, ◌+◌, [], ap, length}
use Rattle.hv_task.specs.Strips.{atoms}
use Rattle.hv_task.proofs.Places.{length-state_of}
use Rattle.hv_reach.proofs.Served.{square}
use Rattle.hv_reach.proofs.pair_search.PairSearch.new.Goals as goal

pub returns : goal.returns
returns c =
    let n = atoms c.args.task.now in
    record {
      rows = square n c.in_ok-table.field-0.items
          (rw c.atoms.ensures.atoms at c.in_ok-table.ensures.table);
      flags = ap length c.in_ok-empty.ensures ∙ length-state_of (c.atoms-2.result + 1) []
          ∙ ap (λ m. m + 1) c.atoms-2.ensures.atoms;
      course = rw c.atoms-3.ensures.atoms at c.in_ok-new_course.ensures;
    }
