use Rattle.std.proofs.Common.{arith}
use Rattle.hv_sas.proofs.Making.{if_ok}
use Rattle.hv_sas.proofs.Marks.{marked_none}
use Rattle.hv_sas.proofs.Ranges.{variables_few}
use Rattle.hv_sas.proofs.read.no_marks.Goals as goal

pub overflow_cast-len : goal.overflow_cast-len
overflow_cast-len c =
    let few = variables_few c.args.variables.now c.requires in
    let e = c.len.ensures in omega arith

pub returns : goal.returns
returns c =
    if_ok _ _ c.empty.result (λ marks e. marked_none c.args.variables.now _ marks e c.len.ensures)
    c.empty.ensures
