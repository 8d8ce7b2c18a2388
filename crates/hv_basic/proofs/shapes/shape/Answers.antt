use Rattle.hv_basic.proofs.Mixing.{two_unshaped}
use Rattle.hv_basic.proofs.shapes.shape.Goals as goal

pub returns-in-None-clause-err : goal.returns-in-None-clause-err
returns-in-None-clause-err c =
    two_unshaped c.args.table.now.lines c.args.statement.now c.args.word _ _ c.in-Sub.is c.in-B4.is
    c.in-None.ensures
