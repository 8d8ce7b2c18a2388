use Rattle.hv_lines.specs.declared.line.Line.TheVariants as L
use Rattle.hv_basic.proofs.Growing.{stands_with}
use Rattle.hv_basic.proofs.store.Store.add.Goals as goal

pub returns-clause-stands : goal.returns-clause-stands
returns-clause-stands c = λ lines id stands numbered.
    stands_with c.args.task.now lines c.args.self.now _ (L.Expr id c.args.expr.now) stands numbered
    c.in_ok-put.ensures.ok
