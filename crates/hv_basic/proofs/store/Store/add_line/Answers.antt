use Rattle.std.proofs.Common.{◌∙◌, ◌∷◌, ap, sym}
use Rattle.hv_task.specs.Strips.{atoms}
use Rattle.hv_basic.specs.Stores.{with_line, with_rows}
use Rattle.hv_basic.proofs.Growing.{stands_beside, stands_with}
use Rattle.hv_basic.proofs.store.Store.add_line.Goals as goal

pub returns-in_ok-add-in-Expr-clause-stands : goal.returns-in_ok-add-in-Expr-clause-stands
returns-in_ok-add-in-Expr-clause-stands c = λ lines stands numbered.
    let stored = stands_with c.args.task.now lines c.args.self.now _ c.args.line.now stands numbered
    (c.in_ok-add-in-Expr.ensures.ok ∙ ap (with_line (atoms c.args.task.now) c.args.self.now)
    (sym c.in-Expr.is)) in
    let rowed =
    stands_beside c.args.task.now (c.args.line.now ∷ lines) _ _ _ _ stored c.keep_rows.ensures.kept
    (c.keep_rows.ensures.rows c.args.task.now stored.rows c.in_ok-rows-in-Expr.ensures)
    stored.changes in
    stands_beside c.args.task.now (c.args.line.now ∷ lines) _ _ _ _ rowed
    c.keep_changes.ensures.kept rowed.rows
    (c.keep_changes.ensures.changes c.args.task.now rowed.changes c.in_ok-changes-in-Expr.ensures)

pub returns-in-Acts-clause-ok : goal.returns-in-Acts-clause-ok
returns-in-Acts-clause-ok c =
    ap (λ line. with_rows (with_line (atoms c.args.task.now) c.args.self.now line)
    c.args.self.now.rows c.args.self.now.changes) (sym c.in-Acts.is)

pub returns-in-Acts-clause-stands : goal.returns-in-Acts-clause-stands
returns-in-Acts-clause-stands c = λ lines stands numbered.
    stands_with c.args.task.now lines c.args.self.now c.args.self.now c.args.line.now stands
    numbered
    (ap (with_line (atoms c.args.task.now) c.args.self.now) (sym c.in-Acts.is))

pub returns-in-Known-clause-ok : goal.returns-in-Known-clause-ok
returns-in-Known-clause-ok c =
    ap (λ line. with_rows (with_line (atoms c.args.task.now) c.args.self.now line)
    c.args.self.now.rows c.args.self.now.changes) (sym c.in-Known.is)

pub returns-in-Known-clause-stands : goal.returns-in-Known-clause-stands
returns-in-Known-clause-stands c = λ lines stands numbered.
    stands_with c.args.task.now lines c.args.self.now c.args.self.now c.args.line.now stands
    numbered
    (ap (with_line (atoms c.args.task.now) c.args.self.now) (sym c.in-Known.is))
