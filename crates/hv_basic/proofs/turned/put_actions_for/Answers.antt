use Rattle.std.proofs.Common.{subst, sym}
use Rattle.hv_basic.specs.ChangeRows.{changed_to}
use Rattle.std.specs.List.{Contains}
use Rattle.hv_basic.proofs.turned.put_actions_for.Goals as goal

pub returns-clause-has : goal.returns-clause-has
returns-clause-has c = λ task number action rows at turns less.
    c.in_ok-put_row.ensures.has number
    (c.row_of.ensures number
    (c.rows_that-rows.ensures task rows number action c.args.literal.atom at
    (subst (λ sign. Contains (changed_to sign action) c.args.literal.atom)
    (sym c.sign_to.ensures) turns)))
    less
