-- The places of the letter grow by the place of the line.
use Rattle.std.proofs.Common.{ap}
use Rattle.hv_lines.proofs.Indexed.{push_acts, push_expr, push_known}
use Rattle.hv_lines.specs.TableState.{TableState}
use Rattle.hv_lines.proofs.table.Table.push.Goals as goal

pub invariant_of-self-in-Acts : goal.invariant_of-self-in-Acts
invariant_of-self-in-Acts c =
    push_acts _ _ _ _ (ap (λ (t : TableState). t.lines) c.self.view_is) c.requires
    c.in_ok-push_both-in-Acts.ensures.ok_line
    _ c.self.inside.lines.ok.0 _ _ _ _ c.self.invariant _ _ c.in-Acts.is
    c.in_ok-push_both-in-Acts.ensures.ok_place

pub invariant_of-self-in-Expr : goal.invariant_of-self-in-Expr
invariant_of-self-in-Expr c =
    push_expr _ _ _ _ (ap (λ (t : TableState). t.lines) c.self.view_is) c.requires
    c.in_ok-push_both-in-Expr.ensures.ok_line
    _ c.self.inside.lines.ok.0 _ _ _ _ c.self.invariant _ _ c.in-Expr.is
    c.in_ok-push_both-in-Expr.ensures.ok_place

pub invariant_of-self-in-Known : goal.invariant_of-self-in-Known
invariant_of-self-in-Known c =
    push_known _ _ _ _ (ap (λ (t : TableState). t.lines) c.self.view_is) c.requires
    c.in_ok-push_both-in-Known.ensures.ok_line
    _ c.self.inside.lines.ok.0 _ _ _ _ c.self.invariant _ _ _ _ c.in-Known.is
    c.in_ok-push_both-in-Known.ensures.ok_place
