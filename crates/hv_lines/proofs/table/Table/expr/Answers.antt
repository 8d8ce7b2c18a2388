-- The place of the identifier is that of its line.
use Rattle.std.proofs.Common.{◌≡◌, Some, ap, rules}
use Rattle.hv_lines.specs.Numbering.{expr_at}
use Rattle.hv_lines.proofs.Laws.{refers_before, refers_below}
use Rattle.hv_lines.proofs.Indexed.{read_expr}
use Rattle.hv_lines.specs.TableState.{TableState}
use Rattle.hv_lines.proofs.table.Table.expr.Goals as goal

pub index-requires-2 : goal.index-requires-2
index-requires-2 c =
    let r = read_expr _ _ _ _ _ c.self.invariant (ap (λ (t : TableState). t.lines) c.self.view_is) _
    _ c.requires c.index.ensures in
    search (rules, r.0)

pub unreachable-requires : goal.unreachable-requires
unreachable-requires c =
    let r = read_expr _ _ _ _ _ c.self.invariant (ap (λ (t : TableState). t.lines) c.self.view_is) _
    _ c.requires c.index.ensures in
    let line = r.1 _ c.index-2.ensures in
    c.in_default.not-Expr _ _ line.1

pub returns : goal.returns
returns c =
    let r = read_expr _ _ _ _ _ c.self.invariant (ap (λ (t : TableState). t.lines) c.self.view_is) _
    _ c.requires c.index.ensures in
    let line = r.1 _ c.index-2.ensures in
    let said : expr_at c.args.self.now.lines c.args.id
    ≡ Some c.in-Expr.expr = cc (line.1, line.2) in
    record {
      says = said;
      before = refers_before _ _ _ r.2 said;
      below = refers_below _ _ _ r.2 said;
      table = r.2;
    }
