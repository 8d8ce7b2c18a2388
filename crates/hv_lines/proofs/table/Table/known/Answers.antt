-- The place of the identifier is that of its line.
use Rattle.std.proofs.Common.{◌≡◌, Some, ap, rules}
use Rattle.hv_lines.specs.Numbering.{statement_at, premises_at}
use Rattle.hv_lines.proofs.Laws.{speaks_at, premises_before}
use Rattle.hv_lines.proofs.Indexed.{read_known}
use Rattle.hv_lines.specs.TableState.{TableState}
use Rattle.hv_lines.proofs.table.Table.known.Goals as goal

pub index-requires-2 : goal.index-requires-2
index-requires-2 c =
    let r = read_known _ _ _ _ _ c.self.invariant (ap (λ (t : TableState). t.lines) c.self.view_is)
    _ _ c.requires c.index.ensures in
    search (rules, r.0)

pub unreachable-requires : goal.unreachable-requires
unreachable-requires c =
    let r = read_known _ _ _ _ _ c.self.invariant (ap (λ (t : TableState). t.lines) c.self.view_is)
    _ _ c.requires c.index.ensures in
    let line = r.1 _ c.index-2.ensures in
    c.in_default.not-Known _ _ _ _ line.3

pub returns : goal.returns
returns c =
    let r = read_known _ _ _ _ _ c.self.invariant (ap (λ (t : TableState). t.lines) c.self.view_is)
    _ _ c.requires c.index.ensures in
    let line = r.1 _ c.index-2.ensures in
    let said : statement_at c.args.self.now.lines c.args.id
    ≡ Some c.in-Known.statement = cc (line.3, line.4) in
    let given : premises_at c.args.self.now.lines c.args.id
    ≡ Some c.in-Known.premises = cc (line.3, line.6) in
    record {
      statement = said;
      word = cc (line.3, line.5);
      premises = given;
      below = speaks_at _ _ _ r.2 said;
      before = premises_before _ _ _ r.2 given;
    }
