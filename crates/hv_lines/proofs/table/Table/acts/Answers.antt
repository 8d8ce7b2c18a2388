-- The place of the identifier is that of its line.
use Rattle.std.proofs.Common.{◌≡◌, Some, ap, rules}
use Rattle.hv_lines.specs.Numbering.{acts_at}
use Rattle.hv_lines.proofs.Laws.{acts_refer, acts_refer_below}
use Rattle.hv_lines.proofs.Indexed.{read_acts}
use Rattle.hv_lines.specs.TableState.{TableState}
use Rattle.hv_lines.proofs.table.Table.acts.Goals as goal

pub index-requires-2 : goal.index-requires-2
index-requires-2 c =
    let r = read_acts _ _ _ _ _ c.self.invariant (ap (λ (t : TableState). t.lines) c.self.view_is) _
    _ c.requires c.index.ensures in
    search (rules, r.0)

pub unreachable-requires : goal.unreachable-requires
unreachable-requires c =
    let r = read_acts _ _ _ _ _ c.self.invariant (ap (λ (t : TableState). t.lines) c.self.view_is) _
    _ c.requires c.index.ensures in
    let line = r.1 _ c.index-2.ensures in
    c.in_default.not-Acts _ _ line.1

pub returns : goal.returns
returns c =
    let r = read_acts _ _ _ _ _ c.self.invariant (ap (λ (t : TableState). t.lines) c.self.view_is) _
    _ c.requires c.index.ensures in
    let line = r.1 _ c.index-2.ensures in
    let said : acts_at c.args.self.now.lines c.args.id
    ≡ Some c.in-Acts.acts = cc (line.1, line.2) in
    record {
      says = said;
      before = acts_refer _ _ _ r.2 said;
      below = acts_refer_below _ _ _ r.2
          said;
      table = r.2;
    }
