use Rattle.std.proofs.Common.{◌∷◌, subst, sym}
use Rattle.hv_lines.specs.Drafts.{onto}
use Rattle.hv_lines.specs.Numbering.{IsTable}
use Rattle.hv_lines.proofs.Carried.{table_before}
use Rattle.hv_lines.proofs.Extended.{prelude_table}
use Rattle.hv_lines.proofs.draft.begun_table.Goals as goal

pub push-requires : goal.push-requires
push-requires c =
    (table_before c.next.new.self.rest.items (c.in-Some.line ∷ c.loop-line.table.lines)
    (subst (λ lines. IsTable (onto lines c.loop-line.table.lines)) c.in-Some.ensures.steps.0
    (subst IsTable (sym c.loop-line.invariant.2) prelude_table))).0
