use Rattle.std.proofs.Common.{subst, sym}
use Rattle.hv_lines.specs.Drafts.{IsGoodTable}
use Rattle.hv_lines.proofs.Drafting.{good_prelude}
use Rattle.hv_lines.proofs.draft.Draft.new.Goals as goal

pub returns-clause-good : goal.returns-clause-good
returns-clause-good c = subst (IsGoodTable c.args.task.now) (sym c.in_ok-table.ensures)
    (good_prelude c.args.task.now)
