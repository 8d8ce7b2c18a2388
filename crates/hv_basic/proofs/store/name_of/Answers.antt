use Rattle.std.proofs.Common.{◌∙◌, ap, sym}
use Rattle.hv_lines.specs.Queries.{named_by}
use Rattle.hv_basic.proofs.store.name_of.Goals as goal

pub returns-in-Constant : goal.returns-in-Constant
returns-in-Constant c counts =
    c.constant_of.ensures counts ∙ ap (named_by counts) (sym c.in-Constant.is)
