use Rattle.std.proofs.Common.{◌∙◌, sym}
use Rattle.hv_bytes.proofs.ReadParts.{no_count, no_value, some_count}
use Rattle.hv_bytes.proofs.buffer.LineBuffer.read_line.Goals as goal

pub returns-else-is_some-clause-line : goal.returns-else-is_some-clause-line
returns-else-is_some-clause-line g c =
    no_count _ _ (sym c.is_some.ensures ∙ c.if-is_some.false)

pub returns-else-is_some-clause-count : goal.returns-else-is_some-clause-count
returns-else-is_some-clause-count g c =
    no_count _ _ (sym c.is_some.ensures ∙ c.if-is_some.false)

pub returns-else-is_some-clause-last : goal.returns-else-is_some-clause-last
returns-else-is_some-clause-last g c =
    no_count _ _ (sym c.is_some.ensures ∙ c.if-is_some.false)

pub returns-else-is_some-clause-fits : goal.returns-else-is_some-clause-fits
returns-else-is_some-clause-fits g c =
    no_count _ _ (sym c.is_some.ensures ∙ c.if-is_some.false)

pub returns-then-is_some-clause-end : goal.returns-then-is_some-clause-end
returns-then-is_some-clause-end g c =
    some_count _ _ (sym c.is_some.ensures ∙ c.if-is_some.true)

pub returns-in_err-keep_lent-clause-line : goal.returns-in_err-keep_lent-clause-line
returns-in_err-keep_lent-clause-line g c =
    no_value c.from_residual.result _ _ c.from_residual.ensures.1

pub returns-in_err-keep_lent-clause-passes : goal.returns-in_err-keep_lent-clause-passes
returns-in_err-keep_lent-clause-passes g c =
    no_value c.from_residual.result _ _ c.from_residual.ensures.1

pub returns-in_err-keep_lent-clause-count : goal.returns-in_err-keep_lent-clause-count
returns-in_err-keep_lent-clause-count g c =
    no_value c.from_residual.result _ _ c.from_residual.ensures.1

pub returns-in_err-keep_lent-clause-last : goal.returns-in_err-keep_lent-clause-last
returns-in_err-keep_lent-clause-last g c =
    no_value c.from_residual.result _ _ c.from_residual.ensures.1

pub returns-in_err-keep_lent-clause-fits : goal.returns-in_err-keep_lent-clause-fits
returns-in_err-keep_lent-clause-fits g c =
    no_value c.from_residual.result _ _ c.from_residual.ensures.1

pub returns-in_err-keep_lent-clause-end : goal.returns-in_err-keep_lent-clause-end
returns-in_err-keep_lent-clause-end g c =
    no_value c.from_residual.result _ _ c.from_residual.ensures.1

pub returns-in_err-count-clause-line : goal.returns-in_err-count-clause-line
returns-in_err-count-clause-line g c =
    no_value c.from_residual-in_err-count.result _ _ c.from_residual-in_err-count.ensures.1

pub returns-in_err-count-clause-passes : goal.returns-in_err-count-clause-passes
returns-in_err-count-clause-passes g c =
    no_value c.from_residual-in_err-count.result _ _ c.from_residual-in_err-count.ensures.1

pub returns-in_err-count-clause-count : goal.returns-in_err-count-clause-count
returns-in_err-count-clause-count g c =
    no_value c.from_residual-in_err-count.result _ _ c.from_residual-in_err-count.ensures.1

pub returns-in_err-count-clause-last : goal.returns-in_err-count-clause-last
returns-in_err-count-clause-last g c =
    no_value c.from_residual-in_err-count.result _ _ c.from_residual-in_err-count.ensures.1

pub returns-in_err-count-clause-fits : goal.returns-in_err-count-clause-fits
returns-in_err-count-clause-fits g c =
    no_value c.from_residual-in_err-count.result _ _ c.from_residual-in_err-count.ensures.1

pub returns-in_err-count-clause-end : goal.returns-in_err-count-clause-end
returns-in_err-count-clause-end g c =
    no_value c.from_residual-in_err-count.result _ _ c.from_residual-in_err-count.ensures.1
