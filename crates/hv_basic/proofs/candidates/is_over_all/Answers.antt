use Rattle.std.proofs.Common.{◌∙◌, Some, ap}
use Rattle.hv_lines.specs.declared.line.Acts.TheVariants as A
use Rattle.hv_lines.proofs.Laws.{acts_law}
use Rattle.hv_basic.proofs.candidates.is_over_all.Goals as goal

pub returns-in-All : goal.returns-in-All
returns-in-All c = λ _. (
  c.in-Some.acts,
  c.in-Some.is,
  λ number. ap (λ f. f number)
      (acts_law c.args.table.now.lines c.in-Some.acts A.All c.acts.ensures.table
      (c.acts.ensures.says ∙ ap Some c.in-All.is)),
)
