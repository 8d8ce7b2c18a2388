use Rattle.std.proofs.Common.{◌≡◌, ◌-◌}
use Rattle.hv_grammar.specs.Parsers.{many}
use Rattle.hv_grammar.specs.Positions.{CanRead}
use Rattle.hv_grammar.proofs.Going.{Goes}
use Rattle.hv_bound.specs.PlanFile.{plan_file, plan_limits, plan_line}
use Rattle.hv_bound.proofs.Few.{AreFewSteps}
use Rattle.hv_bound.proofs.read.steps.Given as goal

abbrev pub invariant-lines : goal.invariant-lines
invariant-lines g l = record {
  goes : Goes plan_file (g.R.Source.position l.fn.reader) (many plan_line l.list)
      (g.R.Source.position l.reader);
  can : CanRead (g.R.Source.position l.reader);
  limits : (g.R.Source.position l.reader).lines.limits ≡ plan_limits;
  few : AreFewSteps l.list (g.R.Source.position l.reader).lines.earlier
      (g.R.Source.position l.reader).lines.ended;
}

abbrev pub decreases-lines : goal.decreases-lines
decreases-lines g l = plan_limits.file - (g.R.Source.position l.reader).lines.number
