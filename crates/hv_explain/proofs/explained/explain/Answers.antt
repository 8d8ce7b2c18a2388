use Rattle.std.proofs.Common.{Bool, List, subst, sym}
use Rattle.hv_explain.specs.Working.Marks.{MarkNeeded, is_line_marked}
use Rattle.hv_explain.proofs.explained.explain.Goals as goal

pub returns : goal.returns
returns c = record {
  needed = λ id. is_line_marked c.as_slice.result.now id;
  exact = subst (λ (ms : List Bool). MarkNeeded c.args.table.now.lines ms)
      (sym c.as_slice.ensures.value) c.in_ok-marks.ensures;
  says = c.in_ok-text.ensures;
}
