use Rattle.std.proofs.Common.{arith, reverse}
use Rattle.std.proofs.lemmas.List.{length-reverse}
use Rattle.hv_explain.specs.Working.Marks.{is_line_marked}
use Rattle.hv_explain.proofs.Lines.{line_more}
use Rattle.hv_explain.proofs.explained.explained.Goals as goal

pub loop-place-preserved : goal.loop-place-preserved
loop-place-preserved c =
    line_more (λ id. is_line_marked c.args.marks.now id) (reverse c.args.table.now.lines)
    c.loop-place.place c.line.result.now
    c.loop-place.text c.push_explained.new.text
    (omega (arith, length-reverse c.args.table.now.lines)) c.line.ensures
    c.loop-place.invariant c.in_ok-push_explained.ensures
