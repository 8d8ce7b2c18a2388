use Rattle.std.proofs.Common.{◌∙◌, ap, length}
use Rattle.hv_command.proofs.Sampled.{told_line}
use Rattle.hv_command.proofs.sampling.push_proof.Goals as goal

pub returns : goal.returns
returns c = λ clauses lines_are.
    told_line c.args.kind.now c.args.text.now c.push_told.new.text c.as_bytes.result.now
    c.args.draft.now.lines c.clause_count.result c.len.result
    (c.as_bytes.ensures ∙ c.in_ok-judged.ensures.text_is)
    (c.len.ensures.length ∙ ap length c.table-2.ensures.lines)
    c.in_ok-push_told.ensures clauses (c.clause_count.ensures clauses
    (c.table.ensures.lines ∙ lines_are)) lines_are
