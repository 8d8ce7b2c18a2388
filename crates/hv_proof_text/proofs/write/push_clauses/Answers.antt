use Rattle.hv_lines.specs.Spelling.{clause_fields}
use Rattle.hv_proof_text.proofs.Joined.{items_more}
use Rattle.hv_proof_text.proofs.write.push_clauses.Goals as goal

pub loop-place-preserved : goal.loop-place-preserved
loop-place-preserved c = record {
  same = items_more clause_fields c.args.clauses.now c.loop-place.place c.get.result.now c.args.text.now
      c.loop-place.text c.push_clause.new.text c.get.ensures c.loop-place.invariant.same
      c.in_ok-push_clause.ensures.ok;
  keeps = λ front begins. c.in_ok-push_clause.ensures.keeps front
      (c.loop-place.invariant.keeps front begins);
}
