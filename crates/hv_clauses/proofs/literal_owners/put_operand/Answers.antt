use Rattle.std.proofs.Common.{subst, sym}
use Rattle.hv_indexes.specs.Occurrences.{AreOccurrences, lent_rows}
use Rattle.hv_clauses.proofs.Owned.{puts_owner}
use Rattle.hv_clauses.proofs.literal_owners.put_operand.Goals as goal

pub returns : goal.returns
returns g c =
    puts_owner c.args.problem.now c.args.operand c.in-Set.number c.in-Set.is c.args.sign
    c.set.result.now.clauses c.set.ensures.clauses (lent_rows c.signed-signed.result)
    (subst (AreOccurrences c.args.sign c.set.result.now.clauses) (sym c.signed-signed.ensures)
    (c.occurs.ensures c.args.sign)) c.args.place c.args.codes.now.items
    c.put_heads.new.codes.items c.in_ok-put_heads.ensures
