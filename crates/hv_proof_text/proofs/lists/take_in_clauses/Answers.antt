use Rattle.std.proofs.Common.{ap, sym}
use Rattle.hv_proof_text.specs.Working.Gathering.{clauses_from, clauses_next}
use Rattle.hv_proof_text.proofs.lists.take_in_clauses.Goals as goal

pub returns-in-Other-clause-stopped : goal.returns-in-Other-clause-stopped
returns-in-Other-clause-stopped c = λ _ tokens.
    ap (λ p. clauses_next p c.args.clauses.now.whole c.args.clauses.now.begun
    (λ a b. clauses_from a b tokens)) (sym c.in-Other.ensures)
