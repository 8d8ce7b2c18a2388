use Rattle.std.proofs.Common.{ap, sym}
use Rattle.hv_proof_text.specs.Working.Gathering.{states_from, states_next}
use Rattle.hv_proof_text.proofs.lists.take_in_states.Goals as goal

pub returns-in-Other-clause-stopped : goal.returns-in-Other-clause-stopped
returns-in-Other-clause-stopped c = λ _ tokens.
    ap (λ p. states_next p c.args.states.now.whole c.args.states.now.begun
    (λ a s l. states_from a s l tokens)) (sym c.in-Other.ensures)
