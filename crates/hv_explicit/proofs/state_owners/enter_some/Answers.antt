use Rattle.std.proofs.Common.{subst}
use Rattle.hv_task.specs.State.{AreBelow}
use Rattle.hv_explicit.specs.Working.SomeStates.{state_atoms}
use Rattle.hv_explicit.specs.Working.Words.{word_atoms}
use Rattle.hv_explicit.specs.declared.sought.SomeState.{SomeState}
use Rattle.hv_explicit.proofs.Clashes.{below_list}
use Rattle.hv_explicit.proofs.state_owners.enter_some.Goals as goal

pub enter-requires : goal.enter-requires
enter-requires c =
    below_list c.args.atoms c.in-Listed.state.atoms.now
    (subst (λ (s : SomeState). AreBelow c.args.atoms (state_atoms s)) c.in-Listed.is
    c.requires)

pub enter-requires-in-Word : goal.enter-requires-in-Word
enter-requires-in-Word c =
    below_list c.args.atoms (word_atoms c.in-Word.state.bits)
    (subst (λ (s : SomeState). AreBelow c.args.atoms (state_atoms s)) c.in-Word.is
    c.requires)
