use Rattle.std.proofs.Common.{sym, subst}
use Rattle.hv_task.specs.Words.{AreWords}
use Rattle.hv_task.proofs.Flags.{words_of_flags}
use Rattle.hv_task.proofs.state.State.words.Goals as goal

pub returns : goal.returns
returns c =
    subst (AreWords c.args.self.now) (sym c.as_slice.ensures.value)
    (subst (λ s. AreWords s c.self.inside.words.items) c.self.view_is
    (words_of_flags c.self.inside.words.items c.self.inside.atoms c.self.invariant))
