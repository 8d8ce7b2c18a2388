use Rattle.std.proofs.Common.{List, subst, sym}
use Rattle.hv_basic.specs.Working.Sharing.{AreAskedBeside}
use Rattle.hv_basic.specs.declared.signed_sets.Asking.{Asking}
use Rattle.hv_basic.proofs.shared_verdicts.ask.Goals as goal

pub ask_together-requires-2-clause-beside : goal.ask_together-requires-2-clause-beside
ask_together-requires-2-clause-beside c =
    let lines = c.args.table.now.lines in
    subst (λ (xs : List Asking). AreAskedBeside lines c.args.kept.now
    c.args.sides.now.askings.items xs) (sym c.deref-2.ensures.value)
    (c.in_ok-askings.ensures lines c.requires.right.side.negations)
