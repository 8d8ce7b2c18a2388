use Rattle.std.proofs.Common.{get_or, length, subst, sym}
use Rattle.std.proofs.lemmas.List.Elements.{Contains-get_or}
use Rattle.std.specs.List.{Contains}
use Rattle.hv_task.specs.State.{AreBelow}
use Rattle.hv_basic.proofs.Excluding.{first_below}
use Rattle.hv_basic.proofs.exclusions.keep_companions.Goals as goal

pub keep_beside-requires-clause-atom : goal.keep_beside-requires-clause-atom
keep_beside-requires-clause-atom c =
    let atoms = c.fixed_first-atom-items.result.now in
    subst (λ xs. Contains xs (get_or atoms c.loop-atom.atom-index 0))
    c.fixed_first-atom-items.ensures
    (Contains-get_or atoms c.loop-atom.atom-index 0 c.loop-atom-test.true)

pub keep_beside-requires-clause-below : goal.keep_beside-requires-clause-below
keep_beside-requires-clause-below c =
    let n = length c.args.companions.now.all in
    let below = subst (AreBelow n) (sym c.fixed_first-atom-items.ensures)
    (first_below n c.args.companions.now.value c.args.into c.args.action.now c.requires.over) in
    below c.loop-atom.atom-index 0 c.loop-atom-test.true
