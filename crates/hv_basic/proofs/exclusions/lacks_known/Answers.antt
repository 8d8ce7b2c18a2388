use Rattle.std.proofs.Common.{get_or, length, subst, sym}
use Rattle.std.proofs.lemmas.List.Elements.{Contains-get_or}
use Rattle.std.specs.List.{Contains}
use Rattle.hv_task.specs.State.{AreBelow}
use Rattle.hv_basic.proofs.Excluding.{first_below, lacks_none}
use Rattle.hv_basic.proofs.exclusions.lacks_known.Goals as goal

pub returns-then-is_missing : goal.returns-then-is_missing
returns-then-is_missing c = λ _ able.
    let n = length c.args.able.now in
    let atoms = c.fixed_first-atom-items.result.now in
    let atom = get_or atoms c.loop-atom.atom-index 0 in
    let below = subst (AreBelow n) (sym c.fixed_first-atom-items.ensures)
    (first_below n c.args.value c.args.into c.args.action.now c.requires) in
    lacks_none n c.args.clauses.now c.args.value c.args.into c.args.action.now c.args.able.now atom
    (below c.loop-atom.atom-index 0 c.loop-atom-test.true)
    (subst (λ xs. Contains xs atom) c.fixed_first-atom-items.ensures
    (Contains-get_or atoms c.loop-atom.atom-index 0 c.loop-atom-test.true))
    (c.is_missing.ensures.fixed c.if-is_missing.true)
    (c.is_missing.ensures.missing c.if-is_missing.true) able
