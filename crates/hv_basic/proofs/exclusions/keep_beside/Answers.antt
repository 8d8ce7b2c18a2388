use Rattle.std.proofs.Common.{◌∙◌, ◌&&◌, ap, length}
use Rattle.hv_task.specs.State.{has_atom}
use Rattle.hv_basic.specs.Working.Excluded.{goes_with}
use Rattle.hv_basic.proofs.Excluding.{able_beside}
use Rattle.hv_basic.proofs.exclusions.keep_beside.Goals as goal

pub returns-then-is_fixed-clause-able : goal.returns-then-is_fixed-clause-able
returns-then-is_fixed-clause-able c =
    let companions = c.args.companions.now in
    let old = c.args.able.now in
    able_beside (length companions.all) c.args.clauses.now companions c.args.into c.args.action.now
    old c.meet_row.new.able c.args.atom c.requires.companions c.requires.below c.requires.atom
    (c.is_fixed.ensures c.if-is_fixed.true)
    (λ p. c.meet_row.ensures.met p
    ∙ ap (λ rows. has_atom old p && goes_with rows c.args.atom p) c.deref.ensures.value)
    c.requires.able
