use Rattle.std.proofs.Common.{refl}
use Rattle.std.specs.Cmp.{booleans_Decides}
use Rattle.hv_basic.proofs.Telling.{family_below, own_at}
use Rattle.hv_basic.proofs.told.has_own.Goals as goal

pub is_own-requires-clause-set : goal.is_own-requires-clause-set
is_own-requires-clause-set c =
    family_below c.args.table.now.lines c.requires.table c.args.askings.now c.requires.families
    c.loop-asking.asking-index _ c.loop-asking-test.true

pub returns-then-is_own : goal.returns-then-is_own
returns-then-is_own c = λ _.
    own_at c.args.table.now.lines c.args.kept.now c.args.askings.now c.loop-asking.asking-index _
    c.loop-asking-test.true ((booleans_Decides _ _).0 c.if-asking-kept.true)
    (c.if-is_own.ensures refl)
