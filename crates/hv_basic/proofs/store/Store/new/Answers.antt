use Rattle.std.proofs.Common.{refl, rules}
use Rattle.hv_basic.proofs.Growing.{none_yet}
use Rattle.hv_basic.proofs.store.Store.new.Goals as goal

pub returns-clause-none : goal.returns-clause-none
returns-clause-none c task = none_yet task _ c.new.ensures c.new-2.ensures c.new-3.ensures
    c.new-4.ensures (search rules) refl refl
