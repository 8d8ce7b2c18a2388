use Rattle.std.proofs.Common.{◌<◌, arith, subst}
use Rattle.hv_bdd.specs.Working.Ordered.{order_of}
use Rattle.hv_bdd.specs.Working.Search.{TupleSearch}
use Rattle.hv_bdd.proofs.tuple_search.Search.atom_at.Goals as goal

pub returns-clause-within : goal.returns-clause-within
returns-clause-within c =
    subst (λ (s : TupleSearch). c.args.place < s.setting.list.atoms
    → c.atom_at.result < s.setting.list.atoms) c.self.view_is (λ less.
    let at = (order_of c.self.inside.nodes.now c.self.invariant.0.reduced).atom_in c.args.place less
    in
    let is = c.atom_at.ensures in omega arith) c.requires
