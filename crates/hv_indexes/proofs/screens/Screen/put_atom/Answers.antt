use Rattle.std.proofs.Common.{sym, subst}
use Rattle.hv_indexes.specs.Mates.{IsExact}
use Rattle.hv_indexes.proofs.Screened.{exact_more}
use Rattle.hv_indexes.proofs.screens.Screen.put_atom.Goals as goal

pub returns-clause-exact : goal.returns-clause-exact
returns-clause-exact c = λ clauses place less was all old.
    let screen = c.args.self.now in
    let exact = c.args.exact in
    subst (λ flags. IsExact clauses
    (record { own = screen.own; sign = screen.sign; exact = exact; flags = flags }))
    (sym c.set.ensures)
    (exact_more clauses place screen.own screen.sign screen.exact exact screen.flags c.args.atom less
    was all old)
