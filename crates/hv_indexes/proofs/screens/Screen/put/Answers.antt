use Rattle.std.proofs.Common.{◌≡◌, false, sym, subst, true}
use Rattle.std.specs.List.{All}
use Rattle.hv_indexes.specs.Implied.{IsEither}
use Rattle.hv_indexes.proofs.screens.Screen.put.Goals as goal

pub returns-in-None-clause-here : goal.returns-in-None-clause-here
returns-in-None-clause-here c = λ is. absurd (let f : false ≡ true = is in cc)

pub returns-in-None-clause-keeps : goal.returns-in-None-clause-keeps
returns-in-None-clause-keeps c = λ other has. has

pub returns-in-Some-clause-here : goal.returns-in-Some-clause-here
returns-in-Some-clause-here c = λ put.
    c.put_atom.ensures.here put c.args.clause.now c.in-Some.ensures

pub returns-in-Some-clause-keeps : goal.returns-in-Some-clause-keeps
returns-in-Some-clause-keeps c = c.put_atom.ensures.keeps

pub returns-in-Some-clause-exact : goal.returns-in-Some-clause-exact
returns-in-Some-clause-exact c = λ clauses place less here old.
    let screen = c.args.self.now in
    c.put_atom.ensures.exact clauses place less c.are_all-exact.ensures.holds
    (λ on. subst (λ ls. All (IsEither screen.own
    (record { atom = c.in-Some.atom; positive = screen.sign })) ls) (sym here)
    (c.are_all-exact.ensures.all on))
    old
