use Rattle.std.proofs.Common.{◌≡◌, [], subst, sym}
use Rattle.std.proofs.lemmas.Option.{get_or_from_slice_get}
use Rattle.std.specs.List.{All, Contains}
use Rattle.hv_indexes.specs.Implied.{IsEither}
use Rattle.hv_indexes.specs.Mates.{IsScreened}
use Rattle.hv_indexes.specs.Places.{clause_at}
use Rattle.hv_indexes.proofs.Screened.{one_sign}
use Rattle.hv_indexes.proofs.screens.Screen.put_at.Goals as goal

pub returns-then-other-self-clause-here : goal.returns-then-other-self-clause-here
returns-then-other-self-clause-here c = λ put.
    let clause = clause_at c.args.clauses.now c.args.place in
    let pair = c.in-Some.ensures c.args.clauses.now c.requires.standing in
    c.put_atom.ensures.here put clause
    (subst (λ b. Contains clause (record { atom = c.in-Some.other.atom; positive = b }))
    (one_sign c.in-Some.other.positive c.args.self.now.sign c.if-other-self.true) pair.has_second)

pub returns-then-other-self-clause-exact : goal.returns-then-other-self-clause-exact
returns-then-other-self-clause-exact c = λ old.
    let clause = clause_at c.args.clauses.now c.args.place in
    let pair = c.in-Some.ensures c.args.clauses.now c.requires.standing in
    let other = c.in-Some.other in
    c.put_atom.ensures.exact c.args.clauses.now c.args.place c.requires.place
    c.are_one-exact.ensures.holds
    (λ on. subst (λ b. All (IsEither c.args.self.now.own
    (record { atom = other.atom; positive = b })) clause)
    (one_sign other.positive c.args.self.now.sign c.if-other-self.true)
    (subst (λ own. All (IsEither own other) clause) (c.are_one-exact.ensures.one on) pair.only))
    old

pub returns-clause-here : goal.returns-clause-here
returns-clause-here c = λ put.
    let here : clause_at c.args.clauses.now c.args.place ≡ c.get.result.now =
    get_or_from_slice_get c.args.clauses.now c.args.place c.get.result.now [] c.get.ensures in
    subst (λ ls. IsScreened c.put.new.self ls) (sym here) (c.put.ensures.here put)

pub returns-clause-exact : goal.returns-clause-exact
returns-clause-exact c = λ old.
    let here : clause_at c.args.clauses.now c.args.place ≡ c.get.result.now =
    get_or_from_slice_get c.args.clauses.now c.args.place c.get.result.now [] c.get.ensures in
    c.put.ensures.exact c.args.clauses.now c.args.place c.requires.place here old
