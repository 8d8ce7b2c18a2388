use Rattle.std.proofs.Common.{ℕ, ◌<◌, subst}
use Rattle.std.specs.Global.{Vec}
use Rattle.std.specs.Prelude.{IfSome}
use Rattle.hv_task.specs.Atoms.{IsNext}
use Rattle.hv_task.specs.State.{names_atom}
use Rattle.hv_bdd.specs.Working.Ordered.{order_of}
use Rattle.hv_bdd.specs.Working.Search.{ListsPlaces, TupleSearch}
use Rattle.hv_bdd.proofs.Enclosed.{place_within}
use Rattle.hv_bdd.proofs.tuple_search.Search.next_of_goal.Goals as goal

pub returns-in-Some-clause-within : goal.returns-in-Some-clause-within
returns-in-Some-clause-within c =
    let list = c.self.inside.nodes.now in
    let held = c.self.inside.goal.held in
    let lists = subst (λ o. IfSome o (λ (v : Vec ℕ). ListsPlaces list held v.items)) c.in-Some.is
    c.self.invariant.1 in
    subst (λ (s : TupleSearch). IfSome c.next_listed.result (λ v. v < s.setting.list.atoms))
    c.self.view_is
    (place_within list (order_of list c.self.invariant.0.reduced) held c.self.invariant.2
    c.in-Some.places.items lists c.args.from c.next_listed.result
    (subst (λ xs. IsNext (names_atom xs) c.args.from c.next_listed.result) c.as_slice.ensures.value
    c.next_listed.ensures))
