use Rattle.std.proofs.Common.{true, subst, sym}
use Rattle.std.specs.List.{Contains}
use Rattle.hv_indexes.specs.Mates.{AreTried}
use Rattle.hv_formula.proofs.FirstTried.{first_decided}
use Rattle.hv_indexes.proofs.Truths.{one_false}
use Rattle.hv_formula.proofs.first_states.FirstStates.hold.Goals as goal

pub returns-then-not-are_true-clause-holds : goal.returns-then-not-are_true-clause-holds
returns-then-not-are_true-clause-holds c =
    let out = c.if-not-are_true.ensures in
    sym (one_false c.args.state.now c.args.bare.now.clauses.now out.0 out.1 out.2)

pub returns-clause-holds : goal.returns-clause-holds
returns-clause-holds c =
    let clauses = c.args.bare.now.clauses.now in
    let state = c.args.state.now in
    first_decided clauses state c.args.held.now c.list.new.self.positive.items
    c.in_ok-list.ensures c.requires.clauses c.requires.state c.requires.below
    c.are_true_under.result
    (subst (λ xs. AreTried true clauses (Contains xs) state) c.as_slice-positive.ensures.value
    c.if-not-are_true.ensures)
    c.are_true_under.ensures
