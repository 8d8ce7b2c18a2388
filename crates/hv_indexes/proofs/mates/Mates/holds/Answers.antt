use Rattle.std.proofs.Common.{◌<◌, List, ℕ, get_or, length, subst, sym, true}
use Rattle.std.specs.List.{Contains}
use Rattle.hv_indexes.specs.Mates.{AreTried}
use Rattle.hv_indexes.proofs.Mated.{all_decided}
use Rattle.hv_indexes.proofs.Truths.{one_false}
use Rattle.hv_indexes.proofs.mates.Mates.holds.Goals as goal

pub are_true-requires-clause-clauses : goal.are_true-requires-clause-clauses
are_true-requires-clause-clauses c = c.requires.clauses

pub are_true-requires-clause-places : goal.are_true-requires-clause-places
are_true-requires-clause-places c =
    subst (λ (ns : List ℕ). (k : ℕ) → k < length ns
    → get_or ns k 0 < length c.args.clauses.now) (sym c.as_slice.ensures.value)
    c.requires.mates.others

pub returns-then-not-are_true : goal.returns-then-not-are_true
returns-then-not-are_true c =
    let found = c.if-not-are_true.ensures in
    sym (one_false c.args.state.now c.args.clauses.now found.0 found.1 found.2)

pub are_true_under-requires-clause-clauses : goal.are_true_under-requires-clause-clauses
are_true_under-requires-clause-clauses c = c.requires.clauses

pub are_true_under-requires-clause-are : goal.are_true_under-requires-clause-are
are_true_under-requires-clause-are c = c.requires.mates.negative

pub are_true_under-requires-clause-below : goal.are_true_under-requires-clause-below
are_true_under-requires-clause-below c = c.requires.below

pub are_true_under-requires-clause-state : goal.are_true_under-requires-clause-state
are_true_under-requires-clause-state c = c.requires.state

pub returns-then-not-are_true_under : goal.returns-then-not-are_true_under
returns-then-not-are_true_under c =
    let found = c.if-not-are_true_under.ensures in
    sym (one_false c.args.state.now c.args.clauses.now found.0 found.1 found.2)

pub are_true-requires-2-clause-clauses : goal.are_true-requires-2-clause-clauses
are_true-requires-2-clause-clauses c = c.requires.clauses

pub are_true-requires-2-clause-are : goal.are_true-requires-2-clause-are
are_true-requires-2-clause-are c = c.requires.mates.positive

pub returns : goal.returns
returns c =
    let clauses = c.args.clauses.now in
    let state = c.args.state.now in
    all_decided clauses c.args.self.now state c.requires.mates c.requires.clauses
    c.are_true-2.result
    (subst (λ xs. AreTried true clauses (Contains xs) state) c.as_slice.ensures.value
    c.if-not-are_true.ensures)
    c.if-not-are_true_under.ensures c.are_true-2.ensures
