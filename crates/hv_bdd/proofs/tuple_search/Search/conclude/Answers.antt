use Rattle.std.proofs.Common.{◌≤◌, ◌<◌, ℕ, List, length, sym, subst, arith}
use Rattle.smallvec.specs.SmallVec.{SmallVec}
use Rattle.std.specs.List.{All}
use Rattle.hv_bdd.specs.Working.Search.{IsDone, IsEndTuple, IsTuple, tuple_at}
use Rattle.hv_bdd.proofs.Explored.{items}
use Rattle.hv_bdd.proofs.Found.{all_tuples, end_agrees, is_past, no_state, not_over, over_budget}
use Rattle.hv_bdd.proofs.tuple_search.Search.conclude.Goals as goal

pub returns-then-len-budget : goal.returns-then-len-budget
returns-then-len-budget c =
    let e : IsDone c.args.self.now c.args.budget c.args.reached.now =
    c.requires.done in
    let len = c.len.ensures.len in
    let over : c.args.budget < length c.args.reached.now.tuples.keys = let more =
    c.if-len-budget.true in omega arith in
    over_budget c.args.self.now e.0 c.args.reached.now e.1 c.args.budget over

pub first_end-requires : goal.first_end-requires
first_end-requires c =
    let e : IsDone c.args.self.now c.args.budget c.args.reached.now =
    c.requires.done in
    subst (All (λ (t : SmallVec ℕ). IsTuple c.args.self.now t.items)) (sym c.as_slice.ensures.keys)
    (all_tuples c.args.self.now e.0 c.args.reached.now e.1)

pub returns-in-None : goal.returns-in-None
returns-in-None c =
    let e : IsDone c.args.self.now c.args.budget c.args.reached.now =
    c.requires.done in
    let len = c.len.ensures.len in
    let few : length c.args.reached.now.tuples.keys
    ≤ c.args.budget = let upto = c.if-len-budget.false in omega arith in
    let none : All (λ (t : SmallVec ℕ). IsEndTuple c.args.self.now t.items → ⊥)
    c.args.reached.now.tuples.keys =
    subst (All (λ (t : SmallVec ℕ). IsEndTuple c.args.self.now t.items → ⊥)) c.as_slice.ensures.keys
    c.in-None.ensures in (
      not_over c.args.self.now e.0 c.args.reached.now e.1 c.args.budget few e.2,
      no_state c.args.self.now e.0 c.args.reached.now e.1
          (is_past c.args.self.now e.0 c.args.reached.now e.1 c.args.budget few e.2) none,
    )

pub take_bits-requires-clause-agrees : goal.take_bits-requires-clause-agrees
take_bits-requires-clause-agrees c =
    let e : IsDone c.args.self.now c.args.budget c.args.reached.now =
    c.requires.done in
    let found = subst (λ (keys : List (SmallVec ℕ)). (c.in-Some.end < length keys)
    × IsEndTuple c.args.self.now (tuple_at (items keys) c.in-Some.end))
    c.as_slice.ensures.keys c.in-Some.ensures in
    end_agrees c.args.self.now e.0 c.args.reached.now e.1
    c.in-Some.end c.fill.new.state found.0 found.1

pub returns-in-Some : goal.returns-in-Some
returns-in-Some c =
    let e : IsDone c.args.self.now c.args.budget c.args.reached.now =
    c.requires.done in
    let len = c.len.ensures.len in
    let few : length c.args.reached.now.tuples.keys
    ≤ c.args.budget = let upto = c.if-len-budget.false in omega arith in (
      not_over c.args.self.now e.0 c.args.reached.now e.1 c.args.budget few e.2,
      c.take_bits.ensures,
    )
