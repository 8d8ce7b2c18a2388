use Rattle.std.proofs.Common.{◌≡◌, ◌∙◌, ◌<◌, true, arith, get_or, length, subst, sym}
use Rattle.std.proofs.lemmas.List.{get_or_default}
use Rattle.hv_sets.specs.Truth.{in_clause}
use Rattle.hv_indexes.specs.Places.{clause_at}
use Rattle.hv_indexes.proofs.Standings.{inside_at}
use Rattle.hv_formula.proofs.first_states.are_true_at.Goals as goal

pub returns-then-not-is_true_at : goal.returns-then-not-is_true_at
returns-then-not-is_true_at c = (
  get_or c.args.standing.now.places.now c.loop-index.index 0,
  inside_at c.args.clauses.now c.args.standing.now c.requires.standing c.loop-index.index
      c.loop-index-test.true,
  sym c.if-not-is_true_at.ensures,
)

pub returns : goal.returns
returns c = λ x has.
    let end = c.loop-index-test.false in
    let within : has.0 < length c.args.standing.now.places.now = has.1 in
    subst (λ n. in_clause (clause_at c.args.clauses.now n) c.args.state.now ≡ true)
    (get_or_default c.args.standing.now.places.now has.0 0 x within ∙ has.2)
    (c.loop-index.invariant has.0 (omega arith))
