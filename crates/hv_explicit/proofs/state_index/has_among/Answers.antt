use Rattle.std.proofs.Common.{◌≡◌, [], true, false, arith, below_more, get_or, refl}
use Rattle.std.proofs.lemmas.Bool.{both_ways}
use Rattle.hv_explicit.specs.Working.Codes.{IsSame}
use Rattle.hv_explicit.proofs.state_index.has_among.Goals as goal

pub loop-place-preserved : goal.loop-place-preserved
loop-place-preserved g c =
    below_more (λ k. IsSame (g.A.Sought.has c.args.held.now) (get_or c.args.states.now k []) → ⊥)
    c.loop-place.place c.loop-place.invariant
    (λ same. both_ways c.is_at.result c.if-is_at.false (c.is_at.ensures.1 same))

pub returns-then-is_at : goal.returns-then-is_at
returns-then-is_at g c = (
  λ _. (c.loop-place.place, (let within = c.loop-place-test.true in omega arith), c.is_at.ensures.0 c.if-is_at.true),
  λ _. refl,
)

pub returns : goal.returns
returns g c = (
  λ e. let f : false ≡ true = e in absurd cc,
  λ found. absurd (c.loop-place.invariant found.0
      (let end = c.loop-place-test.false in omega (arith, found.1)) found.2),
)
