use Rattle.std.proofs.Common.{◌≡◌, ℕ, ◌<◌, length, refl, ap, arith, below_more}
use Rattle.hv_propagation.specs.Chase.{IsKept}
use Rattle.hv_indexes.specs.Places.{clause_at}
use Rattle.hv_propagation.proofs.Chasing.{clause_below, clause_followed, clause_kept}
use Rattle.hv_propagation.specs.Working.Laws.{kept_on}
use Rattle.hv_propagation.proofs.Chasing.{longer}
use Rattle.hv_propagation.proofs.chase.start.Goals as goal

-- a place below the end of the loop
at_place : {i n m : ℕ} → i < n → n ≡ m → i < m
at_place less e = omega (arith, less, e)

pub step-requires : goal.step-requires
step-requires c =
    clause_below c.args.effect.now c.args.clauses.now c.loop-place.place c.get.result.now
    (at_place c.loop-place-test.true c.len-place-end.ensures) c.get.ensures
    _ _ c.requires (ap length c.loop-place.invariant.followed.roots)

pub returns-then-not-step-clause-followed : goal.returns-then-not-step-clause-followed
returns-then-not-step-clause-followed c =
    clause_followed c.args.effect.now c.args.clauses.now c.loop-place.place c.get.result.now
    (at_place c.loop-place-test.true c.len-place-end.ensures) c.get.ensures _ _ _ _
    c.loop-place.invariant.followed c.if-not-step.ensures.followed

pub loop-place-preserved : goal.loop-place-preserved
loop-place-preserved c =
    let e = c.args.effect.now in
    let clauses = c.args.clauses.now in
    let old = c.loop-place.marks in
    let new = c.step.new.marks in
    let from = length c.args.marks.now.trail in
    let step = c.if-not-step.ensures.followed in
    record {
      followed = clause_followed e clauses c.loop-place.place c.get.result.now
          (at_place c.loop-place-test.true c.len-place-end.ensures) c.get.ensures _ _ _ _
          c.loop-place.invariant.followed step;
      kept = below_more (λ place. IsKept e (clause_at clauses place) new from) c.loop-place.place
          (λ place less. kept_on e (clause_at clauses place) old new from step.roots step.more
          (longer _ _ _ _ c.loop-place.invariant.followed)
          (c.loop-place.invariant.kept place less))
          (clause_kept e clauses c.loop-place.place c.get.result.now
          (at_place c.loop-place-test.true c.len-place-end.ensures) c.get.ensures new from
          (c.if-not-step.ensures.settled refl));
    }
