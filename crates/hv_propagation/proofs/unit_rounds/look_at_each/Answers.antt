use Rattle.std.proofs.Common.{◌≡◌, ◌<◌, ◌∙◌, ◌⊎◌, [], Some, false, true, length, arith, sym, subst}
use Rattle.std.proofs.lemmas.Option.{get_or_from_slice_get}
use Rattle.std.specs.List.{All}
use Rattle.hv_sets.specs.declared.literal.Literal.{Literal}
use Rattle.hv_propagation.specs.declared.unit_rounds.RoundsEnd.{RoundsEnd}
use Rattle.hv_propagation.specs.Units.{value_of, AreFalse}
use Rattle.hv_propagation.specs.Trail.{marked}
use Rattle.hv_propagation.specs.UnitRounds.{IsAround}
use Rattle.hv_propagation.specs.Working.UnitRounds.{StepTells}
use Rattle.hv_propagation.proofs.Around.{none_around, settled_more, still_around}
use Rattle.hv_propagation.proofs.unit_rounds.look_at_each.Goals as goal
use Rattle.hv_propagation.proofs.unit_rounds.look_at_each.Goals.{in-Open, in-Settled}

pub returns-in-Broken-clause-around : goal.returns-in-Broken-clause-around
returns-in-Broken-clause-around c =
    let told = subst (λ (e : RoundsEnd). StepTells c.args.atoms c.get.result.now c.loop-place.cube
    c.look_at.new.cube e) c.in-Broken.is c.in_ok-look_at.ensures in
    subst (IsAround c.args.atoms c.args.clauses.now) (sym told.0) c.loop-place.invariant.around

pub returns-in-Broken-clause-tells : goal.returns-in-Broken-clause-tells
returns-in-Broken-clause-tells c =
    let atoms = c.args.atoms in
    let clauses = c.args.clauses.now in
    let place = c.loop-place.place in
    let cube = c.loop-place.cube in
    let told = subst (λ (e : RoundsEnd). StepTells atoms c.get.result.now cube
    c.look_at.new.cube e) c.in-Broken.is c.in_ok-look_at.ensures in
    let less : place < length clauses = omega
    (arith, c.loop-place-test.true, c.len-place-end.ensures) in
    none_around atoms clauses cube c.loop-place.invariant.around place less
    (c.requires.clauses place [] less)
    (subst (λ x. AreFalse [] x (marked atoms cube))
    (sym (get_or_from_slice_get clauses place c.get.result.now [] c.get.ensures)) told.1)

pub loop-place-preserved : goal.loop-place-preserved
loop-place-preserved c =
    let atoms = c.args.atoms in
    let clauses = c.args.clauses.now in
    let place = c.loop-place.place in
    let clause = c.get.result.now in
    let cube = c.loop-place.cube in
    let new = c.look_at.new.cube in
    let known = c.loop-place.invariant in
    let less : place < length clauses = omega
    (arith, c.loop-place-test.true, c.len-place-end.ensures) in
    elim c.match-branch-2.branch [
      | in-Settled w ↦
          let told = subst (λ (e : RoundsEnd). StepTells atoms clause cube new e)
          w.in-Settled.is c.in_ok-look_at.ensures in
          record {
            around = subst (IsAround atoms clauses) (sym told.0) known.around;
            settled = λ still. settled_more atoms clauses cube new place clause c.get.ensures
                told.0 told.1 (known.settled (sym w.moved-is ∙ still));
          }
      | in-Open w ↦
          let told = subst (λ (e : RoundsEnd). StepTells atoms clause cube new e)
          w.in-Open.is c.in_ok-look_at.ensures in
          record {
            around = still_around atoms clauses cube known.around place less
                (c.requires.clauses place [] less) told.0
                (subst (λ x. All (λ (k : Literal). (k ≡ told.0)
                ⊎ (value_of [] (marked atoms cube) k ≡ Some false)) x)
                (sym (get_or_from_slice_get clauses place clause [] c.get.ensures)) told.2)
                new told.3;
            settled = λ still. let f : true ≡ false = sym w.moved-is ∙ still in absurd cc;
          }
    ]

pub returns-clause-tells : goal.returns-clause-tells
returns-clause-tells c = λ k d less.
    c.loop-place.invariant.settled c.if-moved.false k d
    (omega (arith, less, c.loop-place-test.false, c.len-place-end.ensures))
