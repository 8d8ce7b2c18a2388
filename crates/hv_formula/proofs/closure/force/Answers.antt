use Rattle.std.proofs.Common.{◌≡◌, ◌∙◌, ◌++◌, [], ap, false, sym, subst, true}
use Rattle.hv_propagation.specs.declared.unit_rounds.RoundsEnd.{RoundsEnd}
use Rattle.hv_propagation.specs.Forced.{AreForced}
use Rattle.hv_propagation.specs.Trail.{marked}
use Rattle.hv_propagation.specs.UnitRounds.{IsAround, RoundsTell}
use Rattle.hv_propagation.specs.Units.{AreSettled}
use Rattle.hv_propagation.proofs.Around.{forced_around}
use Rattle.hv_formula.proofs.closure.force.Goals as goal

pub returns-in-Settled-clause-forced : goal.returns-in-Settled-clause-forced
returns-in-Settled-clause-forced c = λ _.
    let atoms = c.args.basis.now.atoms in
    let clauses = c.args.basis.now.bare.clauses.now in
    let cube = c.as_slice.result.now in
    let same : cube ≡ c.run.new.cube = c.as_slice.ensures.items in
    let told = subst (λ (e : RoundsEnd). RoundsTell atoms clauses c.run.new.cube e)
    c.in-Settled.is c.in_ok-run.ensures.tells in
    subst (AreForced atoms clauses)
    (sym (c.in_ok-extend_from_slice-in-Settled.ensures.items
    ∙ ap (λ xs. xs ++ cube) c.requires.none))
    (forced_around atoms clauses cube c.as_slice.ensures.rises
    (subst (IsAround atoms clauses) (sym same) c.in_ok-run.ensures.around)
    (subst (λ ls. AreSettled [] clauses (marked atoms ls)) (sym same) told))

pub run-requires-clause-clauses : goal.run-requires-clause-clauses
run-requires-clause-clauses c = c.requires.basis.clauses

pub returns-in-Settled-clause-never : goal.returns-in-Settled-clause-never
returns-in-Settled-clause-never c = λ is. absurd (let f : true ≡ false = is in cc)

pub returns-in-Broken-clause-forced : goal.returns-in-Broken-clause-forced
returns-in-Broken-clause-forced c = λ is. absurd (let f : false ≡ true = is in cc)

pub force_in_rows-requires-clause-basis : goal.force_in_rows-requires-clause-basis
force_in_rows-requires-clause-basis c = c.requires.basis

pub force_in_rows-requires-clause-none : goal.force_in_rows-requires-clause-none
force_in_rows-requires-clause-none c = c.requires.none

pub returns-clause-forced : goal.returns-clause-forced
returns-clause-forced c = c.force_in_rows.ensures.forced

pub returns-clause-never : goal.returns-clause-never
returns-clause-never c = c.force_in_rows.ensures.never
