use Rattle.std.proofs.Common.{subst, sym}
use Rattle.hv_propagation.specs.Forced.{AreForced}
use Rattle.hv_formula.proofs.closure.find_out.Goals as goal

pub force-requires-clause-basis : goal.force-requires-clause-basis
force-requires-clause-basis g c = c.requires.basis

pub force-requires-clause-none : goal.force-requires-clause-none
force-requires-clause-none g c = c.requires.none

pub returns-then-not-branch-clause-never : goal.returns-then-not-branch-clause-never
returns-then-not-branch-clause-never g c = λ _. c.in_ok-force.ensures.never c.if-not-branch.true

pub returns-then-not-is_in_doubt-clause-forced : goal.returns-then-not-is_in_doubt-clause-forced
returns-then-not-is_in_doubt-clause-forced g c = λ _.
    c.in_ok-force.ensures.forced c.if-not-branch.false

pub try_values-requires-clause-basis : goal.try_values-requires-clause-basis
try_values-requires-clause-basis g c = c.requires.basis

pub try_values-requires-clause-kind : goal.try_values-requires-clause-kind
try_values-requires-clause-kind g c = c.requires.kind

pub try_values-requires-clause-forced : goal.try_values-requires-clause-forced
try_values-requires-clause-forced g c =
    subst (AreForced c.args.basis.now.atoms c.args.basis.now.bare.clauses.now)
    (sym c.deref.ensures.value) (c.in_ok-force.ensures.forced c.if-not-branch.false)

pub returns-clause-never : goal.returns-clause-never
returns-clause-never g c = c.try_values.ensures
