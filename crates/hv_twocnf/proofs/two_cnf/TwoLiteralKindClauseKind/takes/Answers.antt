use Rattle.std.proofs.Common.{arith, refl}
use Rattle.hv_twocnf.proofs.Pairs.{two_of_few}
use Rattle.hv_twocnf.proofs.two_cnf.TwoLiteralKindClauseKind.takes.Goals as goal

pub returns-then-clause-le2 : goal.returns-then-clause-le2
returns-then-clause-le2 g c = (
  λ _. two_of_few c.args.clause.now (omega arith),
  λ _. refl,
)
