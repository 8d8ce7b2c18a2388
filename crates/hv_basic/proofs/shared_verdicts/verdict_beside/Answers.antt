use Rattle.std.proofs.Common.{subst, sym}
use Rattle.std.specs.List.{All}
use Rattle.hv_basic.specs.Cases.{lines_in}
use Rattle.hv_basic.specs.Sharing.{AreItsFlags, AreItsLeaves, IsJointKept, SharedState}
use Rattle.hv_basic.proofs.shared_verdicts.verdict_beside.Goals as goal

pub returns-clause-shared : goal.returns-clause-shared
returns-clause-shared c = record {
  sides = c.verdict_of_union.ensures.kept;
  lefts = subst (λ (s : SharedState). All (AreItsLeaves (lines_in c.args.case.now)) s.lefts)
      (sym c.shared.view_is) c.requires.shared.lefts;
  joints = subst (λ (s : SharedState). All (IsJointKept (lines_in c.args.case.now)) s.joints)
      (sym c.shared.view_is) c.requires.shared.joints;
  flagged = subst (λ (s : SharedState). All (AreItsFlags (lines_in c.args.case.now)) s.flagged)
      (sym c.shared.view_is) c.requires.shared.flagged;
}
