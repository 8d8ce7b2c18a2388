use Rattle.hv_checker.proofs.TwoVersions.{behind_law, first_law, second_law, unended_law}
use Rattle.hv_checker.proofs.TwoVersions.{version_law}
use Rattle.hv_checker.proofs.laws.two_versions.Goals as goal

pub returns-clause-version : goal.returns-clause-version
returns-clause-version c = version_law

pub returns-clause-first : goal.returns-clause-first
returns-clause-first c = first_law

pub returns-clause-second : goal.returns-clause-second
returns-clause-second c = λ setting body quiet judgement none all.
    second_law setting body quiet none all judgement

pub returns-clause-behind : goal.returns-clause-behind
returns-clause-behind c = λ setting body quiet rest bad judgement none all loud.
    behind_law setting body quiet none all rest bad judgement loud

pub returns-clause-unended : goal.returns-clause-unended
returns-clause-unended c = unended_law
