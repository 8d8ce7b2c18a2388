use Rattle.hv_lines.proofs.Truth.{verdict_true}
use Rattle.hv_lines.proofs.Untrue.{verdict_false}
use Rattle.hv_basic.proofs.laws.laws_of_verdicts.Goals as goal

pub returns-clause-true_is_true : goal.returns-clause-true_is_true
returns-clause-true_is_true c = λ setting lines statement word table speaks is. verdict_true setting
    lines table statement word is

pub returns-clause-false_is_untrue : goal.returns-clause-false_is_untrue
returns-clause-false_is_untrue c = λ setting lines statement word found table speaks is claim.
    verdict_false setting lines table statement word found speaks is claim
