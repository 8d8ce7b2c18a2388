use Rattle.hv_checker.proofs.OneJudgement.{judged_once}
use Rattle.hv_checker.proofs.laws.one_judgement.Goals as goal

pub returns : goal.returns
returns c = λ setting pieces a b x y. judged_once setting pieces a b x y
