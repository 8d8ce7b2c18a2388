use Rattle.hv_bdd.proofs.ShortFronts.{spelled_none}
use Rattle.hv_bdd.proofs.numbers.four_digits.Goals as goal

pub returns-clause-spelled : goal.returns-clause-spelled
returns-clause-spelled c = λ few.
    let second = c.with_pair.ensures.spelled few in
    let first = c.with_pair-first.ensures.spelled second.0 in
    second.1 (first.1 (spelled_none c.args.line.now c.requires.plain))
