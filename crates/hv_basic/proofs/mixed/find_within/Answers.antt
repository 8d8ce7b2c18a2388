use Rattle.std.proofs.Common.{ap}
use Rattle.hv_lines.specs.Mixed.{listed_count}
use Rattle.hv_basic.specs.Working.Formulas.{expr_of}
use Rattle.hv_basic.proofs.Covering.{listed_within}
use Rattle.hv_basic.proofs.mixed.find_within.Goals as goal

pub returns-in_ok-found-in-States-clause-answer : goal.returns-in_ok-found-in-States-clause-answer
returns-in_ok-found-in-States-clause-answer c =
    listed_within c.args.budget c.args.left.now c.args.right.now c.in_ok-found-in-States.found
    c.cover.new.scratch.state _ (ap (λ f. listed_count (expr_of f)) c.in-States.is)
    c.requires.families c.in_ok-found-in-States.ensures.answer
