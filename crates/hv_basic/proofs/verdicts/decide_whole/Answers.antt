use Rattle.std.proofs.Common.{◌<◌, ℕ, Bool, get_or, inr, refl, subst, sym}
use Rattle.std.proofs.lemmas.List.Elements.{Contains-get_or}
use Rattle.std.specs.List.{All}
use Rattle.hv_lines.proofs.Ready.{asked_exprs}
use Rattle.hv_lines.specs.Numbering.{expr_count}
use Rattle.hv_lines.specs.Shapes.{Askings}
use Rattle.hv_basic.specs.Cases.{lines_in, setting_in}
use Rattle.hv_basic.specs.Working.Asked.{AreOperands}
use Rattle.hv_basic.specs.Working.Views.{question_of}
use Rattle.hv_basic.proofs.Within.{alone_within}
use Rattle.hv_basic.proofs.verdicts.decide_whole.Goals as goal

pub returns-then-is_alone_within-clause-answer : goal.returns-then-is_alone_within-clause-answer
returns-then-is_alone_within-clause-answer c =
    alone_within (setting_in c.args.case.now) (lines_in c.args.case.now)
    (question_of c.args.question.now) c.requires.question (c.if-is_alone_within.ensures refl)

pub operands_of-requires : goal.operands_of-requires
operands_of-requires c =
    subst (λ (xs : Askings). All (λ a. a.0 < expr_count (lines_in c.args.case.now)) xs)
    (sym c.deref.ensures.value)
    (λ k d below.
    let a : ℕ × Bool = get_or c.args.question.now.negative.items k d in
    asked_exprs (lines_in c.args.case.now) c.expr_count-count.ensures.table
    c.requires.question.word c.requires.question.left c.requires.question.right
    (question_of c.args.question.now) c.requires.question.is a
    (inr (Contains-get_or c.args.question.now.negative.items k d below))
    )

pub decide_sets-requires-clause-negative : goal.decide_sets-requires-clause-negative
decide_sets-requires-clause-negative c =
    subst (λ (xs : Askings). AreOperands (lines_in c.args.case.now) xs c.in_ok-negative.negative)
    c.deref.ensures.value c.in_ok-negative.ensures
