use Rattle.std.proofs.Common.{◌∙◌, ℕ, Some, ap, map, subst, sym}
use Rattle.std.specs.List.Sorted.{IsStrictlyIncreasing}
use Rattle.std.specs.Option.{IfSome}
use Rattle.hv_basic.specs.Cases.{lines_in, setting_in}
use Rattle.hv_basic.specs.Working.Deciding.{AreEnough}
use Rattle.hv_basic.specs.Working.Views.{question_of}
use Rattle.hv_basic.proofs.Querying.{all_enough}
use Rattle.hv_basic.proofs.candidates.actions_to_ask.Goals as goal

pub returns-in-Some-clause-enough : goal.returns-in-Some-clause-enough
returns-in-Some-clause-enough c =
    subst (AreEnough (setting_in c.args.case.now) (lines_in c.args.case.now)
    (question_of c.args.question.now) c.args.query.now)
    (sym (c.in_ok-actions.ensures ∙ ap (map (λ (n : ℕ). Some n)) c.as_slice.ensures.items))
    (subst (λ o. IfSome o (λ numbers. IsStrictlyIncreasing numbers
    → AreEnough (setting_in c.args.case.now)
    (lines_in c.args.case.now) (question_of c.args.question.now) c.args.query.now
    (map (λ (n : ℕ). Some n) numbers))) c.in-Some.is c.in_ok-numbers.ensures.enough
    (subst IsStrictlyIncreasing c.as_slice.ensures.items c.as_slice.ensures.rises))

pub returns-clause-enough : goal.returns-clause-enough
returns-clause-enough c =
    all_enough (setting_in c.args.case.now) (lines_in c.args.case.now)
    (question_of c.args.question.now) c.args.query.now c.in_ok-actions-2.actions.items
    c.requires.query c.in_ok-actions-2.ensures
