use Rattle.std.proofs.Common.{◌∙◌, ap, subst, sym}
use Rattle.std.specs.Prelude.{IfOk}
use Rattle.hv_lines.specs.Verdicts.{IsVerdictOf}
use Rattle.hv_basic.specs.Deciding.{IsBasicOver}
use Rattle.hv_basic.specs.Cases.{lines_in, setting_in}
use Rattle.hv_basic.specs.Working.Views.{basic_of}
use Rattle.hv_basic.proofs.verdicts.decide_on.Goals as goal

pub decide_acts-requires-clause-first : goal.decide_acts-requires-clause-first
decide_acts-requires-clause-first c =
    (subst (IsBasicOver (lines_in c.args.case.now)) (sym c.basic.view_is ∙ ap basic_of c.in-Acts.is)
    c.requires.basic).0

pub decide_acts-requires-clause-second : goal.decide_acts-requires-clause-second
decide_acts-requires-clause-second c =
    (subst (IsBasicOver (lines_in c.args.case.now)) (sym c.basic.view_is ∙ ap basic_of c.in-Acts.is)
    c.requires.basic).1

pub decide_whole-requires : goal.decide_whole-requires
decide_whole-requires c = record {
  question =
      subst (IsBasicOver (lines_in c.args.case.now))
      (sym c.basic.view_is ∙ ap basic_of c.in-Sets.is) c.requires.basic;
}

pub returns-in-Acts-clause-answer : goal.returns-in-Acts-clause-answer
returns-in-Acts-clause-answer c =
    subst (λ b. IfOk c.decide_acts.result (IsVerdictOf
    (setting_in c.args.case.now) (lines_in c.args.case.now) b))
    (sym (ap basic_of c.in-Acts.is) ∙ c.basic.view_is) c.decide_acts.ensures.answer

pub returns-in-Sets-clause-answer : goal.returns-in-Sets-clause-answer
returns-in-Sets-clause-answer c =
    subst (λ b. IfOk c.decide_whole.result (IsVerdictOf
    (setting_in c.args.case.now) (lines_in c.args.case.now) b))
    (sym (ap basic_of c.in-Sets.is) ∙ c.basic.view_is) c.decide_whole.ensures.answer

pub returns-in-Two-clause-answer : goal.returns-in-Two-clause-answer
returns-in-Two-clause-answer c =
    subst (λ b. IfOk c.decide_two.result (IsVerdictOf
    (setting_in c.args.case.now) (lines_in c.args.case.now) b))
    (sym (ap basic_of c.in-Two.is) ∙ c.basic.view_is) c.decide_two.ensures.answer
