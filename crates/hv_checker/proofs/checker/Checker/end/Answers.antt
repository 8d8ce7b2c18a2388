use Rattle.std.proofs.Common.{◌+◌, List, refl, subst}
use Rattle.hv_lines.specs.Judged.{Concludes, LineText}
use Rattle.hv_checker.proofs.GoodLines.{good_concludes}
use Rattle.hv_checker.proofs.Checkers.{end_missing, end_refused, says_missing}
use Rattle.hv_checker.specs.Checkers.{CheckerState, SaysEnd, HasJudged}
use Rattle.hv_checker.specs.declared.piece.End.TheVariants as E
use Rattle.hv_checker.proofs.checker.Checker.end.Goals as goal

pub returns-then-concludes-clause-sound : goal.returns-then-concludes-clause-sound
returns-then-concludes-clause-sound c = λ same.
    rw (← c.self.view_is)
    (good_concludes c.self.inside.judging.setting c.self.inside.judging.lines c.table.ensures.good
    (subst Concludes c.table.ensures.lines (c.if-concludes.ensures.0 refl)))

pub returns-in-Refused-clause-judged : goal.returns-in-Refused-clause-judged
returns-in-Refused-clause-judged c =
    subst (λ (s : CheckerState). (pieces : List LineText) → HasJudged s pieces
    → SaysEnd s pieces (E.Refused c.self.inside.fed)) c.self.view_is
    (λ pieces stands. end_refused
    (record {
      setting = c.self.inside.judging.setting;
      lines = c.self.inside.judging.lines;
      fed = c.self.inside.fed;
      part = c.self.inside.part;
      stop = c.self.inside.stop;
    })
    pieces stands c.in-Refused.field-0 c.in-Refused.is)

pub returns-then-is_before_end-clause-judged : goal.returns-then-is_before_end-clause-judged
returns-then-is_before_end-clause-judged c =
    subst (λ (s : CheckerState). (pieces : List LineText) → HasJudged s pieces
    → SaysEnd s pieces (E.Refused (c.self.inside.fed + 1))) c.self.view_is
    (λ pieces stands. end_missing
    (record {
      setting = c.self.inside.judging.setting;
      lines = c.self.inside.judging.lines;
      fed = c.self.inside.fed;
      part = c.self.inside.part;
      stop = c.self.inside.stop;
    })
    pieces stands c.in-Going.is (c.is_before_end.ensures.0 c.if-is_before_end.true))

pub returns-then-is_before_end-clause-says : goal.returns-then-is_before_end-clause-says
returns-then-is_before_end-clause-says c = rw (← c.self.view_is)
    (says_missing
    (record {
      setting = c.self.inside.judging.setting;
      lines = c.self.inside.judging.lines;
      fed = c.self.inside.fed;
      part = c.self.inside.part;
      stop = c.self.inside.stop;
    })
    c.in-Going.is (c.is_before_end.ensures.0 c.if-is_before_end.true))
