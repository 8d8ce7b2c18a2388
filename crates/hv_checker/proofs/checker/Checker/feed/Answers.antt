use Rattle.std.proofs.Common.{◌≡◌, ◌+◌, ◌∙◌, ap, subst, sym, true}
use Rattle.hv_lines.specs.Judged.{LineText}
use Rattle.hv_lines.specs.Versions.{is_mark, part_after}
use Rattle.hv_checker.proofs.Checkers.{feeds_on, stands_fed, stands_stopped}
use Rattle.hv_checker.specs.PieceVerdicts.{IsFeedAnswer}
use Rattle.hv_checker.specs.Checkers.{CheckerState}
use Rattle.hv_checker.specs.Stopping.{stop_after}
use Rattle.hv_checker.specs.Texts.{text_of}
use Rattle.hv_checker.specs.Working.PieceVerdicts.{IsPlainFeedAnswer}
use Rattle.hv_checker.specs.declared.piece.Fed.TheVariants as F
use Rattle.hv_checker.proofs.checker.Checker.feed.Goals as goal

pub returns-then-not-is_going-clause-stands : goal.returns-then-not-is_going-clause-stands
returns-then-not-is_going-clause-stands c = λ pieces stands.
    stands_stopped c.args.self.now c.args.self.now.stop pieces (text_of c.args.piece)
    (λ going.
    let yes : c.is_going.result ≡ true = c.is_going.ensures.1
    (ap (λ (s : CheckerState). s.stop) c.self.view_is ∙ going) in
    absurd (cc))
    stands

pub returns-then-is_mark-clause-stands : goal.returns-then-is_mark-clause-stands
returns-then-is_mark-clause-stands c = λ pieces stands.
    let going = c.is_going.ensures.0 c.if-not-is_going.false in
    stands_fed c.args.self.now _ pieces (text_of c.args.piece) F.Marked
    (sym (ap (λ (s : CheckerState). s.stop) c.self.view_is) ∙ going)
    (ap (λ (s : CheckerState). s.setting) c.self.view_is)
    (ap (λ (s : CheckerState). s.fed + 1) c.self.view_is)
    (c.part_after-self-inside.ensures
    ∙ ap (λ (s : CheckerState). part_after s.part (text_of c.args.piece)) c.self.view_is)
    going (
      sym (ap (λ (s : CheckerState). is_mark s.part (text_of c.args.piece)) c.self.view_is)
          ∙ (sym c.is_mark.ensures ∙ c.if-is_mark.true),
      ap (λ (s : CheckerState). s.lines) c.self.view_is,
    )
    stands

pub returns-in-Ok-clause-answers : goal.returns-in-Ok-clause-answers
returns-in-Ok-clause-answers c = λ going.
    subst (λ (s : CheckerState). IsFeedAnswer s.setting s.part s.lines c.accept.new.self.lines
    (text_of c.args.piece) c.in-Ok.fed) c.self.view_is
    (feeds_on c.self.inside.judging.setting c.self.inside.part c.self.inside.judging.lines
    c.accept.new.self.lines (text_of c.args.piece) c.in-Ok.fed
    (sym c.is_mark.ensures ∙ c.if-is_mark.false)
    (subst (λ (p : LineText). IsPlainFeedAnswer c.self.inside.judging.setting
    c.self.inside.judging.lines
    c.accept.new.self.lines p c.in-Ok.fed) c.judged_as.ensures c.in-Ok.ensures.accepted))

pub returns-in-Ok-clause-stands : goal.returns-in-Ok-clause-stands
returns-in-Ok-clause-stands c = λ pieces stands.
    let going = sym (ap (λ (s : CheckerState). s.stop) c.self.view_is)
    ∙ c.is_going.ensures.0 c.if-not-is_going.false in
    stands_fed c.args.self.now _ pieces (text_of c.args.piece) c.in-Ok.fed going
    (c.in-Ok.ensures.setting ∙ ap (λ (s : CheckerState). s.setting) c.self.view_is)
    (ap (λ (s : CheckerState). s.fed + 1) c.self.view_is)
    (c.part_after-self-inside.ensures
    ∙ ap (λ (s : CheckerState). part_after s.part (text_of c.args.piece)) c.self.view_is)
    (c.in-Ok.ensures.stop ∙ ap (λ s. stop_after s c.in-Ok.fed)
    (c.is_going.ensures.0 c.if-not-is_going.false)) (returns-in-Ok-clause-answers c going) stands

pub returns-in-Ok-clause-stop : goal.returns-in-Ok-clause-stop
returns-in-Ok-clause-stop c =
    c.in-Ok.ensures.stop ∙ ap (λ (s : CheckerState). stop_after s.stop c.in-Ok.fed) c.self.view_is
