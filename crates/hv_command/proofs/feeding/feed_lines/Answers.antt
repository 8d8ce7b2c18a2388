use Rattle.std.proofs.Common.{◌≤◌, ap, refl, sym, subst, ◌∙◌, length, arith, rules}
use Rattle.hv_bytes.specs.FirstLine.{BeginsLong, FitsLimits, TakesLine}
use Rattle.hv_bytes.specs.States.{LinesState, coming_of}
use Rattle.hv_bytes.specs.declared.cutting.Limits.{Limits}
use Rattle.hv_checker.specs.Stopping.{stop_after}
use Rattle.hv_command.proofs.FedFiles.{fed_all, fed_line, fed_long, fed_none, fed_refused}
use Rattle.hv_command.proofs.FedFiles.{goes_on}
use Rattle.hv_command.proofs.feeding.feed_lines.Goals as goal

pub returns-in-Refused-clause-fed : goal.returns-in-Refused-clause-fed
returns-in-Refused-clause-fed g c =
    let before = coming_of c.feeding.lines (g.S.Shelf.left c.feeding.shelf) in
    let after = coming_of c.next.new.self (g.S.Shelf.left c.next.new.shelf) in
    let line = c.line.result.now in
    let file = g.S.Shelf.left c.args.shelf.now in
    let fed = fed_line file before after line c.feeding.lines.earlier c.next.new.self.earlier
    c.feeding.lines.number
    c.feeding.checker c.feed.new.self c.feeding.invariant.feeding
    (subst (λ l. TakesLine before after l) (sym c.line.ensures) (c.in-Ok-Line.ensures.line (cc)))
    c.in-Ok-Line.ensures.earlier
    (subst (λ (limits : Limits). FitsLimits limits.line limits.file c.feeding.lines.earlier
    (length line)) c.feeding.invariant.limits
    (subst (λ l. FitsLimits c.feeding.lines.limits.line c.feeding.lines.limits.file
    c.feeding.lines.earlier (length l)) (sym c.line.ensures) (c.in-Ok-Line.ensures.fits (cc))))
    c.in_ok-feed-in-Ok-Line.ensures.stands in
    fed_refused file after c.next.new.self.earlier c.feed.new.self c.in-Refused.field-0 fed
    (c.in_ok-feed-in-Ok-Line.ensures.stop ∙ ap (stop_after c.feeding.checker.stop) c.in-Refused.is)

pub feeding-preserved : goal.feeding-preserved
feeding-preserved g c =
    let before = coming_of c.feeding.lines (g.S.Shelf.left c.feeding.shelf) in
    let after = coming_of c.next.new.self (g.S.Shelf.left c.next.new.shelf) in
    let line = c.line.result.now in
    let file = g.S.Shelf.left c.args.shelf.now in
    let fed = fed_line file before after line c.feeding.lines.earlier c.next.new.self.earlier
    c.feeding.lines.number
    c.feeding.checker c.feed.new.self c.feeding.invariant.feeding
    (subst (λ l. TakesLine before after l) (sym c.line.ensures) (c.in-Ok-Line.ensures.line (cc)))
    c.in-Ok-Line.ensures.earlier
    (subst (λ (limits : Limits). FitsLimits limits.line limits.file c.feeding.lines.earlier
    (length line)) c.feeding.invariant.limits
    (subst (λ l. FitsLimits c.feeding.lines.limits.line c.feeding.lines.limits.file
    c.feeding.lines.earlier (length l)) (sym c.line.ensures) (c.in-Ok-Line.ensures.fits (cc))))
    c.in_ok-feed-in-Ok-Line.ensures.stands in
    let limits = c.in-Ok-Line.ensures.limits ∙ c.feeding.invariant.limits in
    record {
      feeding = record {
        going =
            c.in_ok-feed-in-Ok-Line.ensures.stop
            ∙ (goes_on c.feeding.checker.stop c.in_ok-feed-in-Ok-Line.field-0
            c.in_default.not-Refused
            ∙ c.feeding.invariant.feeding.going);
        few = omega (
          arith,
          c.in_ok-feed-in-Ok-Line.ensures.few,
          c.feeding.invariant.feeding.few,
          c.in-Ok-Line.ensures.number (cc),
        );
        given = fed.given;
        gave = fed.gave;
        stands = fed.stands;
      };
      setting = c.in_ok-feed-in-Ok-Line.ensures.same ∙ c.feeding.invariant.setting;
      live = (c.in-Ok-Line.ensures.live).1 (search rules);
      limits = limits;
      few = subst (λ (l : Limits). c.next.new.self.number ≤ l.file) limits
          c.in-Ok-Line.ensures.within;
      held = c.in-Ok-Line.ensures.held ∙ c.feeding.invariant.held;
      allows = c.in-Ok-Line.ensures.allows ∙ c.feeding.invariant.allows;
      later = omega (arith, c.feeding.invariant.later, c.in-Ok-Line.ensures.later);
    }

pub returns-in-Err-Long-clause-fed : goal.returns-in-Err-Long-clause-fed
returns-in-Err-Long-clause-fed g c =
    let coming = coming_of c.feeding.lines (g.S.Shelf.left c.feeding.shelf) in
    let file = g.S.Shelf.left c.args.shelf.now in
    fed_long file coming c.feeding.lines.earlier c.feeding.lines.number c.feeding.checker
    c.feed-in-Err-Long.new.self c.feeding.invariant.feeding
    (subst (λ (limits : Limits). BeginsLong coming limits.line limits.file c.feeding.lines.earlier)
    c.feeding.invariant.limits (c.in-Err-Long.ensures.long (cc)))
    c.in_ok-feed-in-Err-Long.ensures.stands

pub returns-in-Ok-End-clause-fed : goal.returns-in-Ok-End-clause-fed
returns-in-Ok-End-clause-fed g c =
    fed_all (g.S.Shelf.left c.args.shelf.now)
    (coming_of c.feeding.lines (g.S.Shelf.left c.feeding.shelf)) c.feeding.lines.earlier
    c.feeding.lines.number c.feeding.checker c.feeding.invariant.feeding
    (c.in-Ok-End.ensures.end (cc))

pub feeding-init : goal.feeding-init
feeding-init g c =
    let limits = ap (λ (l : LinesState). l.limits) c.requires.fresh in
    let number = ap (λ (l : LinesState). l.number) c.requires.fresh in
    record {
      feeding = fed_none (g.S.Shelf.left c.args.shelf.now) c.args.lines.now c.args.checker.now
          c.requires.fresh c.requires.unfed c.requires.going c.requires.stands;
      setting = refl;
      live = ap (λ (l : LinesState). l.live) c.requires.fresh;
      limits = limits;
      few = omega (arith, number);
      held = refl;
      allows = refl;
      later = omega arith;
    }
