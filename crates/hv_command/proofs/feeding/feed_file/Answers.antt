use Rattle.std.proofs.Common.{◌∙◌, arith}
use Rattle.hv_bytes.specs.Pieces.{pieces_of}
use Rattle.hv_bytes.specs.Standard.{standard}
use Rattle.hv_checker.specs.Checkers.{HasJudged}
use Rattle.hv_command.proofs.FedFiles.{fed_opened}
use Rattle.hv_command.proofs.feeding.feed_file.Goals as goal

pub returns-clause-fed : goal.returns-clause-fed
returns-clause-fed g c =
    fed_opened (g.S.Shelf.held c.args.shelf.now) c.args.name.now (g.S.Shelf.left c.open.new.self)
    (λ bytes. HasJudged c.feed_lines.new.checker (pieces_of standard bytes)) c.feed_lines.result
    c.in_ok-open.ensures.opened c.feed_lines.ensures.fed

pub returns-clause-held : goal.returns-clause-held
returns-clause-held g c = c.feed_lines.ensures.held ∙ c.in_ok-open.ensures.held

pub returns-clause-allows : goal.returns-clause-allows
returns-clause-allows g c = c.feed_lines.ensures.allows ∙ c.in_ok-open.ensures.allows

pub returns-clause-later : goal.returns-clause-later
returns-clause-later g c =
    omega (arith, c.in_ok-open.ensures.cause.later, c.feed_lines.ensures.later)

pub returns-clause-cause : goal.returns-clause-cause
returns-clause-cause g c = λ failed.
    omega (arith, c.in_ok-open.ensures.cause.later, c.feed_lines.ensures.cause failed)
