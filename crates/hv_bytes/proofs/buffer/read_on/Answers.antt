use Rattle.std.proofs.Common.{◌∙◌, ◌≢◌, ap, arith, length, length-append, subst, sym}
use Rattle.std.proofs.lemmas.List.Elements.{All-append}
use Rattle.std.proofs.lemmas.Result.{err_from_is_err_and}
use Rattle.std.specs.Io.KnownBytes.{prepend_known}
use Rattle.hv_bytes.specs.LineCuts.{IsClean}
use Rattle.hv_bytes.specs.Working.LineParts.{BeginsWith}
use Rattle.hv_bytes.proofs.HeldBytes.{consumes_read, long_part, some_held, takes_ended}
use Rattle.hv_bytes.proofs.LineLaws.{length_some}
use Rattle.hv_bytes.proofs.ReadParts.{at_fault, begins_grown, consumes_taken, end_before}
use Rattle.hv_bytes.proofs.ReadParts.{moves_ended, moves_line, no_front, no_value, none_by_test}
use Rattle.hv_bytes.proofs.ReadParts.{some_by_test, takes_last}
use Rattle.hv_bytes.proofs.buffer.read_on.Goals as goal

pub returns-in_err-take_part-clause-long : goal.returns-in_err-take_part-clause-long
returns-in_err-take_part-clause-long g c =
    λ is.
    let p = err_from_is_err_and c.from_residual-in_err-take_part.result
    c.from_residual-in_err-take_part.ensures.1 in
    long_part c.parts.line.items c.read.new.self.held
    (prepend_known c.args.line.now.items (g.S.Shelf.left c.args.shelf.now))
    (g.S.Shelf.left c.read.new.shelf) c.args.limits.line c.args.limits.file c.args.earlier
    (consumes_read _ _ _ _ _ c.parts.invariant.2 c.parts.invariant.0 c.in_ok-read.ensures.coming)
    c.parts.invariant.1
    (some_held c.read.new.self.held c.is_empty.result c.if-is_empty.false c.is_empty.ensures.1)
    (c.in_err-take_part.ensures.long (cc))

pub returns-then-branch-clause-line : goal.returns-then-branch-clause-line
returns-then-branch-clause-line g c =
    takes_ended c.parts.line.items c.read.new.self.held
    (prepend_known c.args.line.now.items (g.S.Shelf.left c.args.shelf.now))
    (g.S.Shelf.left c.read.new.shelf) c.take_part.new.block.held c.take_part.new.line.items
    (consumes_read _ _ _ _ _ c.parts.invariant.2 c.parts.invariant.0 c.in_ok-read.ensures.coming)
    c.parts.invariant.1 (c.in_ok-take_part.ensures.ended (cc))

pub returns-in_err-read-clause-front : goal.returns-in_err-read-clause-front
returns-in_err-read-clause-front g c = at_fault _ _ c.parts.invariant.4

pub returns-in_err-read-clause-cause : goal.returns-in_err-read-clause-cause
returns-in_err-read-clause-cause g c =
    λ is. omega (arith, c.in_err-read.ensures.cause.failed, c.parts.invariant.7)

pub returns-then-is_empty-2-clause-passes : goal.returns-then-is_empty-2-clause-passes
returns-then-is_empty-2-clause-passes g c =
    let none = none_by_test _ _ c.is_empty-then-is_empty.ensures c.if-is_empty-2.true in
    moves_line _ _ c.parts.line.items 0
    (consumes_read _ _ _ _ _ c.parts.invariant.2 c.parts.invariant.0 c.in_ok-read.ensures.coming)
    (omega (arith, none, c.parts.line.ok.0))

pub returns-then-is_empty-2-clause-end : goal.returns-then-is_empty-2-clause-end
returns-then-is_empty-2-clause-end g c =
    let none = none_by_test _ _ c.is_empty-then-is_empty.ensures c.if-is_empty-2.true in
    let unread = c.is_empty.ensures.0 c.if-is_empty.true in
    let front = no_front c.args.line.now.items c.parts.line.items c.parts.invariant.4
    (omega (arith, none, c.parts.line.ok.0)) in
    let end = c.in_ok-read.ensures.end unread in (
      front,
      unread,
      end_before (g.S.Shelf.left c.args.shelf.now) (g.S.Shelf.left c.read.new.shelf)
          c.args.line.now.items c.read.new.self.held c.parts.line.items
          (consumes_read _ _ _ _ _ c.parts.invariant.2 c.parts.invariant.0 c.in_ok-read.ensures.coming)
          (omega (arith, none, c.parts.line.ok.0)) unread end front,
      end,
    )

pub returns-then-is_empty-clause-line : goal.returns-then-is_empty-clause-line
returns-then-is_empty-clause-line g c =
    let unread = c.is_empty.ensures.0 c.if-is_empty.true in
    takes_last (prepend_known c.args.line.now.items (g.S.Shelf.left c.args.shelf.now))
    (g.S.Shelf.left c.read.new.shelf) c.read.new.self.held c.parts.line.items
    (consumes_read _ _ _ _ _ c.parts.invariant.2 c.parts.invariant.0 c.in_ok-read.ensures.coming)
    c.parts.invariant.1 unread (c.in_ok-read.ensures.end unread)
    (some_by_test c.parts.line.items _ _ (omega (arith, c.parts.line.ok.0))
    c.is_empty-then-is_empty.ensures c.if-is_empty-2.false)

pub returns-in_err-take_part-clause-front : goal.returns-in_err-take_part-clause-front
returns-in_err-take_part-clause-front g c =
    at_fault _ _ (subst (BeginsWith c.args.line.now.items) (sym c.in_err-take_part.ensures.same)
    c.parts.invariant.4)

pub returns-then-branch-clause-passes : goal.returns-then-branch-clause-passes
returns-then-branch-clause-passes g c =
    moves_ended (prepend_known c.args.line.now.items (g.S.Shelf.left c.args.shelf.now))
    (g.S.Shelf.left c.read.new.shelf) c.read.new.self.held c.parts.line.items
    c.take_part.new.block.held c.take_part.new.line.items _
    (consumes_read _ _ _ _ _ c.parts.invariant.2 c.parts.invariant.0 c.in_ok-read.ensures.coming)
    (c.in_ok-take_part.ensures.ended (cc)) (omega arith)

pub parts-smaller : goal.parts-smaller
parts-smaller g c =
    let grown = c.in_ok-take_part.ensures.open (cc) in
    let some = length_some c.read.new.self.held
    (some_held c.read.new.self.held c.is_empty.result c.if-is_empty.false c.is_empty.ensures.1) in
    omega (
      arith,
      some,
      ap length grown.2,
      length-append c.parts.line.items c.read.new.self.held,
      c.in_ok-take_part.ensures.fits.in_line,
      c.parts.line.ok.0,
      c.take_part.new.line.ok.0,
    )

pub parts-preserved : goal.parts-preserved
parts-preserved g c =
    let grown = c.in_ok-take_part.ensures.open (cc) in (
      consumes_taken (prepend_known c.args.line.now.items (g.S.Shelf.left c.args.shelf.now))
          (g.S.Shelf.left c.read.new.shelf) c.read.new.self.held c.parts.line.items
          c.take_part.new.block.held c.take_part.new.line.items
          (consumes_read _ _ _ _ _ c.parts.invariant.2 c.parts.invariant.0 c.in_ok-read.ensures.coming)
          grown.1 grown.2,
      subst IsClean (sym grown.2)
          (All-append (λ b. b ≢ 10) c.parts.line.items c.read.new.self.held c.parts.invariant.1 grown.0),
      grown.1,
      λ some. c.in_ok-take_part.ensures.fits,
      begins_grown c.args.line.now.items c.parts.line.items c.read.new.self.held
          c.take_part.new.line.items c.parts.invariant.4 grown.2,
      c.read.ensures.held ∙ c.parts.invariant.5,
      c.read.ensures.allows ∙ c.parts.invariant.6,
      omega (arith, c.read.ensures.cause.later, c.parts.invariant.7),
    )

pub returns-in_err-read-clause-line : goal.returns-in_err-read-clause-line
returns-in_err-read-clause-line g c =
    no_value c.from_residual.result _ _ c.from_residual.ensures.1

pub returns-in_err-read-clause-passes : goal.returns-in_err-read-clause-passes
returns-in_err-read-clause-passes g c =
    no_value c.from_residual.result _ _ c.from_residual.ensures.1

pub returns-in_err-read-clause-count : goal.returns-in_err-read-clause-count
returns-in_err-read-clause-count g c =
    no_value c.from_residual.result _ _ c.from_residual.ensures.1

pub returns-in_err-read-clause-last : goal.returns-in_err-read-clause-last
returns-in_err-read-clause-last g c =
    no_value c.from_residual.result _ _ c.from_residual.ensures.1

pub returns-in_err-read-clause-fits : goal.returns-in_err-read-clause-fits
returns-in_err-read-clause-fits g c =
    no_value c.from_residual.result _ _ c.from_residual.ensures.1

pub returns-in_err-read-clause-end : goal.returns-in_err-read-clause-end
returns-in_err-read-clause-end g c =
    no_value c.from_residual.result _ _ c.from_residual.ensures.1

pub returns-in_err-take_part-clause-line : goal.returns-in_err-take_part-clause-line
returns-in_err-take_part-clause-line g c =
    no_value c.from_residual-in_err-take_part.result _ _ c.from_residual-in_err-take_part.ensures.1

pub returns-in_err-take_part-clause-passes : goal.returns-in_err-take_part-clause-passes
returns-in_err-take_part-clause-passes g c =
    no_value c.from_residual-in_err-take_part.result _ _ c.from_residual-in_err-take_part.ensures.1

pub returns-in_err-take_part-clause-count : goal.returns-in_err-take_part-clause-count
returns-in_err-take_part-clause-count g c =
    no_value c.from_residual-in_err-take_part.result _ _ c.from_residual-in_err-take_part.ensures.1

pub returns-in_err-take_part-clause-last : goal.returns-in_err-take_part-clause-last
returns-in_err-take_part-clause-last g c =
    no_value c.from_residual-in_err-take_part.result _ _ c.from_residual-in_err-take_part.ensures.1

pub returns-in_err-take_part-clause-fits : goal.returns-in_err-take_part-clause-fits
returns-in_err-take_part-clause-fits g c =
    no_value c.from_residual-in_err-take_part.result _ _ c.from_residual-in_err-take_part.ensures.1

pub returns-in_err-take_part-clause-end : goal.returns-in_err-take_part-clause-end
returns-in_err-take_part-clause-end g c =
    no_value c.from_residual-in_err-take_part.result _ _ c.from_residual-in_err-take_part.ensures.1
