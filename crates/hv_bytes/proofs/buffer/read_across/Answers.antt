use Rattle.std.proofs.Common.{◌≡◌, ℕ, List, [], ◌∙◌, IfSome, arith, ap, length, length-take, subst, sym}
use Rattle.std.proofs.Common.{take}
use Rattle.std.specs.Prelude.{IfNone, IfOk, unwrap_or}
use Rattle.std.proofs.lemmas.Result.{IfOk-from_err, err_from_is_err_and, on_err_weaker}
use Rattle.std.specs.Io.KnownBytes.{IsAtEnd, prepend_known}
use Rattle.hv_bytes.specs.FirstLine.{BeginsLong, MovesBytes, TakesLine}
use Rattle.hv_bytes.specs.Working.LineParts.{BeginsWith}
use Rattle.hv_bytes.proofs.HeldBytes.{long_front}
use Rattle.hv_bytes.proofs.ReadParts.{no_fault, no_value}
use Rattle.hv_bytes.proofs.buffer.read_across.Goals as goal

pub returns-in_err-take_front-clause-long : goal.returns-in_err-take_front-clause-long
returns-in_err-take_front-clause-long g c =
    λ is.
    let p = err_from_is_err_and c.from_residual.result c.from_residual.ensures.1 in
    let long = c.in_err-take_front.ensures.long (cc) in
    long_front c.args.block.now.held (g.S.Shelf.left c.args.shelf.now)
    c.args.limits.line c.args.limits.file c.args.earlier long.0 c.requires.clean long.1

pub put_back-requires : goal.put_back-requires
put_back-requires g c = omega (
  arith,
  length-take c.len-kept.result c.deref.result.now,
  c.len-kept.ensures,
  ap length c.in_ok-take_front.ensures.moved.0,
  c.in_ok-take_front.ensures.bound,
)

pub returns-else-is_err-clause-line : goal.returns-else-is_err-clause-line
returns-else-is_err-clause-line g c =
    subst (λ (held : List ℕ). IfOk c.read_on-read.result (λ count. IfSome count (λ _. TakesLine
    (prepend_known held (g.S.Shelf.left c.args.shelf.now))
    (prepend_known c.read_on-read.new.block.held (g.S.Shelf.left c.read_on-read.new.shelf))
    c.read_on-read.new.line.items)))
    c.in_ok-take_front.ensures.moved.0 c.read_on-read.ensures.line

pub returns-else-is_err-clause-passes : goal.returns-else-is_err-clause-passes
returns-else-is_err-clause-passes g c =
    subst (λ (held : List ℕ). IfOk c.read_on-read.result (λ count. MovesBytes
    (prepend_known held (g.S.Shelf.left c.args.shelf.now))
    (prepend_known c.read_on-read.new.block.held (g.S.Shelf.left c.read_on-read.new.shelf))
    0 (unwrap_or count 0)))
    c.in_ok-take_front.ensures.moved.0 c.read_on-read.ensures.passes

pub returns-else-is_err-clause-end : goal.returns-else-is_err-clause-end
returns-else-is_err-clause-end g c =
    subst (λ (held : List ℕ). IfOk c.read_on-read.result (λ count. IfNone count (
    (held ≡ []) × (c.read_on-read.new.block.held ≡ [])
    × IsAtEnd (g.S.Shelf.left c.args.shelf.now)
    × IsAtEnd (g.S.Shelf.left c.read_on-read.new.shelf))))
    c.in_ok-take_front.ensures.moved.0 c.read_on-read.ensures.end

pub returns-then-is_err-clause-long : goal.returns-then-is_err-clause-long
returns-then-is_err-clause-long g c = λ is.
    subst (λ (held : List ℕ). BeginsLong
    (prepend_known held (g.S.Shelf.left c.args.shelf.now))
    c.args.limits.line c.args.limits.file c.args.earlier)
    c.in_ok-take_front.ensures.moved.0 (c.read_on-read.ensures.long is)

pub returns-else-is_err-clause-long : goal.returns-else-is_err-clause-long
returns-else-is_err-clause-long g c = λ is.
    subst (λ (held : List ℕ). BeginsLong
    (prepend_known held (g.S.Shelf.left c.args.shelf.now))
    c.args.limits.line c.args.limits.file c.args.earlier)
    c.in_ok-take_front.ensures.moved.0 (c.read_on-read.ensures.long is)

pub returns-then-is_err-clause-same : goal.returns-then-is_err-clause-same
returns-then-is_err-clause-same g c =
    on_err_weaker c.read_on-read.result (λ (begins : BeginsWith c.take_front.new.line.items
    c.read_on-read.new.line.items).
    let kept : c.len-kept.result ≡ length c.take_front.new.line.items = omega
    (arith, c.len-kept.ensures, c.take_front.new.line.ok.0) in
    c.put_back.ensures ∙ ap (take c.len-kept.result) c.deref.ensures.value
    ∙ ap (λ n. take n c.read_on-read.new.line.items) kept ∙ begins
    ∙ c.in_ok-take_front.ensures.moved.0) c.read_on-read.ensures.front

pub returns-then-is_err-clause-line : goal.returns-then-is_err-clause-line
returns-then-is_err-clause-line g c =
    IfOk-from_err _ _ (sym c.is_err.ensures.value ∙ c.if-is_err.true)

pub returns-then-is_err-clause-passes : goal.returns-then-is_err-clause-passes
returns-then-is_err-clause-passes g c =
    IfOk-from_err _ _ (sym c.is_err.ensures.value ∙ c.if-is_err.true)

pub returns-then-is_err-clause-count : goal.returns-then-is_err-clause-count
returns-then-is_err-clause-count g c =
    IfOk-from_err _ _ (sym c.is_err.ensures.value ∙ c.if-is_err.true)

pub returns-then-is_err-clause-last : goal.returns-then-is_err-clause-last
returns-then-is_err-clause-last g c =
    IfOk-from_err _ _ (sym c.is_err.ensures.value ∙ c.if-is_err.true)

pub returns-then-is_err-clause-fits : goal.returns-then-is_err-clause-fits
returns-then-is_err-clause-fits g c =
    IfOk-from_err _ _ (sym c.is_err.ensures.value ∙ c.if-is_err.true)

pub returns-then-is_err-clause-end : goal.returns-then-is_err-clause-end
returns-then-is_err-clause-end g c =
    IfOk-from_err _ _ (sym c.is_err.ensures.value ∙ c.if-is_err.true)

pub returns-else-is_err-clause-same : goal.returns-else-is_err-clause-same
returns-else-is_err-clause-same g c =
    no_fault _ _ (sym c.is_err.ensures.value ∙ c.if-is_err.false)

pub returns-in_err-take_front-clause-line : goal.returns-in_err-take_front-clause-line
returns-in_err-take_front-clause-line g c =
    no_value c.from_residual.result _ _ c.from_residual.ensures.1

pub returns-in_err-take_front-clause-passes : goal.returns-in_err-take_front-clause-passes
returns-in_err-take_front-clause-passes g c =
    no_value c.from_residual.result _ _ c.from_residual.ensures.1

pub returns-in_err-take_front-clause-count : goal.returns-in_err-take_front-clause-count
returns-in_err-take_front-clause-count g c =
    no_value c.from_residual.result _ _ c.from_residual.ensures.1

pub returns-in_err-take_front-clause-last : goal.returns-in_err-take_front-clause-last
returns-in_err-take_front-clause-last g c =
    no_value c.from_residual.result _ _ c.from_residual.ensures.1

pub returns-in_err-take_front-clause-fits : goal.returns-in_err-take_front-clause-fits
returns-in_err-take_front-clause-fits g c =
    no_value c.from_residual.result _ _ c.from_residual.ensures.1

pub returns-in_err-take_front-clause-end : goal.returns-in_err-take_front-clause-end
returns-in_err-take_front-clause-end g c =
    no_value c.from_residual.result _ _ c.from_residual.ensures.1
