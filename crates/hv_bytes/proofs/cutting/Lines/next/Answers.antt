use Rattle.std.proofs.Common.{Some, [], ◌∙◌, ap, cond, subst, sym}
use Rattle.std.proofs.lemmas.Bool.{false≢true}
use Rattle.std.specs.Io.KnownBytes.{prepend_known}
use Rattle.hv_bytes.specs.FirstLine.{BeginsLong, TakesLine}
use Rattle.hv_bytes.specs.States.{LinesState, coming_of}
use Rattle.hv_bytes.proofs.HeldBytes.{long_lent, takes_lent}
use Rattle.hv_bytes.proofs.ReadParts.{at_fault, never_ok, no_value, not_live}
use Rattle.hv_bytes.proofs.cutting.Lines.next.Goals as goal

pub returns-in_err-lend_line-clause-long : goal.returns-in_err-lend_line-clause-long
returns-in_err-lend_line-clause-long g c =
    λ is.
    let i = c.self.inside in
    let left = g.S.Shelf.left c.args.shelf.now in
    let long = c.in_err-lend_line.ensures.long in
    subst (λ (l : LinesState). BeginsLong (coming_of l left) l.limits.line l.limits.file l.earlier)
    c.self.view_is
    (rw c.if-self.false (long_lent i.buffer.held left long.0 i.limits.line i.limits.file i.earlier
    long.1 long.2))

pub returns-then-branch-clause-line : goal.returns-then-branch-clause-line
returns-then-branch-clause-line g c =
    λ is.
    let i = c.self.inside in
    let left = g.S.Shelf.left c.args.shelf.now in
    let now = c.lend_line.new.self in
    subst (λ (l : LinesState). TakesLine (coming_of l left)
    (cond i.ended (Some []) (prepend_known now.held left)) now.line)
    c.self.view_is
    (rw c.if-self.false (takes_lent i.buffer.held left now.held now.line
    (c.in_ok-lend_line.ensures.lent (cc))))

pub returns-in_err-lend_line-clause-line : goal.returns-in_err-lend_line-clause-line
returns-in_err-lend_line-clause-line g c = never_ok _ _ _ _ c.from_residual.ensures.1

pub returns-in_err-lend_line-clause-end : goal.returns-in_err-lend_line-clause-end
returns-in_err-lend_line-clause-end g c = never_ok _ _ _ _ c.from_residual.ensures.1

pub returns-in_err-lend_line-clause-fits : goal.returns-in_err-lend_line-clause-fits
returns-in_err-lend_line-clause-fits g c = never_ok _ _ _ _ c.from_residual.ensures.1

pub returns-in_err-lend_line-clause-number : goal.returns-in_err-lend_line-clause-number
returns-in_err-lend_line-clause-number g c = never_ok _ _ _ _ c.from_residual.ensures.1

pub returns-in_err-lend_line-clause-counted : goal.returns-in_err-lend_line-clause-counted
returns-in_err-lend_line-clause-counted g c = never_ok _ _ _ _ c.from_residual.ensures.1

pub returns-in_err-lend_line-clause-same : goal.returns-in_err-lend_line-clause-same
returns-in_err-lend_line-clause-same g c = never_ok _ _ _ _ c.from_residual.ensures.1

pub returns-in_err-lend_line-clause-earlier : goal.returns-in_err-lend_line-clause-earlier
returns-in_err-lend_line-clause-earlier g c = no_value c.from_residual.result _ _ c.from_residual.ensures.1

pub returns-in_err-lend_line-clause-at_end : goal.returns-in_err-lend_line-clause-at_end
returns-in_err-lend_line-clause-at_end g c = no_value c.from_residual.result _ _ c.from_residual.ensures.1

pub returns-in_err-lend_line-clause-live : goal.returns-in_err-lend_line-clause-live
returns-in_err-lend_line-clause-live g c = not_live _ _ c.from_residual.ensures.1

pub returns-in_err-lend_line-clause-same_number : goal.returns-in_err-lend_line-clause-same_number
returns-in_err-lend_line-clause-same_number g c =
    at_fault _ _ (ap (λ (l : LinesState). l.number) c.self.view_is)

pub returns-in_err-lend_line-clause-same_earlier : goal.returns-in_err-lend_line-clause-same_earlier
returns-in_err-lend_line-clause-same_earlier g c =
    at_fault _ _ (ap (λ (l : LinesState). l.earlier) c.self.view_is)

pub returns-in_err-count-clause-line : goal.returns-in_err-count-clause-line
returns-in_err-count-clause-line g c = never_ok _ _ _ _ c.from_residual-in_err-count.ensures.1

pub returns-in_err-count-clause-end : goal.returns-in_err-count-clause-end
returns-in_err-count-clause-end g c = never_ok _ _ _ _ c.from_residual-in_err-count.ensures.1

pub returns-in_err-count-clause-fits : goal.returns-in_err-count-clause-fits
returns-in_err-count-clause-fits g c = never_ok _ _ _ _ c.from_residual-in_err-count.ensures.1

pub returns-in_err-count-clause-number : goal.returns-in_err-count-clause-number
returns-in_err-count-clause-number g c = never_ok _ _ _ _ c.from_residual-in_err-count.ensures.1

pub returns-in_err-count-clause-counted : goal.returns-in_err-count-clause-counted
returns-in_err-count-clause-counted g c = never_ok _ _ _ _ c.from_residual-in_err-count.ensures.1

pub returns-in_err-count-clause-same : goal.returns-in_err-count-clause-same
returns-in_err-count-clause-same g c = never_ok _ _ _ _ c.from_residual-in_err-count.ensures.1

pub returns-in_err-count-clause-earlier : goal.returns-in_err-count-clause-earlier
returns-in_err-count-clause-earlier g c = no_value c.from_residual-in_err-count.result _ _ c.from_residual-in_err-count.ensures.1

pub returns-in_err-count-clause-at_end : goal.returns-in_err-count-clause-at_end
returns-in_err-count-clause-at_end g c = no_value c.from_residual-in_err-count.result _ _ c.from_residual-in_err-count.ensures.1

pub returns-in_err-count-clause-live : goal.returns-in_err-count-clause-live
returns-in_err-count-clause-live g c = not_live _ _ c.from_residual-in_err-count.ensures.1

pub returns-in_err-count-clause-same_number : goal.returns-in_err-count-clause-same_number
returns-in_err-count-clause-same_number g c =
    at_fault _ _ (ap (λ (l : LinesState). l.number) c.self.view_is)

pub returns-in_err-count-clause-same_earlier : goal.returns-in_err-count-clause-same_earlier
returns-in_err-count-clause-same_earlier g c =
    at_fault _ _ (ap (λ (l : LinesState). l.earlier) c.self.view_is)

pub returns-in_err-lend_line-clause-ended : goal.returns-in_err-lend_line-clause-ended
returns-in_err-lend_line-clause-ended g c = λ ended.
    absurd (false≢true (sym c.if-self.false ∙ ap (λ (l : LinesState). l.ended) c.self.view_is
    ∙ ended))

pub returns-then-branch-clause-ended : goal.returns-then-branch-clause-ended
returns-then-branch-clause-ended g c = λ ended.
    absurd (false≢true (sym c.if-self.false ∙ ap (λ (l : LinesState). l.ended) c.self.view_is
    ∙ ended))

pub returns-in_err-count-clause-ended : goal.returns-in_err-count-clause-ended
returns-in_err-count-clause-ended g c = λ ended.
    absurd (false≢true (sym c.if-self.false ∙ ap (λ (l : LinesState). l.ended) c.self.view_is
    ∙ ended))

pub returns-in-None-clause-ended : goal.returns-in-None-clause-ended
returns-in-None-clause-ended g c = λ ended.
    absurd (false≢true (sym c.if-self.false ∙ ap (λ (l : LinesState). l.ended) c.self.view_is
    ∙ ended))

pub returns-in-Some-clause-ended : goal.returns-in-Some-clause-ended
returns-in-Some-clause-ended g c = λ ended.
    absurd (false≢true (sym c.if-self.false ∙ ap (λ (l : LinesState). l.ended) c.self.view_is
    ∙ ended))
