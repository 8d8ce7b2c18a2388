use Rattle.std.proofs.Common.{◌∷◌, [], ◌∙◌, ap, length, length-append}
use Rattle.hv_grammar.proofs.Going.{done, filled_err, go, no_memory, start, stops}
use Rattle.hv_grammar.specs.Parsers.{one_more}
use Rattle.hv_sas.specs.Text as text
use Rattle.hv_sas.proofs.read.one_name.Goals as goal

pub returns-in_err-name-clause-reads : goal.returns-in_err-name-clause-reads
returns-in_err-name-clause-reads g c =
    stops _ (start (one_more (text.name_line c.args.kind) c.args.names.now) _)
    c.in_err-name.ensures (filled_err _ _ _ c.from_residual.ensures.1)

pub returns-in_err-push-clause-reads : goal.returns-in_err-push-clause-reads
returns-in_err-push-clause-reads g c =
    no_memory _ _ _ _ _ (go _ (start (one_more (text.name_line c.args.kind) c.args.names.now) _)
    c.in_ok-name.ensures)
    (filled_err _ _ _ c.from_residual-in_err-push.ensures.1)

pub returns-clause-reads : goal.returns-clause-reads
returns-clause-reads g c =
    done _ _ _ _ _ (go _ (start (one_more (text.name_line c.args.kind) c.args.names.now) _)
    c.in_ok-name.ensures)
    c.in_ok-name.ensures.can c.in_ok-push.ensures.ok

pub returns-clause-count : goal.returns-clause-count
returns-clause-count g c =
    ap length c.in_ok-push.ensures.ok ∙ length-append c.args.names.now (_ ∷ [])
