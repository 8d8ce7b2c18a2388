use Rattle.std.proofs.Common.{List, subst, sym}
use Rattle.std.specs.List.{All}
use Rattle.std.proofs.lemmas.List.Elements.{All-push}
use Rattle.hv_grammar.proofs.Going.{done, filled_err, go, no_memory, start, stops}
use Rattle.hv_sas.specs.declared.sas_task.SasOperator.{SasOperator}
use Rattle.hv_sas.specs.Sound.{IsOperator}
use Rattle.hv_sas.specs.Text as text
use Rattle.hv_sas.proofs.read.operator.Goals as goal

pub returns-in_err-word_line-clause-reads : goal.returns-in_err-word_line-clause-reads
returns-in_err-word_line-clause-reads g c =
    stops _ (start (text.operator c.args.variables.now c.args.operators.now) _)
    c.in_err-word_line.ensures (filled_err _ _ _ c.from_residual.ensures.1)

pub returns-in_err-name-clause-reads : goal.returns-in_err-name-clause-reads
returns-in_err-name-clause-reads g c =
    stops _ (go _ (start (text.operator c.args.variables.now c.args.operators.now) _)
    c.in_ok-word_line.ensures)
    c.in_err-name.ensures (filled_err _ _ _ c.from_residual-in_err-name.ensures.1)

pub returns-in_err-count-clause-reads : goal.returns-in_err-count-clause-reads
returns-in_err-count-clause-reads g c =
    stops _ (go _ (go _ (start (text.operator c.args.variables.now c.args.operators.now) _)
    c.in_ok-word_line.ensures)
    c.in_ok-name.ensures)
    c.in_err-count.ensures (filled_err _ _ _ c.from_residual-in_err-count.ensures.1)

pub returns-in_err-prevail-clause-reads : goal.returns-in_err-prevail-clause-reads
returns-in_err-prevail-clause-reads g c =
    stops _ (go _ (go _ (go _ (start (text.operator c.args.variables.now c.args.operators.now) _)
    c.in_ok-word_line.ensures)
    c.in_ok-name.ensures)
    c.in_ok-count.ensures)
    c.in_err-prevail.ensures.reads (filled_err _ _ _ c.from_residual-in_err-prevail.ensures.1)

pub returns-in_err-count-2-clause-reads : goal.returns-in_err-count-2-clause-reads
returns-in_err-count-2-clause-reads g c =
    stops _ (go _ (go _ (go _ (go _
    (start (text.operator c.args.variables.now c.args.operators.now) _)
    c.in_ok-word_line.ensures)
    c.in_ok-name.ensures)
    c.in_ok-count.ensures)
    c.in_ok-prevail.ensures.reads)
    c.in_err-count-2.ensures (filled_err _ _ _ c.from_residual-in_err-count-2.ensures.1)

pub returns-in_err-effects-clause-reads : goal.returns-in_err-effects-clause-reads
returns-in_err-effects-clause-reads g c =
    stops _ (go _ (go _ (go _ (go _ (go _
    (start (text.operator c.args.variables.now c.args.operators.now) _)
    c.in_ok-word_line.ensures)
    c.in_ok-name.ensures)
    c.in_ok-count.ensures)
    c.in_ok-prevail.ensures.reads)
    c.in_ok-count-2.ensures)
    c.in_err-effects.ensures.reads (filled_err _ _ _ c.from_residual-in_err-effects.ensures.1)

pub returns-in_err-cost-clause-reads : goal.returns-in_err-cost-clause-reads
returns-in_err-cost-clause-reads g c =
    stops _ (go _ (go _ (go _ (go _ (go _ (go _
    (start (text.operator c.args.variables.now c.args.operators.now) _)
    c.in_ok-word_line.ensures)
    c.in_ok-name.ensures)
    c.in_ok-count.ensures)
    c.in_ok-prevail.ensures.reads)
    c.in_ok-count-2.ensures)
    c.in_ok-effects.ensures.reads)
    c.in_err-cost.ensures (filled_err _ _ _ c.from_residual-in_err-cost.ensures.1)

pub returns-in_err-word_line-2-clause-reads : goal.returns-in_err-word_line-2-clause-reads
returns-in_err-word_line-2-clause-reads g c =
    stops _ (go _ (go _ (go _ (go _ (go _ (go _ (go _
    (start (text.operator c.args.variables.now c.args.operators.now) _)
    c.in_ok-word_line.ensures)
    c.in_ok-name.ensures)
    c.in_ok-count.ensures)
    c.in_ok-prevail.ensures.reads)
    c.in_ok-count-2.ensures)
    c.in_ok-effects.ensures.reads)
    c.in_ok-cost.ensures)
    c.in_err-word_line-2.ensures (filled_err _ _ _ c.from_residual-in_err-word_line-2.ensures.1)

pub returns-in_err-push-clause-reads : goal.returns-in_err-push-clause-reads
returns-in_err-push-clause-reads g c =
    no_memory _ _ _ _ _ (go _ (go _ (go _ (go _ (go _ (go _ (go _ (go _
    (start (text.operator c.args.variables.now c.args.operators.now) _)
    c.in_ok-word_line.ensures)
    c.in_ok-name.ensures)
    c.in_ok-count.ensures)
    c.in_ok-prevail.ensures.reads)
    c.in_ok-count-2.ensures)
    c.in_ok-effects.ensures.reads)
    c.in_ok-cost.ensures)
    c.in_ok-word_line-2.ensures)
    (filled_err _ _ _ c.from_residual-in_err-push.ensures.1)

pub returns-clause-reads : goal.returns-clause-reads
returns-clause-reads g c =
    done _ _ _ _ _ (go _ (go _ (go _ (go _ (go _ (go _ (go _ (go _
    (start (text.operator c.args.variables.now c.args.operators.now) _)
    c.in_ok-word_line.ensures)
    c.in_ok-name.ensures)
    c.in_ok-count.ensures)
    c.in_ok-prevail.ensures.reads)
    c.in_ok-count-2.ensures)
    c.in_ok-effects.ensures.reads)
    c.in_ok-cost.ensures)
    c.in_ok-word_line-2.ensures)
    c.in_ok-word_line-2.ensures.can c.in_ok-push.ensures.ok

pub returns-clause-operators : goal.returns-clause-operators
returns-clause-operators g c = λ all.
    subst (λ (ops : List SasOperator). All (IsOperator c.args.variables.now) ops)
    (sym c.in_ok-push.ensures.ok)
    (All-push (IsOperator c.args.variables.now) c.args.operators.now _ all (record {
      prevail = c.in_ok-prevail.ensures.facts;
      effects = c.in_ok-effects.ensures.effects.each;
      apart = c.in_ok-effects.ensures.effects.apart;
    }))
