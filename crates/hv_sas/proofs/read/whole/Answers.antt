use Rattle.std.proofs.Common.{refl}
use Rattle.hv_grammar.proofs.Going.{done, go, start, stops}
use Rattle.hv_sas.specs.Text as text
use Rattle.hv_sas.proofs.read.whole.Goals as goal

pub returns-in_err-version-clause-reads : goal.returns-in_err-version-clause-reads
returns-in_err-version-clause-reads g c =
    stops _ (start (text.sas_file) _)
    c.in_err-version.ensures c.from_residual.ensures.1

pub returns-in_err-metric-clause-reads : goal.returns-in_err-metric-clause-reads
returns-in_err-metric-clause-reads g c =
    stops _ (go _ (start (text.sas_file) _)
    c.in_ok-version.ensures)
    c.in_err-metric.ensures c.from_residual-in_err-metric.ensures.1

pub returns-in_err-variables-clause-reads : goal.returns-in_err-variables-clause-reads
returns-in_err-variables-clause-reads g c =
    stops _ (go _ (go _ (start (text.sas_file) _)
    c.in_ok-version.ensures)
    c.in_ok-metric.ensures)
    c.in_err-variables.ensures.reads c.from_residual-in_err-variables.ensures.1

pub returns-in_err-all_mutexes-clause-reads : goal.returns-in_err-all_mutexes-clause-reads
returns-in_err-all_mutexes-clause-reads g c =
    stops _ (go _ (go _ (go _ (start (text.sas_file) _)
    c.in_ok-version.ensures)
    c.in_ok-metric.ensures)
    c.in_ok-variables.ensures.reads)
    c.in_err-all_mutexes.ensures c.from_residual-in_err-all_mutexes.ensures.1

pub returns-in_err-start-clause-reads : goal.returns-in_err-start-clause-reads
returns-in_err-start-clause-reads g c =
    stops _ (go _ (go _ (go _ (go _ (start (text.sas_file) _)
    c.in_ok-version.ensures)
    c.in_ok-metric.ensures)
    c.in_ok-variables.ensures.reads)
    c.in_ok-all_mutexes.ensures)
    c.in_err-start.ensures.reads c.from_residual-in_err-start.ensures.1

pub returns-in_err-goal-clause-reads : goal.returns-in_err-goal-clause-reads
returns-in_err-goal-clause-reads g c =
    stops _ (go _ (go _ (go _ (go _ (go _ (start (text.sas_file) _)
    c.in_ok-version.ensures)
    c.in_ok-metric.ensures)
    c.in_ok-variables.ensures.reads)
    c.in_ok-all_mutexes.ensures)
    c.in_ok-start.ensures.reads)
    c.in_err-goal.ensures.reads c.from_residual-in_err-goal.ensures.1

pub returns-in_err-operators-clause-reads : goal.returns-in_err-operators-clause-reads
returns-in_err-operators-clause-reads g c =
    stops _ (go _ (go _ (go _ (go _ (go _ (go _ (start (text.sas_file) _)
    c.in_ok-version.ensures)
    c.in_ok-metric.ensures)
    c.in_ok-variables.ensures.reads)
    c.in_ok-all_mutexes.ensures)
    c.in_ok-start.ensures.reads)
    c.in_ok-goal.ensures.reads)
    c.in_err-operators.ensures.reads c.from_residual-in_err-operators.ensures.1

pub returns-in_err-axioms_line-clause-reads : goal.returns-in_err-axioms_line-clause-reads
returns-in_err-axioms_line-clause-reads g c =
    stops _ (go _ (go _ (go _ (go _ (go _ (go _ (go _ (start (text.sas_file) _)
    c.in_ok-version.ensures)
    c.in_ok-metric.ensures)
    c.in_ok-variables.ensures.reads)
    c.in_ok-all_mutexes.ensures)
    c.in_ok-start.ensures.reads)
    c.in_ok-goal.ensures.reads)
    c.in_ok-operators.ensures.reads)
    c.in_err-axioms_line.ensures c.from_residual-in_err-axioms_line.ensures.1

pub returns-in_err-end_of_input-clause-reads : goal.returns-in_err-end_of_input-clause-reads
returns-in_err-end_of_input-clause-reads g c =
    stops _ (go _ (go _ (go _ (go _ (go _ (go _ (go _ (go _ (start (text.sas_file) _)
    c.in_ok-version.ensures)
    c.in_ok-metric.ensures)
    c.in_ok-variables.ensures.reads)
    c.in_ok-all_mutexes.ensures)
    c.in_ok-start.ensures.reads)
    c.in_ok-goal.ensures.reads)
    c.in_ok-operators.ensures.reads)
    c.in_ok-axioms_line.ensures)
    c.in_err-end_of_input.ensures c.from_residual-in_err-end_of_input.ensures.1

pub returns-clause-reads : goal.returns-clause-reads
returns-clause-reads g c =
    done _ _ _ _ _ (go _ (go _ (go _ (go _ (go _ (go _ (go _ (go _ (go _ (start (text.sas_file) _)
    c.in_ok-version.ensures)
    c.in_ok-metric.ensures)
    c.in_ok-variables.ensures.reads)
    c.in_ok-all_mutexes.ensures)
    c.in_ok-start.ensures.reads)
    c.in_ok-goal.ensures.reads)
    c.in_ok-operators.ensures.reads)
    c.in_ok-axioms_line.ensures)
    c.in_ok-end_of_input.ensures)
    c.in_ok-end_of_input.ensures.can refl

pub returns-clause-sound : goal.returns-clause-sound
returns-clause-sound g c = record {
  variables = c.in_ok-variables.ensures.variables.each;
  few_values = c.in_ok-variables.ensures.variables.few;
  start = c.in_ok-start.ensures.state;
  goal = c.in_ok-goal.ensures.facts;
  operators = c.in_ok-operators.ensures.operators;
  few_operators = c.in_ok-operators.ensures.few;
}
