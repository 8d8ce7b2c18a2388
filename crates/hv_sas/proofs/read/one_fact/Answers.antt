use Rattle.std.proofs.Common.{List, subst, sym}
use Rattle.std.specs.List.{All}
use Rattle.std.proofs.lemmas.List.Elements.{All-push}
use Rattle.hv_grammar.proofs.Going.{done, filled_err, go, no_memory, start, stops}
use Rattle.hv_grammar.specs.Parsers.{one_more}
use Rattle.hv_sas.specs.declared.sas_task.Fact.{Fact}
use Rattle.hv_sas.specs.Text as text
use Rattle.hv_sas.specs.Variables.{IsFact}
use Rattle.hv_sas.proofs.read.one_fact.Goals as goal

pub returns-in_err-fact-clause-reads : goal.returns-in_err-fact-clause-reads
returns-in_err-fact-clause-reads g c =
    stops _ (start (one_more (text.fact c.args.kind c.args.variables.now) c.args.facts.now) _)
    c.in_err-fact.ensures.reads (filled_err _ _ _ c.from_residual.ensures.1)

pub returns-in_err-push-clause-reads : goal.returns-in_err-push-clause-reads
returns-in_err-push-clause-reads g c =
    no_memory _ _ _ _ _ (go _
    (start (one_more (text.fact c.args.kind c.args.variables.now) c.args.facts.now) _)
    c.in_ok-fact.ensures.reads)
    (filled_err _ _ _ c.from_residual-in_err-push.ensures.1)

pub returns-clause-reads : goal.returns-clause-reads
returns-clause-reads g c =
    done _ _ _ _ _ (go _
    (start (one_more (text.fact c.args.kind c.args.variables.now) c.args.facts.now) _)
    c.in_ok-fact.ensures.reads)
    c.in_ok-fact.ensures.reads.can c.in_ok-push.ensures.ok

pub returns-clause-facts : goal.returns-clause-facts
returns-clause-facts g c = λ all.
    subst (λ (facts : List Fact). All (IsFact c.args.variables.now) facts)
    (sym c.in_ok-push.ensures.ok)
    (All-push (IsFact c.args.variables.now) c.args.facts.now _ all c.in_ok-fact.ensures.fact)
