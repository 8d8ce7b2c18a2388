use Rattle.std.proofs.Common.{◌≡◌, ℕ, ◌∷◌, [], List, ◌∙◌, ap, length, length-append, subst}
use Rattle.std.specs.Prelude.{Result}
use Rattle.hv_grammar.proofs.Going.{done, filled_err, go, no_memory, start, stops}
use Rattle.hv_grammar.specs.Parsers.{line}
use Rattle.hv_grammar.specs.Positions.{Position}
use Rattle.hv_grammar.specs.Reads.{Reads}
use Rattle.hv_grammar.specs.declared.fault.ParseFault.{ParseFault}
use Rattle.hv_sas.specs.declared.fault.SasKind.TheVariants as K
use Rattle.hv_sas.specs.declared.fault.SasRefusal.{SasRefusal}
use Rattle.hv_sas.specs.declared.fault.SasRefusal.TheVariants as R
use Rattle.hv_sas.specs.declared.sas_task.SasVariable.{SasVariable}
use Rattle.hv_sas.specs.Lines.{start_value}
use Rattle.hv_sas.specs.Text as text
use Rattle.hv_sas.proofs.read.value.Goals as goal

-- the value of a variable, by another word for its number
named_as : (vs : List SasVariable) (var other : ℕ) (old new : Position)
    (result : Result ℕ (ParseFault SasRefusal)) → var ≡ other
    → Reads (line (R.Place K.State) (start_value vs var)) old new result
    → Reads (line (R.Place K.State) (start_value vs other)) old new result
named_as vs var other old new result e h =
    subst (λ v. Reads (line (R.Place K.State) (start_value vs v)) old new result) e h

pub returns-in_err-value-clause-reads : goal.returns-in_err-value-clause-reads
returns-in_err-value-clause-reads g c =
    stops _ (start (text.value c.args.variables.now c.args.values.now) _)
    (named_as c.args.variables.now c.args.var (length c.args.values.now) _ _ _ c.requires.var
    c.in_err-value.ensures.reads)
    (filled_err _ _ _ c.from_residual.ensures.1)

pub returns-in_err-push-clause-reads : goal.returns-in_err-push-clause-reads
returns-in_err-push-clause-reads g c =
    no_memory _ _ _ _ _ (go _ (start (text.value c.args.variables.now c.args.values.now) _)
    (named_as c.args.variables.now c.args.var (length c.args.values.now) _ _ _ c.requires.var
    c.in_ok-value.ensures.reads))
    (filled_err _ _ _ c.from_residual-in_err-push.ensures.1)

pub returns-clause-reads : goal.returns-clause-reads
returns-clause-reads g c =
    done _ _ _ _ _ (go _ (start (text.value c.args.variables.now c.args.values.now) _)
    (named_as c.args.variables.now c.args.var (length c.args.values.now) _ _ _ c.requires.var
    c.in_ok-value.ensures.reads))
    c.in_ok-value.ensures.reads.can c.in_ok-push.ensures.ok

pub returns-clause-count : goal.returns-clause-count
returns-clause-count g c =
    ap length c.in_ok-push.ensures.ok ∙ length-append c.args.values.now (_ ∷ [])
