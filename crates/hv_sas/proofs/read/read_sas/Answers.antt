use Rattle.std.proofs.Common.{◌≡◌, ◌∙◌, Err, Ok, ap, refl, sym}
use Rattle.hv_sas.specs.declared.fault.SasFault.TheVariants as F
use Rattle.hv_sas.proofs.Answered.{failed_from, read_told}
use Rattle.hv_sas.proofs.read.read_sas.Goals as goal

pub returns-in-Ok-clause-read : goal.returns-in-Ok-clause-read
returns-in-Ok-clause-read g c =
    read_told c.args.limits c.args.name.now (g.S.Shelf.held c.args.shelf.now)
    (Ok c.in-Ok.sas) _ refl c.in-Ok.ensures.read

pub returns-in-Err-clause-read : goal.returns-in-Err-clause-read
returns-in-Err-clause-read g c =
    read_told c.args.limits c.args.name.now (g.S.Shelf.held c.args.shelf.now) (Err c.in-Err.stop) _
    (ap (λ f. Err f) c.sas_fault.ensures) c.in-Err.ensures.read

pub returns-in-Err-clause-cause : goal.returns-in-Err-clause-cause
returns-in-Err-clause-cause g c = λ e.
    let is : c.sas_fault.result ≡ F.ReadFault = cc in
    c.in-Err.ensures.cause (ap (λ s. Err s)
    (failed_from c.in-Err.stop (sym c.sas_fault.ensures ∙ is)))
