-- What a reader of a whole file answers.
use Rattle.std.proofs.Common.{◌≡◌, ℕ, List, Option, None, Some, IfSome, Ok, Err, ap, sym, subst}
use Rattle.std.specs.Prelude.{Result}
use Rattle.hv_bytes.specs.Files.{Names, bytes_of}
use Rattle.hv_bytes.specs.Pieces.{pieces_of}
use Rattle.hv_bytes.specs.declared.cutting.Limits.{Limits}
use Rattle.hv_grammar.specs.declared.fault.ParseFault.{ParseFault}
use Rattle.hv_grammar.specs.declared.fault.ParseFault.TheVariants as P
use Rattle.hv_grammar.specs.Working.Reads.{IsReadAs}
use Rattle.hv_sas.specs.declared.fault.SasRefusal.{SasRefusal}
use Rattle.hv_sas.specs.declared.fault.SasRefusal.TheVariants as R
use Rattle.hv_sas.specs.declared.fault.SasFault.{SasFault}
use Rattle.hv_sas.specs.declared.fault.SasFault.TheVariants as F
use Rattle.hv_sas.specs.declared.sas_task.Sas.{Sas}
use Rattle.hv_sas.specs.Answer.{IsSasReadFrom, answer_of}
use Rattle.hv_sas.specs.Text.{sas_file}
use Rattle.hv_sas.specs.Working.Reading.{sas_fault}

-- what the caller is told
abbrev pub told : Result Sas (ParseFault SasRefusal) → Result Sas SasFault
told (Ok sas) = Ok sas
told (Err stop) = Err (sas_fault stop)

read_from : (limits : Limits) (bytes : List ℕ) (r : Result Sas (ParseFault SasRefusal))
    → IsReadAs (sas_file 0 (pieces_of limits bytes)) r → IsSasReadFrom limits bytes (told r)
read_from limits bytes (Ok sas) h = ap answer_of h.2
read_from limits bytes (Err (P.Refused n (R.Place kind))) h = ap answer_of h
read_from limits bytes (Err (P.Refused n (R.Unsupported which))) h = ap answer_of h
read_from limits bytes (Err (P.Refused n (R.Limit limit))) h = ap answer_of h
read_from limits bytes (Err (P.Long n)) h = ap answer_of h
read_from limits bytes (Err P.ReadFault) h = tt
read_from limits bytes (Err P.Memory) h = tt

pub read_told : (limits : Limits) (name : List ℕ) (files : Option Names)
    (r : Result Sas (ParseFault SasRefusal)) (result : Result Sas SasFault) → result ≡ told r
    → IfSome files (λ held. IsReadAs (sas_file 0 (pieces_of limits (bytes_of held name))) r)
    → IfSome files (λ held. IsSasReadFrom limits (bytes_of held name) result)
read_told limits name None r result e h = tt
read_told limits name (Some held) r result e h =
    subst (λ x. IsSasReadFrom limits (bytes_of held name) x) (sym e)
    (read_from limits (bytes_of held name) r h)

pub failed_from : (stop : ParseFault SasRefusal) → sas_fault stop ≡ F.ReadFault → stop ≡ P.ReadFault
failed_from (P.Refused n (R.Place kind)) e = absurd cc
failed_from (P.Refused n (R.Unsupported which)) e = absurd cc
failed_from (P.Refused n (R.Limit limit)) e = absurd cc
failed_from (P.Long n) e = absurd cc
failed_from P.ReadFault e = Rattle.std.proofs.Common.refl
failed_from P.Memory e = absurd cc
