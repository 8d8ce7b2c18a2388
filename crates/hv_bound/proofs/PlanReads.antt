-- What reading a plan file gives.
use Rattle.std.proofs.Common.{◌≡◌, ℕ, List, None, Some, IfSome, Option, Ok, Err, refl, subst}
use Rattle.std.proofs.Common.{sym}
use Rattle.std.specs.Prelude.{IsErrAnd, Result}
use Rattle.hv_bytes.specs.Files.{Names, bytes_of}
use Rattle.hv_bytes.specs.Pieces.{pieces_of}
use Rattle.hv_grammar.specs.Parsers.{Outcome}
use Rattle.hv_grammar.specs.Reads.{IsOfNoLine}
use Rattle.hv_grammar.specs.Working.Reads.{IsReadAs}
use Rattle.hv_grammar.proofs.Whole.{not_opened}
use Rattle.hv_grammar.specs.declared.fault.ParseFault.{ParseFault}
use Rattle.hv_grammar.specs.declared.fault.ParseFault.TheVariants as P
use Rattle.hv_bound.specs.PlanFile.{IsPlanRead, plan_fault, plan_file, plan_limits}
use Rattle.hv_bound.specs.declared.fault.PlanFault.{PlanFault}

stopped : (o : Outcome (Unit {0}) (List ℕ)) (e : ParseFault (Unit {0}))
    (result : Result (List ℕ) PlanFault) → IsReadAs o (Err e)
    → IsErrAnd result (λ f. f ≡ plan_fault e) → IsPlanRead o result
stopped o e (Ok a) h is = absurd is
stopped o (P.Refused n b) (Err f) h is = subst (λ x. IsPlanRead o (Err x)) (sym is) h
stopped o (P.Long n) (Err f) h is = subst (λ x. IsPlanRead o (Err x)) (sym is) h
stopped o P.ReadFault (Err f) h is = subst (λ x. IsPlanRead o (Err x)) (sym is) tt
stopped o P.Memory (Err f) h is = subst (λ x. IsPlanRead o (Err x)) (sym is) tt

-- the fault of the file, as a fault of the plan file
pub plan_stopped : (files : Option Names) (name : List ℕ) (e : ParseFault (Unit {0}))
    (result : Result (List ℕ) PlanFault)
    → IfSome files (λ f. IsReadAs (plan_file 0 (pieces_of plan_limits (bytes_of f name))) (Err e))
    → IsErrAnd result (λ f. f ≡ plan_fault e)
    → IfSome files (λ f. IsPlanRead (plan_file 0 (pieces_of plan_limits (bytes_of f name))) result)
plan_stopped None name e result h is = tt
plan_stopped (Some f) name e result h is =
    stopped (plan_file 0 (pieces_of plan_limits (bytes_of f name))) e result h is

-- the file couldn't be opened
pub not_found : {T : Type 0} (files : Option Names) (name : List ℕ)
    (opened : Result T (ParseFault (Unit {0}))) (e : ParseFault (Unit {0}))
    (result : Result (List ℕ) PlanFault) → opened ≡ Err e → IsOfNoLine e
    → IsErrAnd result (λ f. f ≡ plan_fault e)
    → IfSome files (λ f. IsPlanRead (plan_file 0 (pieces_of plan_limits (bytes_of f name))) result)
not_found files name opened e result was out is =
    plan_stopped files name e result
    (not_opened plan_file files name plan_limits e (Err e) out refl) is
