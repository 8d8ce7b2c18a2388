-- Lines cut into fields.
use Rattle.std.proofs.Common.{◌≡◌, ℕ, ◌<◌, ◌==◌, List, [], ◌∷◌, None, length, refl, sym, ◌∙◌}
use Rattle.std.proofs.Common.{ap, arith}
use Rattle.std.proofs.lemmas.List.Splits.{length-slice_split}
use Rattle.hv_bytes.specs.Fields.{cut_fields}
use Rattle.hv_sas.specs.Lines.{effect_in, two_of}
use Rattle.hv_sas.specs.declared.sas_task.SasVariable.{SasVariable}

fields_some : (bytes : List ℕ) → 0 < length (cut_fields bytes)
fields_some bytes = let e = length-slice_split (λ b. b == 32) bytes in omega arith

two_more : (a b : List ℕ) (rest : List (List ℕ)) → 0 < length rest → None ≡ two_of (a ∷ b ∷ rest)
two_more a b [] some = absurd (omega arith)
two_more a b (c ∷ rest) some = refl

pub two_none : (line mid more a b : List ℕ) → cut_fields line ≡ a ∷ cut_fields mid
    → cut_fields mid ≡ b ∷ cut_fields more → None ≡ two_of (cut_fields line)
two_none line mid more a b first second =
    two_more a b (cut_fields more) (fields_some more)
    ∙ ap two_of (sym (first ∙ ap (λ fs. a ∷ fs) second))

three_more : (vs : List SasVariable) (a b c : List ℕ) (rest : List (List ℕ)) → 0 < length rest
    → None ≡ effect_in vs (a ∷ b ∷ c ∷ rest)
three_more vs a b c [] some = absurd (omega arith)
three_more vs a b c (d ∷ rest) some = refl

pub three_none : (vs : List SasVariable) (line mid next more a b c : List ℕ)
    → cut_fields line ≡ a ∷ cut_fields mid → cut_fields mid ≡ b ∷ cut_fields next
    → cut_fields next ≡ c ∷ cut_fields more → None ≡ effect_in vs (cut_fields line)
three_none vs line mid next more a b c first second third =
    three_more vs a b c (cut_fields more) (fields_some more)
    ∙ ap (effect_in vs) (sym (first ∙ ap (λ fs. a ∷ fs) (second ∙ ap (λ fs. b ∷ fs) third)))
