-- The first field of a line.
use Rattle.std.proofs.Common.{◌≡◌, ◌≢◌, ℕ, ◌+◌, Bool, true, false, List, [], ◌∷◌, ◌++◌, take, drop}
use Rattle.std.proofs.Common.{refl, sym, ap, ◌∙◌, eqb, take-append-drop}
use Rattle.std.proofs.lemmas.Bool.{eqb-true}
use Rattle.std.proofs.lemmas.List.Elements.{All-weaker}
use Rattle.std.proofs.lemmas.List.Splits.{slice_split_at, slice_split_none}
use Rattle.std.specs.List.{All}
use Rattle.hv_bytes.specs.Fields.{HasNoSpace, cut_fields}
use Rattle.hv_bytes.specs.Working.Fields.{IsFirstSpace}

differs : (b : ℕ) (t : Bool) → eqb b 32 ≡ t → b ≢ 32 → t ≡ false
differs b true e ne = absurd (ne (eqb-true b 32 e))
differs b false e ne = refl

abbrev IsNoSpace : ℕ → Type 0
IsNoSpace b = b ≢ 32

abbrev FailsSpace : ℕ → Type 0
FailsSpace b = eqb b 32 ≡ false

fail_space : (bytes : List ℕ) → HasNoSpace bytes → All FailsSpace bytes
fail_space bytes clean = All-weaker IsNoSpace FailsSpace
    (λ b ne. differs b (eqb b 32) refl ne) bytes clean

-- a field that ends at the first space
pub cut_fields-at : (line : List ℕ) (at : ℕ) → IsFirstSpace line at
    → cut_fields line ≡ take at line ∷ cut_fields (drop (at + 1) line)
cut_fields-at line at first =
    ap cut_fields (sym (take-append-drop at line) ∙ ap (λ bytes. take at line ++ bytes) first.here)
    ∙ slice_split_at (λ b. eqb b 32) (take at line) 32 (drop (at + 1) line)
    (fail_space (take at line) first.clean) refl

-- the last field
pub cut_fields-last : (line : List ℕ) → HasNoSpace line → cut_fields line ≡ line ∷ []
cut_fields-last line clean = slice_split_none (λ b. eqb b 32) line (fail_space line clean)
