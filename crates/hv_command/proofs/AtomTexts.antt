-- The text of a state's atoms, one atom after another.
use Rattle.std.proofs.Common.{◌≡◌, ℕ, ◌+◌, ◌∙◌, Bool, List, [], ◌∷◌, ◌++◌, map, append-nil}
use Rattle.std.proofs.Common.{append_assoc, ap, arith, sym}
use Rattle.std.specs.List.{flat_map, range_with_len}
use Rattle.std.proofs.lemmas.List.Concat.{flat_map-append}
use Rattle.std.proofs.lemmas.List.Folds.{flat_map-map}
use Rattle.std.proofs.lemmas.List.FromFn.{map-range_with_len_more}
use Rattle.hv_command.specs.Replies.{atom_text}

-- one atom more
pub atoms_more : (state : List Bool) (n : ℕ) → flat_map (atom_text state) (range_with_len 0 (n + 1))
    ≡ flat_map (atom_text state) (range_with_len 0 n) ++ atom_text state n
atoms_more state n =
    let each = map (atom_text state) (range_with_len 0 n) in
    sym (flat_map-map (λ (t : List ℕ). t) (atom_text state) (range_with_len 0 (n + 1)))
    ∙ (ap (flat_map (λ (t : List ℕ). t)) (map-range_with_len_more (atom_text state) 0 n n
    (omega arith))
    ∙ (flat_map-append (λ (t : List ℕ). t) each (atom_text state n ∷ [])
    ∙ (ap (λ t. flat_map (λ (t : List ℕ). t) each ++ t) (append-nil (atom_text state n))
    ∙ ap (λ t. t ++ atom_text state n) (flat_map-map
    (λ (t : List ℕ). t) (atom_text state) (range_with_len 0 n)))))

-- a text with one atom more
pub text_more : (state : List Bool) (n : ℕ) (old now new : List ℕ)
    → now ≡ old ++ flat_map (atom_text state) (range_with_len 0 n)
    → new ≡ now ++ atom_text state n → new ≡ old
    ++ flat_map (atom_text state) (range_with_len 0 (n + 1))
text_more state n old now new so_far more =
    more ∙ (ap (λ t. t ++ atom_text state n) so_far
    ∙ (append_assoc old (flat_map (atom_text state) (range_with_len 0 n)) (atom_text state n)
    ∙ ap (λ t. old ++ t) (sym (atoms_more state n))))
