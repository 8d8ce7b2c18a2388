-- No line of a file has an LF.
use Rattle.std.proofs.Common.{◌≡◌, ◌≢◌, ℕ, Bool, true, false, cond, List, [], ◌∷◌, eqb}
use Rattle.std.proofs.Common.{All, refl, subst, sym}
use Rattle.std.specs.List.{onto_first}
use Rattle.std.proofs.lemmas.Bool.Decides.{Decides-eqb}
use Rattle.std.proofs.lemmas.List.Elements.{All-cons, All-head, All-nil, All-tail}
use Rattle.hv_bytes.specs.LineCuts.{IsClean, lines_of}
use Rattle.hv_bytes.specs.Pieces.{as_pieces, pieces_of}
use Rattle.hv_bytes.specs.declared.cutting.Limits.{Limits}
use Rattle.hv_bytes.proofs.WholeText.{lines_from_pieces}

abbrev IsNoLf : ℕ → Type 0
IsNoLf b = b ≢ 10

clean_first : (b : ℕ) (lines : List (List ℕ)) → b ≢ 10 → All IsClean lines
    → All IsClean (onto_first b lines)
clean_first b [] other clean =
    All-cons IsClean (b ∷ []) [] (All-cons IsNoLf b [] other (All-nil IsNoLf)) (All-nil IsClean)
clean_first b (line ∷ lines) other clean =
    All-cons IsClean (b ∷ line) lines
    (All-cons IsNoLf b line other (All-head IsClean line lines clean))
    (All-tail IsClean line lines clean)

clean_more : (b : ℕ) (lines : List (List ℕ)) (t : Bool) → eqb b 10 ≡ t → All IsClean lines
    → All IsClean (cond t ([] ∷ lines) (onto_first b lines))
clean_more b lines true is clean = All-cons IsClean [] lines (All-nil IsNoLf) clean
clean_more b lines false is clean =
    clean_first b lines (λ e. let t = (Decides-eqb b 10).1 e in absurd cc) clean

pub clean_lines : (file : List ℕ) → All IsClean (lines_of file)
clean_lines [] = All-nil IsClean
clean_lines (b ∷ bytes) = clean_more b (lines_of bytes) (eqb b 10) refl (clean_lines bytes)

-- so none of the pieces has one, where they are lines
pub clean_pieces : (limits : Limits) (file : List ℕ) (lines : List (List ℕ))
    → pieces_of limits file ≡ as_pieces lines → All IsClean lines
clean_pieces limits file lines cut =
    subst (All IsClean) (sym (lines_from_pieces limits file lines cut)) (clean_lines file)
