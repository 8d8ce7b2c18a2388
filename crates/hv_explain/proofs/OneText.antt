-- The lines of a table are told of by one text.
use Rattle.std.proofs.Common.{◌≡◌, ℕ, ◌∙◌, Bool, List, [], ◌∷◌, ◌++◌, ap, refl, reverse, sym}
use Rattle.std.specs.Cmp.Derive.{one_truth}
use Rattle.hv_lines.specs.Spelling.{spelling_of}
use Rattle.hv_lines.specs.declared.line.Line.{Line}
use Rattle.hv_lines.specs.declared.line.Line.TheVariants as L
use Rattle.hv_explain.specs.Explained.{IsExplanation, explained_line, explained_lines, need_word}

module _ (p q : ℕ → Bool) (same : (id : ℕ) → p id ≡ q id) where
  one_line : (line : Line) → explained_line p line ≡ explained_line q line
  one_line (L.Acts id acts) = refl
  one_line (L.Expr id expr) = refl
  one_line (L.Known id st w ps) = ap (λ b. spelling_of (L.Known id st w ps) ++ 32
      ∷ (need_word b ++ 10 ∷ [])) (same id)

  one_text : (lines : List Line) → explained_lines p lines ≡ explained_lines q lines
  one_text [] = refl
  one_text (line ∷ lines) =
      ap (λ t. t ++ explained_lines p lines) (one_line line)
      ∙ ap (λ t. explained_line q line ++ t) (one_text lines)

pub one_explanation : (lines : List Line) (text other : List ℕ) → IsExplanation lines text
    → IsExplanation lines other → text ≡ other
one_explanation lines text other x y =
    x.says
    ∙ one_text x.needed y.needed
    (λ id. one_truth (x.needed id) (y.needed id) (λ h. (y.exact id).1 ((x.exact id).0 h))
    (λ h. (x.exact id).1 ((y.exact id).0 h)))
    (reverse lines)
    ∙ sym y.says
