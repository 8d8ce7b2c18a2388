-- The pieces to come, one line on and at the end.
use Rattle.std.proofs.Common.{◌≡◌, ℕ, List, [], ◌∷◌, Option, None, Some, IfSome, length}
use Rattle.std.proofs.Common.{refl, ap, ◌∙◌}
use Rattle.std.specs.Prelude.{option_map}
use Rattle.std.specs.Io.KnownBytes.{IsAtEnd}
use Rattle.hv_bytes.specs.FirstLine.{BeginsLong, FitsLimits, MovesBytes, TakesLine}
use Rattle.hv_bytes.specs.LineCuts.{lines_of}
use Rattle.hv_bytes.specs.Pieces.{PieceBytes, pieces_after}
use Rattle.hv_bytes.specs.declared.cutting.Limits.{Limits}
use Rattle.hv_bytes.proofs.LineLaws.{lines_of-first}
use Rattle.hv_bytes.proofs.WholeText.{pieces-long, pieces_taken}

-- the pieces of the bytes to come
abbrev pub cut : Limits → ℕ → Option (List ℕ) → Option (List PieceBytes)
cut limits earlier known = option_map (λ bytes. pieces_after limits earlier (lines_of bytes)) known

pub cut_line : (limits : Limits) (old new : Option (List ℕ)) (line : List ℕ) (before after : ℕ)
    → TakesLine old new line → MovesBytes old new before after
    → FitsLimits limits.line limits.file before (length line)
    → IfSome (cut limits before old)
    (λ ps. (qs : List PieceBytes) × (ps ≡ Some line ∷ qs) × (cut limits after new ≡ Some qs))
cut_line limits None new line before after first sums fits = tt
cut_line limits (Some old) None line before after first sums fits = absurd first
cut_line limits (Some old) (Some new) line before after first sums fits = (
  pieces_after limits after (lines_of new),
  pieces_taken limits old line new before after first
      sums fits,
  refl,
)

pub cut_long : (limits : Limits) (old : Option (List ℕ)) (before : ℕ)
    → BeginsLong old limits.line limits.file before
    → IfSome (cut limits before old) (λ ps. ps ≡ None ∷ [])
cut_long limits None before long = tt
cut_long limits (Some old) before long =
    ap (pieces_after limits before) (lines_of-first old long.0 long.1 long.2)
    ∙ pieces-long limits before long.0 (lines_of long.1) long.3

pub cut_end : (limits : Limits) (old : Option (List ℕ)) (before : ℕ) → IsAtEnd old
    → IfSome (cut limits before old) (λ ps. ps ≡ [])
cut_end limits None before end = tt
cut_end limits (Some old) before end = ap (λ b. pieces_after limits before (lines_of b)) end
