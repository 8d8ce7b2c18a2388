-- A text that grows by what is said of one line more.
use Rattle.std.proofs.Common.{◌≡◌, ℕ, ◌+◌, ◌<◌, ◌∙◌, Bool, List, [], ◌∷◌, ◌++◌, Some, ap, get_or}
use Rattle.std.proofs.Common.{length, slice_get, sym, take}
use Rattle.std.proofs.lemmas.List.{append-nil, take_more}
use Rattle.std.proofs.lemmas.List.Concat.{flat_map-append}
use Rattle.std.proofs.lemmas.Option.{get_or_from_slice_get}
use Rattle.hv_lines.specs.declared.line.Line.{Line}
use Rattle.hv_explain.specs.Explained.{explained_line, explained_lines}

pub line_more : (needed : ℕ → Bool) (lines : List Line) (i : ℕ) (line : Line)
    (before after : List ℕ) → i < length lines
    → slice_get lines i ≡ Some line → before ≡ explained_lines needed (take i lines)
    → after ≡ before ++ explained_line needed line
    → after ≡ explained_lines needed (take (i + 1) lines)
line_more needed lines i line before after within at so_far more =
    more
    ∙ ap (λ t. t ++ explained_line needed line) so_far
    ∙ ap (λ l. explained_lines needed (take i lines) ++ explained_line needed l)
    (sym (get_or_from_slice_get lines i line line at))
    ∙ ap (λ t. explained_lines needed (take i lines) ++ t)
    (sym (append-nil (explained_line needed (get_or lines i line))))
    ∙ sym (flat_map-append (explained_line needed) (take i lines) (get_or lines i line ∷ []))
    ∙ ap (explained_lines needed) (sym (take_more lines i line within))
