-- How a piece comes by its reason: by what it spells.
use Rattle.std.proofs.Common.{ℕ, List, Some, None, inl, inr, refl, subst}
use Rattle.hv_lines.specs.Spelling.{Spells, IsSkipped}
use Rattle.hv_lines.specs.Good.{IsRefutedBy, LinePasses}
use Rattle.hv_lines.specs.Working.Good.{IsReasonOf}
use Rattle.hv_lines.specs.Judged.{IsReason, IsShownBy, Passes}
use Rattle.hv_lines.specs.Order.{Gives, Test}
use Rattle.hv_lines.specs.Order as O
use Rattle.hv_lines.specs.Setting.{Setting}
use Rattle.hv_lines.specs.declared.line.Line.{Line}
use Rattle.hv_lines.specs.declared.reason.Reason.{Reason}
use Rattle.hv_lines.specs.declared.reason.Reason.TheVariants as R
use Rattle.hv_lines.proofs.Reasons.{below_next, below_none}
use Rattle.hv_proof_text.proofs.LineFields.{one_line, skipped_apart}

module _ (setting : Setting) (lines : List Line) where
  -- a piece that is too long fails the first test
  pub long_reason : IsReason setting lines None R.Long
  long_reason = (O.Length, refl, λ passed. passed, below_none (Passes setting lines None))

  module _ (bytes : List ℕ) where
    -- a piece that is neither skipped nor spells a line fails the second
    pub grammar_reason : (IsSkipped bytes → ⊥) → ((line : Line) → Spells line bytes → ⊥)
        → IsReason setting lines (Some bytes) R.Grammar
    grammar_reason read spells_none = (
      O.Spelling,
      refl,
      elim [ inl skipped ↦ read skipped | inr w ↦ spells_none w.0 w.1 ],
      below_next (Passes setting lines (Some bytes)) O.Length
          (below_none (Passes setting lines (Some bytes))) tt,
    )

    module _ (line : Line) (spells : Spells line bytes) where
      -- a piece that spells a line passes the tests that the line passes, and no others
      passes_in : (test : Test) → LinePasses setting lines line test
          → Passes setting lines (Some bytes) test
      passes_in O.Length passes = tt
      passes_in test passes = inr (line, spells, passes)

      passes_out : (test : Test) → Passes setting lines (Some bytes) test
          → LinePasses setting lines line test
      passes_out O.Length passes = tt
      passes_out test (inl skipped) = absurd (skipped_apart line bytes spells skipped)
      passes_out test (inr w) = subst (λ l. LinePasses setting lines l test)
          (one_line w.0 line bytes w.1 spells) w.2

      -- a counterexample to the line is one to the piece
      gives_in : (test : Test) (reason : Reason)
          → Gives (IsRefutedBy setting lines line) test reason
          → Gives (IsShownBy setting lines (Some bytes)) test reason
      gives_in O.Truth reason gives = (gives.0, gives.1, (line, spells, gives.2))
      gives_in test reason gives = gives

      -- so its reason is that of the line
      pub line_reason : (reason : Reason) → IsReasonOf setting lines line reason
          → IsReason setting lines (Some bytes) reason
      line_reason reason why = (
        why.0,
        gives_in why.0 reason why.1,
        λ passed. why.2 (passes_out why.0 passed),
        λ lower less. passes_in lower (why.3 lower less),
      )
