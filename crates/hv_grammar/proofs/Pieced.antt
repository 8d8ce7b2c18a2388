-- What comes of the pieces to come, over one line, at the end, and before a long line: whatever it
-- is that is made of them.
use Rattle.std.proofs.Common.{◌≡◌, ◌∙◌, List, [], ◌∷◌, Option, None, Some, IfSome, ap, sym}
use Rattle.std.specs.Prelude.{option_map}
use Rattle.hv_bytes.specs.Pieces.{PieceBytes}
use Rattle.hv_grammar.specs.Positions.{HasEnded, HasLine, HasLong, Position, coming}

module _ {X : Type 0} (old new : Position) (f : List PieceBytes → X) where
  line_in : (g : List PieceBytes → X) (cs ds : Option (List PieceBytes))
      → IfSome cs (λ ps. (qs : List PieceBytes) × (ps ≡ Some new.lines.line ∷ qs) × (ds ≡ Some qs))
      → ((qs : List PieceBytes) → f (Some new.lines.line ∷ qs) ≡ g qs)
      → IfSome (option_map f cs) (λ o. option_map g ds ≡ Some o)
  line_in g None ds h same = tt
  line_in g (Some ps) ds h same =
      ap (option_map g) h.2
      ∙ ap (λ o. Some o) (sym (same h.0) ∙ ap f (sym h.1))

  pub over_line : (g : List PieceBytes → X) → HasLine old new
      → ((qs : List PieceBytes) → f (Some new.lines.line ∷ qs) ≡ g qs)
      → IfSome (option_map f (coming old)) (λ o. option_map g (coming new) ≡ Some o)
  over_line g has same = line_in g (coming old) (coming new) has.line same

  bad_in : (bad : X) (cs ds : Option (List PieceBytes))
      → IfSome cs (λ ps. (qs : List PieceBytes) × (ps ≡ Some new.lines.line ∷ qs) × (ds ≡ Some qs))
      → ((qs : List PieceBytes) → f (Some new.lines.line ∷ qs) ≡ bad)
      → IfSome (option_map f cs) (λ o. o ≡ bad)
  bad_in bad None ds h same = tt
  bad_in bad (Some ps) ds h same = ap f h.1 ∙ same h.0

  pub at_bad : (bad : X) → HasLine old new
      → ((qs : List PieceBytes) → f (Some new.lines.line ∷ qs) ≡ bad)
      → IfSome (option_map f (coming old)) (λ o. o ≡ bad)
  at_bad bad has same = bad_in bad (coming old) (coming new) has.line same

  here : (pieces : List PieceBytes) (bad : X) (cs : Option (List PieceBytes)) → IfSome cs (λ ps. ps
      ≡ pieces)
      → f pieces ≡ bad → IfSome (option_map f cs) (λ o. o ≡ bad)
  here pieces bad None h same = tt
  here pieces bad (Some ps) h same = ap f h ∙ same

  pub at_end : (bad : X) → HasEnded old new → f [] ≡ bad
      → IfSome (option_map f (coming old)) (λ o. o ≡ bad)
  at_end bad has same = here [] bad (coming old) has.none same

  pub at_long : (bad : X) → HasLong old new → f (None ∷ []) ≡ bad
      → IfSome (option_map f (coming old)) (λ o. o ≡ bad)
  at_long bad has same = here (None ∷ []) bad (coming old) has.long same
