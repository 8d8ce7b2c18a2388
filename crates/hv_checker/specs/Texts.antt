-- The text of a piece.
use Rattle.std.specs.Prelude.{Some, None}
use Rattle.hv_lines.specs.Judged.{LineText}
use Rattle.hv_checker.specs.declared.piece.Piece.{Piece}
use Rattle.hv_checker.specs.declared.piece.Piece.TheVariants as P

-- what was fed: the bytes of a line, or none where the line is too long
abbrev pub text_of : Piece → LineText
text_of (P.Line bytes) = Some bytes.now
text_of P.Long = None
