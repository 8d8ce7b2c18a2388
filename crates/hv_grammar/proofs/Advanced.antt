-- What a cutter of lines says of the next line, as a source says it.
use Rattle.std.proofs.Common.{◌≡◌, ◌+◌, Bool, true, false, List, ◌∷◌, Some}
use Rattle.std.proofs.Common.{IfSome, Ok, Err, length, refl, ap, sym, subst}
use Rattle.std.specs.Prelude.{IsErrOf, Result}
use Rattle.std.specs.Io.KnownBytes.{IsAtEnd}
use Rattle.hv_bytes.specs.Devices.{Rose}
use Rattle.hv_bytes.specs.FirstLine.{BeginsLong, FitsLimits, MovesBytes, TakesLine}
use Rattle.hv_bytes.specs.Pieces.{PieceBytes}
use Rattle.hv_bytes.specs.States.{LinesState, coming_of, size_of}
use Rattle.hv_bytes.specs.declared.cutting.LineFault.{LineFault}
use Rattle.hv_bytes.specs.declared.cutting.LineFault.TheVariants as L
use Rattle.hv_bytes.specs.declared.cutting.Next.{Next}
use Rattle.hv_bytes.specs.declared.cutting.Next.TheVariants as N
use Rattle.hv_grammar.specs.Positions.{HasEnded, HasLine, HasLong, IsAdvance, Position, coming}
use Rattle.hv_grammar.proofs.Coming.{cut, cut_end, cut_line, cut_long}

pub is_going : (ended : Bool) → (ended ≡ true → ⊥) → ended ≡ false
is_going true never = absurd (never refl)
is_going false never = refl

pub line_next : (old new : Position)
    → TakesLine (coming_of old.lines old.left) (coming_of new.lines new.left) new.lines.line
    → MovesBytes (coming_of old.lines old.left) (coming_of new.lines new.left) old.lines.earlier
    new.lines.earlier
    → FitsLimits old.lines.limits.line old.lines.limits.file old.lines.earlier
    (length new.lines.line)
    → new.lines.limits ≡ old.lines.limits → new.lines.number ≡ old.lines.number + 1
    → new.lines.earlier ≡ old.lines.earlier + size_of (length new.lines.line) new.lines.ended
    → old.lines.ended ≡ false → HasLine old new
line_next old new first sums fits same number counted going = record {
  line = subst (λ limits. IfSome (coming old) (λ ps. (qs : List PieceBytes)
      × (ps ≡ Some new.lines.line ∷ qs)
      × (cut limits new.lines.earlier (coming_of new.lines new.left) ≡ Some qs))) (sym same)
      (cut_line old.lines.limits (coming_of old.lines old.left) (coming_of new.lines new.left)
      new.lines.line old.lines.earlier new.lines.earlier first sums fits);
  number = number;
  going = going;
  counted = counted;
  fits = fits;
}

pub end_next : (old new : Position) → IsAtEnd (coming_of old.lines old.left)
    → new.lines ≡ record old.lines { ended = true } → HasEnded old new
end_next old new at same = record {
  none = cut_end old.lines.limits (coming_of old.lines old.left) old.lines.earlier at;
  after = ap (λ (l : LinesState). cut l.limits l.earlier (coming_of l new.left)) same;
  lines = same;
}

pub long_next : (old new : Position)
    → BeginsLong (coming_of old.lines old.left) old.lines.limits.line old.lines.limits.file
    old.lines.earlier
    → new.lines.number ≡ old.lines.number → HasLong old new
long_next old new long same = record {
  long = cut_long old.lines.limits (coming_of old.lines old.left) old.lines.earlier long;
  number = same;
}

-- any answer, by what each of them says
pub is_next : (old new : Position) (result : Result Next LineFault)
    → (result ≡ Ok N.Line → HasLine old new) → (result ≡ Ok N.End → HasEnded old new)
    → (IsErrOf result L.Long → HasLong old new)
    → (IsErrOf result L.Failed → Rose old.faults new.faults) → IsAdvance old new result
is_next old new (Ok N.Line) line end long failed = line refl
is_next old new (Ok N.End) line end long failed = end refl
is_next old new (Err L.Long) line end long failed = long refl
is_next old new (Err L.Failed) line end long failed = failed refl
is_next old new (Err L.Memory) line end long failed = tt
