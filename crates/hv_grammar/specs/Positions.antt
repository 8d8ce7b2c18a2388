-- Where a source of lines is in a file, and how it moves on.
use Rattle.std.specs.Prelude.{◌≡◌, ℕ, ◌+◌, ◌^◌, ◌≤◌, Bool, true, false, List, [], ◌∷◌, Option, None}
use Rattle.std.specs.Prelude.{Some, Result, Ok, Err, IfSome, OnOk, option_map, length}
use Rattle.hv_bytes.specs.Devices.{Rose}
use Rattle.hv_bytes.specs.Files.{Names}
use Rattle.hv_bytes.specs.FirstLine.{FitsLimits}
use Rattle.hv_bytes.specs.LineCuts.{lines_of}
use Rattle.hv_bytes.specs.Pieces.{PieceBytes, pieces_after}
use Rattle.hv_bytes.specs.States.{LinesState, coming_of, size_of}
use Rattle.hv_bytes.specs.declared.cutting.LineFault.{LineFault}
use Rattle.hv_bytes.specs.declared.cutting.LineFault.TheVariants as L
use Rattle.hv_bytes.specs.declared.cutting.Next.{Next}
use Rattle.hv_bytes.specs.declared.cutting.Next.TheVariants as N

-- where a source stands
pub record Position : Type 0 where
  -- what the cutter of lines says
  pub lines : LinesState
  -- what is known of the source: the bytes left in the open file, and those under each name
  pub left : Option (List ℕ)
  pub held : Option Names
  -- the names that may be opened
  pub allows : List ℕ → Bool
  pub faults : ℕ
  -- which shelf it is
  pub shelf : ℕ

-- the pieces that are still to come, where what the source has left is known
abbrev pub coming : Position → Option (List PieceBytes)
coming p =
    option_map (λ bytes. pieces_after p.lines.limits p.lines.earlier (lines_of bytes))
    (coming_of p.lines p.left)

-- It is the same shelf, which holds what it held; its faults never fall. The limits are the same.
pub record KeepsShelf (old new : Position) : Type 0 where
  pub shelf : new.shelf ≡ old.shelf
  pub held : new.held ≡ old.held
  pub allows : new.allows ≡ old.allows
  pub later : old.faults ≤ new.faults
  pub limits : new.lines.limits ≡ old.lines.limits

-- a further line may be asked for
pub record CanRead (p : Position) : Type 0 where
  pub live : p.lines.live ≡ true
  pub bound : p.lines.limits.file ≤ 2 ^ 62
  pub within : p.lines.number ≤ p.lines.limits.file

-- One line on. Told or not, the line counts, with its bytes and its LF, and is within the limits.
pub record HasLine (old new : Position) : Type 0 where
  pub line : IfSome (coming old) (λ ps. (qs : List PieceBytes) × (ps ≡ Some new.lines.line ∷ qs)
      × (coming new ≡ Some qs))
  pub number : new.lines.number ≡ old.lines.number + 1
  pub going : old.lines.ended ≡ false
  pub counted : new.lines.earlier
      ≡ old.lines.earlier + size_of (length new.lines.line) new.lines.ended
  pub fits : FitsLimits old.lines.limits.line old.lines.limits.file old.lines.earlier
      (length new.lines.line)

-- no line is left
pub record HasEnded (old new : Position) : Type 0 where
  pub none : IfSome (coming old) (λ ps. ps ≡ [])
  pub after : coming new ≡ Some []
  pub lines : new.lines ≡ record old.lines { ended = true }

-- the next line is long
pub record HasLong (old new : Position) : Type 0 where
  pub long : IfSome (coming old) (λ ps. ps ≡ None ∷ [])
  pub number : new.lines.number ≡ old.lines.number

-- what is answered where the next line is asked for; running out of memory is free here
abbrev pub IsAdvance : Position → Position → Result Next LineFault → Type 0
IsAdvance old new (Ok N.Line) = HasLine old new
IsAdvance old new (Ok N.End) = HasEnded old new
IsAdvance old new (Err L.Long) = HasLong old new
IsAdvance old new (Err L.Failed) = Rose old.faults new.faults
IsAdvance old new (Err L.Memory) = Unit {0}

-- the next line was asked for, with this answer
pub record Advances (old new : Position) (result : Result Next LineFault) : Type 0 where
  pub next : IsAdvance old new result
  pub keeps : KeepsShelf old new
  pub can : OnOk result (CanRead new)
