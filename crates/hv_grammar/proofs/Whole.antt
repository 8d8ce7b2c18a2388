-- A reader of a whole file.
use Rattle.std.proofs.Common.{◌≡◌, ℕ, List, Option, None, Some, IfSome, Ok, Err, refl, ap, sym}
use Rattle.std.proofs.Common.{subst, ◌∙◌}
use Rattle.std.specs.Prelude.{IsErrAnd, Result, option_map}
use Rattle.hv_bytes.specs.Files.{Names, Opens, bytes_of}
use Rattle.hv_bytes.specs.Pieces.{PieceBytes, pieces_of}
use Rattle.hv_bytes.specs.States.{LinesState, coming_of, no_lines}
use Rattle.hv_bytes.specs.declared.cutting.Limits.{Limits}
use Rattle.hv_grammar.proofs.Coming.{cut}
use Rattle.hv_grammar.specs.declared.fault.ParseFault.{ParseFault}
use Rattle.hv_grammar.specs.declared.fault.ParseFault.TheVariants as F
use Rattle.hv_grammar.specs.Parsers.{Outcome, Parser, long, parsed, pure, refused}
use Rattle.hv_grammar.specs.Positions.{Position, coming}
use Rattle.hv_grammar.specs.Reads.{IsOfNoLine, Reads, Yields}
use Rattle.hv_grammar.specs.Working.Reads.{IsReadAs}

from_some : {A : Type 0} (a b : A) → ◌≡◌ {A = Option A} (Some a) (Some b) → a ≡ b
from_some a b e = cc

value_of : {A B : Type 0} (part : Parser B A) (a : A) (n m : ℕ) (ps : List PieceBytes)
    (cs ds : Option (List PieceBytes)) → cs ≡ Some ps → n ≡ 0
    → IfSome (option_map (part n) cs)
    (λ o. ◌≡◌ {A = Option (Outcome B A)} (option_map (pure a m) ds) (Some o))
    → (k : ℕ) × (qs : List PieceBytes) × (part 0 ps ≡ parsed a k qs)
value_of part a n m ps None ds c z h = absurd cc
value_of part a n m ps (Some rs) None c z h = absurd cc
value_of part a n m ps (Some rs) (Some qs) c z h = (
  m,
  qs,
  ap (part 0) (sym (from_some rs ps c)) ∙ ap (λ k. part k rs) (sym z)
      ∙ sym (from_some (parsed a m qs) (part n rs) h),
)

fault_of : {A B : Type 0} (part : Parser B A) (bad : Outcome B A) (n : ℕ) (ps : List PieceBytes)
    (cs : Option (List PieceBytes)) → cs ≡ Some ps → n ≡ 0
    → IfSome (option_map (part n) cs) (λ o. o ≡ bad) → part 0 ps ≡ bad
fault_of part bad n ps None c z h = absurd cc
fault_of part bad n ps (Some rs) c z h =
    ap (part 0) (sym (from_some rs ps c)) ∙ ap (λ k. part k rs) (sym z) ∙ h

from_answers : {A B : Type 0} (part : Parser B A) (old new : Position) (ps : List PieceBytes)
    (result : Result A (ParseFault B)) → coming old ≡ Some ps → old.lines.number ≡ 0
    → Yields part old new result → IsReadAs (part 0 ps) result
from_answers part old new ps (Ok a) c n h =
    value_of part a old.lines.number new.lines.number ps (coming old) (coming new) c n h
from_answers part old new ps (Err (F.Refused m b)) c n h =
    fault_of part (refused m b) old.lines.number ps (coming old) c n h
from_answers part old new ps (Err (F.Long m)) c n h =
    fault_of part (long m) old.lines.number ps (coming old) c n h
from_answers part old new ps (Err F.ReadFault) c n h = tt
from_answers part old new ps (Err F.Memory) c n h = tt

-- a file that was opened just now: all its pieces are to come
coming_all : (files : Option Names) (name : List ℕ) (limits : Limits) (left : Option (List ℕ))
    (lines : LinesState) → Opens files name left → lines ≡ no_lines limits
    → IfSome files (λ f. cut lines.limits lines.earlier (coming_of lines left)
    ≡ Some (pieces_of limits (bytes_of f name)))
coming_all None name limits left lines o same = tt
coming_all (Some f) name limits left lines o same = rw same (rw o refl)

answered : {A B : Type 0} (part : Parser B A) (files : Option Names) (name : List ℕ)
    (limits : Limits) (old new : Position) (result : Result A (ParseFault B))
    → IfSome files (λ f. coming old ≡ Some (pieces_of limits (bytes_of f name)))
    → old.lines.number ≡ 0 → Yields part old new result
    → IfSome files (λ f. IsReadAs (part 0 (pieces_of limits (bytes_of f name))) result)
answered part None name limits old new result c n r = tt
answered part (Some f) name limits old new result c n r =
    from_answers part old new (pieces_of limits (bytes_of f name)) result c n r

-- the whole file is read, from its start
pub whole_answer : {A B : Type 0} (part : Parser B A) (files : Option Names) (name : List ℕ)
    (limits : Limits) (old new : Position) (result : Result A (ParseFault B))
    → Opens files name old.left → old.lines ≡ no_lines limits → Reads part old new result
    → IfSome files (λ f. IsReadAs (part 0 (pieces_of limits (bytes_of f name))) result)
whole_answer part files name limits old new result opens fresh r =
    answered part files name limits old new result
    (coming_all files name limits old.left old.lines opens fresh)
    (ap (λ (l : LinesState). l.number) fresh) r.yields

outside_answer : {A B : Type 0} (o : Outcome B A) (e : ParseFault B) (result : Result A
    (ParseFault B))
    → IsOfNoLine e → IsErrAnd result (λ f. f ≡ e) → IsReadAs o result
outside_answer o e (Ok a) out is = absurd is
outside_answer o (F.Refused n b) (Err f) out is = absurd out
outside_answer o (F.Long n) (Err f) out is = absurd out
outside_answer o F.ReadFault (Err f) out is = subst (λ f. IsReadAs o (Err f)) (sym is) tt
outside_answer o F.Memory (Err f) out is = subst (λ f. IsReadAs o (Err f)) (sym is) tt

-- the file couldn't be opened
pub not_opened : {A B : Type 0} (part : Parser B A) (files : Option Names) (name : List ℕ)
    (limits : Limits) (e : ParseFault B) (result : Result A (ParseFault B)) → IsOfNoLine e
    → IsErrAnd result (λ f. f ≡ e)
    → IfSome files (λ f. IsReadAs (part 0 (pieces_of limits (bytes_of f name))) result)
not_opened part None name limits e result out is = tt
not_opened part (Some f) name limits e result out is =
    outside_answer (part 0 (pieces_of limits (bytes_of f name))) e result out is
