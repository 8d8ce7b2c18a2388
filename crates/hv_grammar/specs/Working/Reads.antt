-- Working definitions beside those of `Reads`: for private contracts and proofs.
use Rattle.std.specs.Prelude.{◌≡◌, ℕ, List, Result, Ok, Err}
use Rattle.hv_bytes.specs.Pieces.{PieceBytes}
use Rattle.hv_grammar.specs.declared.fault.ParseFault.{ParseFault}
use Rattle.hv_grammar.specs.declared.fault.ParseFault.TheVariants as F
use Rattle.hv_grammar.specs.Parsers.{Outcome, long, parsed, refused}

-- the answer of a call that left its value where it was told to
abbrev pub placed : {A B : Type 0} → A → Result (Unit {0}) (ParseFault B) → Result A (ParseFault B)
placed a (Ok _) = Ok a
placed a (Err e) = Err e

-- What a reader of a whole file answers, where this comes of the file: the value, or its first
-- fault. Faults of the device and running out of memory are free here.
abbrev pub IsReadAs : {A B : Type 0} → Outcome B A → Result A (ParseFault B) → Type 0
IsReadAs o (Ok a) = (n : ℕ) × (ps : List PieceBytes) × (o ≡ parsed a n ps)
IsReadAs o (Err (F.Refused n b)) = o ≡ refused n b
IsReadAs o (Err (F.Long n)) = o ≡ long n
IsReadAs o (Err F.ReadFault) = Unit {0}
IsReadAs o (Err F.Memory) = Unit {0}
