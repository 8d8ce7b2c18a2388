-- What a reader of a part of a format does.
use Rattle.std.specs.Prelude.{◌≡◌, ℕ, ◌+◌, Bool, true, false, Option, Some}
use Rattle.std.specs.Prelude.{Result, Ok, Err, IfSome, OnOk, option_map}
use Rattle.hv_bytes.specs.Devices.{Rose}
use Rattle.hv_grammar.specs.declared.fault.ParseFault.{ParseFault}
use Rattle.hv_grammar.specs.declared.fault.ParseFault.TheVariants as F
use Rattle.hv_grammar.specs.Parsers.{Outcome, Parser, long, pure, refused}
use Rattle.hv_grammar.specs.Positions.{CanRead, HasEnded, HasLine, HasLong, KeepsShelf, Position}
use Rattle.hv_grammar.specs.Positions.{coming}

-- what comes of a part from here on, where what the source has left is known
abbrev pub outcome_at : {A B : Type 0} → Parser B A → Position → Option (Outcome B A)
outcome_at part p = option_map (part p.lines.number) (coming p)

-- the answer is what comes of the part; faults of the device and running out of memory are free
-- here
abbrev pub Yields : {A B : Type 0} → Parser B A → Position → Position → Result A (ParseFault B)
    → Type 0
Yields part old new (Ok a) =
    IfSome (outcome_at part old) (λ o. outcome_at (pure a) new ≡ Some o)
Yields part old new (Err (F.Refused n b)) = IfSome (outcome_at part old) (λ o. o ≡ refused n b)
Yields part old new (Err (F.Long n)) = IfSome (outcome_at part old) (λ o. o ≡ long n)
Yields part old new (Err F.ReadFault) = Rose old.faults new.faults
Yields part old new (Err F.Memory) = Unit {0}

-- the part was read, from the one position to the other, with this answer
pub record Reads {A B : Type 0} (part : Parser B A) (old new : Position)
    (result : Result A (ParseFault B)) : Type 0
  where
    pub yields : Yields part old new result
    pub keeps : KeepsShelf old new
    pub can : OnOk result (CanRead new)

-- what is wrong with the line of this number, where it is refused
abbrev pub at_number : {A B : Type 0} → ℕ → Result A B → Result A (ParseFault B)
at_number n (Ok a) = Ok a
at_number n (Err b) = Err (F.Refused n b)

-- what is answered where a line is asked for that has to be there
abbrev pub IsFetched : {B : Type 0} → Position → Position → B → Result (Unit {0}) (ParseFault B)
    → Type 0
IsFetched old new lacking (Ok _) = HasLine old new
IsFetched old new lacking (Err (F.Refused n b)) =
    HasEnded old new × (n ≡ old.lines.number + 1) × (b ≡ lacking)
IsFetched old new lacking (Err (F.Long n)) = HasLong old new × (n ≡ old.lines.number + 1)
IsFetched old new lacking (Err F.ReadFault) = Rose old.faults new.faults
IsFetched old new lacking (Err F.Memory) = Unit {0}

pub record Fetches {B : Type 0} (old new : Position) (lacking : B)
    (result : Result (Unit {0}) (ParseFault B)) : Type 0
  where
    pub fetched : IsFetched old new lacking result
    pub keeps : KeepsShelf old new
    pub can : OnOk result (CanRead new)

-- the same of a line that may be there
abbrev pub IsSought : {B : Type 0} → Position → Position → Result Bool (ParseFault B) → Type 0
IsSought old new (Ok true) = HasLine old new
IsSought old new (Ok false) = HasEnded old new
IsSought old new (Err (F.Refused n b)) = ⊥
IsSought old new (Err (F.Long n)) = HasLong old new × (n ≡ old.lines.number + 1)
IsSought old new (Err F.ReadFault) = Rose old.faults new.faults
IsSought old new (Err F.Memory) = Unit {0}

pub record Seeks {B : Type 0} (old new : Position) (result : Result Bool (ParseFault B)) : Type 0
  where
    pub sought : IsSought old new result
    pub keeps : KeepsShelf old new
    pub can : OnOk result (CanRead new)

-- the fault is one of the device or of memory
abbrev pub IsOfNoLine : {B : Type 0} → ParseFault B → Type 0
IsOfNoLine (F.Refused n b) = ⊥
IsOfNoLine (F.Long n) = ⊥
IsOfNoLine F.ReadFault = Unit {0}
IsOfNoLine F.Memory = Unit {0}
