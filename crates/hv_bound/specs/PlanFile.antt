-- Plan files, as the table of their format.
use Rattle.std.specs.Prelude.{◌≡◌, ◌==◌, ◌++◌, ℕ, List, [], ◌∷◌, Option, Some, None, Result, Ok}
use Rattle.std.specs.Prelude.{Err}
use Rattle.std.specs.Prelude.{if◌then◌else◌, option_map, option_to_list}
use Rattle.hv_bytes.specs.Pieces.{PieceBytes}
use Rattle.hv_bytes.specs.Standard.{most_line_bytes}
use Rattle.hv_bytes.specs.declared.cutting.Limits.{Limits}
use Rattle.hv_grammar.specs.Forms.{or_refused, short_decimal_of}
use Rattle.hv_grammar.specs.declared.fault.ParseFault.{ParseFault}
use Rattle.hv_grammar.specs.declared.fault.ParseFault.TheVariants as P
use Rattle.hv_grammar.specs.Parsers.{Outcome, Parser, long, many, parsed, refused}
use Rattle.hv_bound.specs.declared.fault.PlanFault.{PlanFault}
use Rattle.hv_bound.specs.declared.fault.PlanFault.TheVariants as F

-- The limits of the lines of a plan file. A line of more than 16,777,216 bytes ends past byte
-- 8,388,608 too: so a line is long exactly where its last byte lies past that one.
abbrev pub plan_limits : Limits
plan_limits = record { line = most_line_bytes; file = 8388608 }

-- the step whose number was spelled, which has to be there
abbrev pub spelled_step : Option ℕ → Result (Option ℕ) (Unit {0})
spelled_step number = or_refused tt (option_map (λ n. Some n) number)

-- what a line says: no step where it is empty or begins with `#`, byte 35, and else the step whose
-- number it spells, a short decimal
abbrev pub step_in : List ℕ → Result (Option ℕ) (Unit {0})
step_in [] = Ok None
step_in (b ∷ bytes) = if b == 35 then Ok None else spelled_step (short_decimal_of (b ∷ bytes))

-- the steps so far, with the one that a line says
abbrev pub with_step : List ℕ → Result (Option ℕ) (Unit {0}) → Result (List ℕ) (Unit {0})
with_step steps (Ok said) = Ok (steps ++ option_to_list said)
with_step steps (Err bad) = Err bad

-- one more line of a plan file
abbrev pub plan_line : List ℕ → List ℕ → Result (List ℕ) (Unit {0})
plan_line steps line = with_step steps (step_in line)

-- a plan file: the steps that its lines say, in order
abbrev pub plan_file : Parser (Unit {0}) (List ℕ)
plan_file = many plan_line []

-- what is answered where this comes of the whole file; faults of the device and running out of
-- memory are free here
abbrev pub IsPlanRead : Outcome (Unit {0}) (List ℕ) → Result (List ℕ) PlanFault → Type 0
IsPlanRead o (Ok steps) = (n : ℕ) × (ps : List PieceBytes) × (o ≡ parsed steps n ps)
IsPlanRead o (Err (F.Place line)) = o ≡ refused line tt
IsPlanRead o (Err (F.Limit line)) = o ≡ long line
IsPlanRead o (Err F.ReadFault) = Unit {0}
IsPlanRead o (Err F.Memory) = Unit {0}

-- the fault of a plan file, by what its reader says
abbrev pub plan_fault : ParseFault (Unit {0}) → PlanFault
plan_fault (P.Refused line bad) = F.Place line
plan_fault (P.Long line) = F.Limit line
plan_fault P.ReadFault = F.ReadFault
plan_fault P.Memory = F.Memory

-- what comes of a whole plan file, as an answer
abbrev pub plan_answer : Outcome (Unit {0}) (List ℕ) → Result (List ℕ) PlanFault
plan_answer (parsed steps line rest) = Ok steps
plan_answer (refused line bad) = Err (F.Place line)
plan_answer (long line) = Err (F.Limit line)

-- the steps that the pieces of a plan file denote, or its first fault
abbrev pub plan_in : List PieceBytes → Result (List ℕ) PlanFault
plan_in pieces = plan_answer (plan_file 0 pieces)
