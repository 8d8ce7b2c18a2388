-- What the operands of a list name.
use Rattle.std.specs.Prelude.{◌≡◌, Bool, List}
use Rattle.std.specs.List.{Contains}
use Rattle.hv_sets.specs.declared.operand.Operand.{Operand}
use Rattle.hv_sets.specs.declared.operand.Which.{Which}

-- some operand of the list is this set, asked about after the action (true) or before it (false)
abbrev pub AsksAbout : List Operand → Which → Bool → Type 0
AsksAbout operands which after =
    (operand : Operand) × Contains operands operand × (operand.which ≡ which)
    × (operand.after ≡ after)
