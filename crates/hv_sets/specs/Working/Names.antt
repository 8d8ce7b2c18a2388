-- Working definitions beside those of `Names`: for private contracts and proofs.
use Rattle.std.specs.Prelude.{◌↔◌, Bool, List}
use Rattle.std.specs.List.{Contains}
use Rattle.hv_sets.specs.declared.operand.Operand.{Operand}
use Rattle.hv_sets.specs.declared.operand.Which.{Which}
use Rattle.hv_sets.specs.Names.{AsksAbout}

-- these pairs are all that the operands name
abbrev pub AreAsked : List (Which × Bool) → List Operand → Type 0
AreAsked named operands = (which : Which) (after : Bool) → Contains named (which, after)
    ↔ AsksAbout operands which after
