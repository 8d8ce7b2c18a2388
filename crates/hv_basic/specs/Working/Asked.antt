-- What is asked about with one sign, and the operands and queries that ask it.
use Rattle.std.specs.Prelude.{◌≡◌, ◌↔◌, ℕ, Bool, true, List, Option, map}
use Rattle.std.specs.BTreeSet.{BTreeSet, contains}
use Rattle.std.specs.List.{Contains}
use Rattle.hv_sets.specs.declared.operand.Operand.{Operand}
use Rattle.hv_sets.specs.declared.query.Query.{Query}
use Rattle.hv_lines.specs.Queries.{operand_of}
use Rattle.hv_lines.specs.declared.formula_family.FormulaFamily.{FormulaFamily}
use Rattle.hv_lines.specs.declared.line.Line.{Line}
use Rattle.hv_basic.specs.Sharing.{order}
use Rattle.hv_basic.specs.declared.signed_sets.Asking.{Asking}

-- this is asked about with the sign
abbrev pub IsAskedWith : List Asking → Bool → ℕ × Bool → Type 0
IsAskedWith askings positive asked =
    (family : Option FormulaFamily)
    × Contains askings (record {
      set = asked.0;
      after = asked.1;
      positive = positive;
      family = family;
    })

-- these are all that is asked about with the sign
abbrev pub AreChosen : List Asking → Bool → List (ℕ × Bool) → Type 0
AreChosen askings positive chosen =
    (asked : ℕ × Bool) → Contains chosen asked ↔ IsAskedWith askings positive asked

-- the keys are all that is asked about with the sign
abbrev pub AreKeys : List Asking → Bool → BTreeSet (ℕ × Bool) → Type 0
AreKeys askings positive keys =
    (asked : ℕ × Bool)
    → (contains order keys asked ≡ true) ↔ IsAskedWith askings positive asked

-- the operands ask this
abbrev pub AreOperands : List Line → List (ℕ × Bool) → List Operand → Type 0
AreOperands lines asked operands = operands ≡ map (λ a. operand_of lines a) asked

-- the query with another action
abbrev pub with_action : Query → Option ℕ → Query
with_action query action = record {
  positive = query.positive;
  negative = query.negative;
  action = action;
}
