-- What the literals of a statement ask about.
use Rattle.std.specs.Prelude.{◌≡◌, ◌↔◌, ◌⊎◌, ℕ, Bool, true, false, not, List, Option, None}
use Rattle.std.specs.Prelude.{Some}
use Rattle.std.specs.List.{All, Contains}
use Rattle.hv_lines.specs.Literals.{IsLiteral}
use Rattle.hv_lines.specs.Shapes.{IsAndLeaf, IsAsked, IsLeftLeaf, IsLiteralOf, IsOfFamily, IsStep}
use Rattle.hv_lines.specs.Shapes.{IsWithinFamily, asks_step_after}
use Rattle.hv_lines.specs.declared.formula_family.FormulaFamily.{FormulaFamily}
use Rattle.hv_lines.specs.declared.formula_family.FormulaFamily.TheVariants as F
use Rattle.hv_lines.specs.declared.line.Line.{Line}
use Rattle.hv_lines.specs.declared.line.Word.{Word}
use Rattle.hv_lines.specs.declared.line.Word.TheVariants as W
use Rattle.hv_basic.specs.Leaves.{IsItsFamily}
use Rattle.hv_basic.specs.declared.signed_sets.Asking.{Asking}
use Rattle.hv_basic.specs.declared.signed_sets.SignedSet.{SignedSet}
use Rattle.hv_basic.specs.declared.signed_sets.Others.{Others}
use Rattle.hv_basic.specs.declared.signed_sets.Others.TheVariants as O
use Rattle.hv_basic.specs.declared.sides.Sides.{Sides}

-- the leaf is the literal
abbrev pub IsThe : List Line → ℕ → SignedSet → Type 0
IsThe lines leaf literal = IsLiteralOf lines leaf literal.set literal.is_plain

-- the sign of what a literal asks about: its own on the left, the opposite on the right
abbrev pub sign_on : Bool → Bool → Bool
sign_on true is_plain = is_plain
sign_on false is_plain = not is_plain

-- a literal among the leaves, on the left or on the right of a statement, asks about this, after
-- the action or before it, and it is of its family
abbrev pub IsGiven : List Line → List ℕ → Bool → Bool → Asking → Type 0
IsGiven lines leaves on_left after asking =
    (leaf : ℕ) × Contains leaves leaf × IsLiteralOf lines leaf asking.set
    (sign_on on_left asking.positive)
    × (asking.after ≡ after) × IsItsFamily lines asking.set asking.family

-- what the literals among the leaves ask about was added
abbrev pub AreGathered : List Line → List ℕ → Bool → Bool → List Asking → List Asking → Type 0
AreGathered lines leaves on_left after old new =
    (asking : Asking) → Contains new asking
    ↔ (Contains old asking ⊎ IsGiven lines leaves on_left after asking)

-- this is all that the statement asks about, each of its family
abbrev pub AreAskings : List Line → Word → ℕ → ℕ → List Asking → Type 0
AreAskings lines word left right askings =
    (asking : Asking) → Contains askings asking
    ↔ (IsAsked lines word left right asking.positive (asking.set, asking.after)
    × IsItsFamily lines asking.set asking.family)

-- the leaves that are no literals: none, this one alone, or two different ones at least
abbrev pub AreOthers : List Line → List ℕ → Others → Type 0
AreOthers lines leaves O.None = (leaf : ℕ) → Contains leaves leaf → IsLiteral lines leaf
AreOthers lines leaves (O.One other) =
    Contains leaves other × (IsLiteral lines other → ⊥)
    × ((leaf : ℕ) → Contains leaves leaf → IsLiteral lines leaf ⊎ (leaf ≡ other))
AreOthers lines leaves O.More =
    (first : ℕ) × (second : ℕ) × Contains leaves first × Contains leaves second
    × (IsLiteral lines first → ⊥) × (IsLiteral lines second → ⊥) × (first ≡ second → ⊥)

-- the left side has the shape of the word, with the action set of its step if it has one
abbrev pub IsLeftSide : List Line → Word → ℕ → Option ℕ → Type 0
IsLeftSide lines word left None =
    (word ≡ W.B1) × ((leaf : ℕ) → IsAndLeaf lines left leaf → IsLiteral lines leaf)
IsLeftSide lines word left (Some acts) =
    (step : ℕ) × (set : ℕ) × IsAndLeaf lines left step × IsStep lines word step set acts
    × ((leaf : ℕ) → IsAndLeaf lines left leaf → IsLiteral lines leaf ⊎ (leaf ≡ step))
    × ((leaf : ℕ) → IsAndLeaf lines set leaf → IsLiteral lines leaf)

-- these are all that the left side asks about, each of its family
abbrev pub AreLeftAskings : List Line → Word → ℕ → List Asking → Type 0
AreLeftAskings lines word left askings = (asking : Asking) → Contains askings asking
    ↔ ((leaf : ℕ) × IsLeftLeaf lines word left leaf asking.after
    × IsLiteralOf lines leaf asking.set asking.positive
    × IsItsFamily lines asking.set asking.family)

-- each is of its family
abbrev pub HaveTheirFamilies : List Line → List Asking → Type 0
HaveTheirFamilies lines askings = All (λ asking. IsItsFamily lines asking.set asking.family) askings

-- the left side has the shape of the word, and was read: this is all that it asks about, and the
-- action set of its step if it has one
pub record IsLeftRead (lines : List Line) (word : Word) (left : ℕ) (sides : Sides) : Type 0 where
  pub side : IsLeftSide lines word left sides.acts
  pub askings : AreLeftAskings lines word left sides.askings.items

-- the leaf is the step that the word asks for, and the intersection leaves of its set are literals
abbrev pub IsLiteralStep : List Line → Word → ℕ → ℕ → ℕ → Type 0
IsLiteralStep lines word step set acts =
    IsStep lines word step set acts
    × ((leaf : ℕ) → IsAndLeaf lines set leaf → IsLiteral lines leaf)

-- the leaf is the step that the word asks for, and what the literals of its set ask about was added
pub record IsStepAdded (lines : List Line) (word : Word) (step acts : ℕ) (old new : List Asking)
    : Type 0 where
  pub set : ℕ
  pub is : IsLiteralStep lines word step set acts
  pub inner : List ℕ
  pub leaves : (leaf : ℕ) → Contains inner leaf ↔ IsAndLeaf lines set leaf
  pub gathered : AreGathered lines inner true (asks_step_after word) old new

-- the formulas among what is asked about are of the family; where there is none it is Horn
pub record IsFamilyIn (lines : List Line) (askings : List Asking) (family : FormulaFamily)
    : Type 0 where
  pub within : (asking : Asking) → Contains askings asking → IsWithinFamily lines family asking.set
  pub some : (family ≡ F.Horn) ⊎ ((asking : Asking) × Contains askings asking
      × IsOfFamily lines family asking.set)
