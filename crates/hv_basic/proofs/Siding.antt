-- The two sides of a statement, from its left side and the leaves of its right one.
use Rattle.std.proofs.Common.{◌≡◌, ℕ, ◌<◌, ◌+◌, ◌≤◌, ◌↔◌, Bool, true, false, not, List, Option, Some}
use Rattle.std.proofs.Common.{None}
use Rattle.std.proofs.Common.{get_or, length, ap, inl, inr, arith}
use Rattle.std.proofs.lemmas.List.Elements.{Contains-get_or}
use Rattle.std.specs.List.{Contains}
use Rattle.hv_lines.specs.Literals.{IsLiteral}
use Rattle.hv_basic.specs.Faults.{IsShapeFault}
use Rattle.hv_basic.specs.declared.shapes.ShapeFault.{ShapeFault}
use Rattle.hv_basic.specs.declared.shapes.ShapeFault.TheVariants as F
use Rattle.hv_lines.specs.Shapes.{Askings, AskingsRise, HasSides, IsAsked, IsFamilyOf}
use Rattle.hv_lines.specs.Shapes.{IsOrLeaf, IsQuestion, QuestionState, asks_sides_after}
use Rattle.hv_lines.specs.Shapes.{most_operands}
use Rattle.hv_lines.specs.declared.formula_family.FormulaFamily.{FormulaFamily}
use Rattle.hv_lines.specs.declared.line.Line.{Line}
use Rattle.hv_lines.specs.declared.line.Word.{Word}
use Rattle.hv_lines.proofs.Rising.{rising_once}
use Rattle.hv_basic.specs.Leaves.{IsItsFamily}
use Rattle.hv_basic.specs.Working.Asked.{AreChosen, IsAskedWith}
use Rattle.hv_basic.specs.Working.Gathered.{AreAskings, AreGathered, AreLeftAskings}
use Rattle.hv_basic.specs.Working.Gathered.{HaveTheirFamilies, IsFamilyIn, IsLeftSide}
use Rattle.hv_basic.specs.declared.signed_sets.Asking.{Asking}
use Rattle.hv_basic.proofs.Gathering.{its_family}

module _ (lines : List Line) (word : Word) (left right : ℕ) where
  -- a left side with the shape, beside a right one
  pub both_sides : (acts : Option ℕ) → IsLeftSide lines word left acts
      → ((leaf : ℕ) → IsOrLeaf lines right leaf → IsLiteral lines leaf)
      → HasSides lines word left right acts
  both_sides None side rights = (side.0, side.1, rights)
  both_sides (Some acts) side rights =
      (side.0, side.1, side.2, side.3, side.4, side.5, rights)

  pub left_part : (acts : Option ℕ) → HasSides lines word left right acts
      → IsLeftSide lines word left acts
  left_part None sides = (sides.0, sides.1)
  left_part (Some acts) sides = (sides.0, sides.1, sides.2, sides.3, sides.4, sides.5)

  right_part : (acts : Option ℕ) → HasSides lines word left right acts → (leaf : ℕ)
      → IsOrLeaf lines right leaf → IsLiteral lines leaf
  right_part None sides = sides.2
  right_part (Some acts) sides = sides.6

  module _ (rights : List ℕ)
      (are_rights : (leaf : ℕ) → Contains rights leaf ↔ IsOrLeaf lines right leaf) where
    pub right_fails : (leaf : ℕ) → Contains rights leaf → (IsLiteral lines leaf → ⊥)
        → (acts : Option ℕ) → HasSides lines word left right acts → ⊥
    right_fails leaf has other acts sides =
        other (right_part acts sides leaf ((are_rights leaf).0 has))

    pub sides_from : (acts : Option ℕ) → IsLeftSide lines word left acts
        → ((leaf : ℕ) → Contains rights leaf → IsLiteral lines leaf)
        → HasSides lines word left right acts
    sides_from acts side all = both_sides acts side (λ leaf of. all leaf ((are_rights leaf).1 of))

    -- what the left side asks about and what was gathered on the right is all
    pub askings_from : (first second : List Asking) → AreLeftAskings lines word left first
        → AreGathered lines rights false (asks_sides_after word) first second
        → AreAskings lines word left right second
    askings_from first second asks gathered a = (
      λ c. elim ((gathered a).0 c) [
        | inl was ↦ let h = (asks a).0 was in ((h.0, inl (h.1, h.2)), h.3)
        | inr given ↦ (
          (given.0, inr (((are_rights given.0).0 given.1, given.3), given.2)),
          given.4,
        )
      ],
      back,
    )
      where
        back : IsAsked lines word left right a.positive (a.set, a.after)
            × IsItsFamily lines a.set a.family → Contains second a
        back ((leaf, inl (side, literal)), family) = (gathered a).1
            (inl ((asks a).1 (leaf, side, literal, family)))
        back ((leaf, inr ((of, after), literal)), family) = (gathered a).1
            (inr (leaf, (are_rights leaf).1 of, literal, after, family))

  -- what is asked about has one family
  asked_family : (sign : Bool) (asked : ℕ × Bool) → IsAsked lines word left right sign asked
      → (family : Option FormulaFamily) × IsItsFamily lines asked.0 family
  asked_family sign asked (leaf, inl (side, literal)) =
      its_family lines leaf asked.0 sign literal
  asked_family sign asked (leaf, inr (side, literal)) =
      its_family lines leaf asked.0 (not sign) literal

module _ (lines : List Line) (word : Word) (left right : ℕ) (askings : List Asking)
    (are : AreAskings lines word left right askings) where
  asked_in : (sign : Bool) (asked : ℕ × Bool) → IsAsked lines word left right sign asked
      → IsAskedWith askings sign asked
  asked_in sign asked asks =
      let f = asked_family lines word left right sign asked asks in (
        f.0,
        (are (record { set = asked.0; after = asked.1; positive = sign; family = f.0 })).1
            (asks, f.1),
      )

  asked_out : (sign : Bool) (asked : ℕ × Bool) → IsAskedWith askings sign asked
      → IsAsked lines word left right sign asked
  asked_out sign asked (family, c) =
      ((are (record { set = asked.0; after = asked.1; positive = sign; family = family })).0 c).0

  -- each is of its family
  pub all_of_their : HaveTheirFamilies lines askings
  all_of_their k d within =
      ((are (get_or askings k d)).0 (Contains-get_or askings k d within)).1

  family_of_all : (family : FormulaFamily) → IsFamilyIn lines askings family
      → IsFamilyOf lines word left right family
  family_of_all family is = record {
    within = λ sign asked asks.
        let c = asked_in sign asked asks in
        is.within (record { set = asked.0; after = asked.1; positive = sign; family = c.0 }) c.1;
    some = elim is.some [
      | inl horn ↦ inl horn
      | inr found ↦ inr (
        found.0.positive,
        (found.0.set, found.0.after),
        ((are found.0).0 found.1).0,
        found.2,
      )
    ];
  }

  family_in_all : (family : FormulaFamily) → IsFamilyOf lines word left right family
      → IsFamilyIn lines askings family
  family_in_all family is = record {
    within = λ a c. is.within a.positive (a.set, a.after) ((are a).0 c).0;
    some = elim is.some [
      | inl horn ↦ inl horn
      | inr (sign, asked, asks, of) ↦
          let c = asked_in sign asked asks in
          inr (
            record { set = asked.0; after = asked.1; positive = sign; family = c.0 },
            c.1,
            of,
          )
    ];
  }

  chosen_asked : (sign : Bool) (chosen : Askings) → AreChosen askings sign chosen
      → (asked : ℕ × Bool)
      → Contains chosen asked ↔ IsAsked lines word left right sign asked
  chosen_asked sign chosen is asked = (
    λ c. asked_out sign asked ((is asked).0 c),
    λ asks. (is asked).1 (asked_in sign asked asks),
  )

  pub question_from : (acts : Option ℕ) (family : FormulaFamily) (positive negative : Askings)
      → HasSides lines word left right acts
      → IsFamilyIn lines askings family → AskingsRise positive → AskingsRise negative
      → AreChosen askings true positive
      → AreChosen askings false negative → length positive + length negative ≤ most_operands
      → IsQuestion lines word left right (record
      { family = family; positive = positive; negative = negative; acts = acts })
  question_from acts family positive negative sides is rises falls chosen others few = record {
    sides = sides;
    positive = chosen_asked true positive chosen;
    negative = chosen_asked false negative others;
    positive_rises = rises;
    negative_rises = falls;
    few = few;
    family = family_of_all family is;
  }

  pub family_fails : ((family : FormulaFamily) → IsFamilyIn lines askings family → ⊥)
      → (q : QuestionState) → IsQuestion lines word left right q → ⊥
  family_fails out q is = out q.family (family_in_all q.family is.family)

  pub few_fails : (positive negative : Askings) → AskingsRise positive → AskingsRise negative
      → AreChosen askings true positive
      → AreChosen askings false negative → most_operands < length positive + length negative
      → (q : QuestionState)
      → IsQuestion lines word left right q → ⊥
  few_fails positive negative rises falls chosen others many q is =
      let same : q.positive ≡ positive = rising_once q.positive positive is.positive_rises rises
      (λ a. (
        λ c. (chosen_asked true positive chosen a).1 ((is.positive a).0 c),
        λ c.
            (is.positive a).1 ((chosen_asked true positive chosen a).0 c),
      )) in
      let also : q.negative ≡ negative = rising_once q.negative negative is.negative_rises falls
      (λ a. (
        λ c. (chosen_asked false negative others a).1 ((is.negative a).0 c),
        λ c.
            (is.negative a).1 ((chosen_asked false negative others a).0 c),
      )) in
      let p : length q.positive ≡ length positive = ap length same in
      let n : length q.negative ≡ length negative = ap length also in
      omega (arith, many, is.few, p, n)

-- a reason that there is no shape
pub fault_of : (P Q : Type 0) → (P → Q) → (fault : ShapeFault) → IsShapeFault P fault
    → IsShapeFault Q fault
fault_of P Q there F.Shape is = there is
fault_of P Q there F.Memory is = tt
