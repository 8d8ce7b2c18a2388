-- The leaves of an intersection that are all formulas of one family, as what one formula stands
-- for.
use Rattle.std.proofs.Common.{◌≡◌, ℕ, ◌<◌, ◌+◌, ◌-◌, ◌++◌, ◌∙◌, ◌↔◌, Bool, true, false, List, [], ◌∷◌}
use Rattle.std.proofs.Common.{None, Option, Some, ap, arith, get_or, length, refl, slice_get, sym}
use Rattle.std.proofs.Common.{inl, inr, subst}
use Rattle.std.proofs.lemmas.List.{get_or-append-add, length-append}
use Rattle.std.proofs.lemmas.List.Elements.{All-push, Contains-get_or}
use Rattle.std.proofs.lemmas.Option.{same_Some, slice_get-get_or, slice_get_within}
use Rattle.std.specs.List.{All, Contains}
use Rattle.std.specs.Option.{IfSome, MatchOption}
use Rattle.hv_lines.specs.Numbering.{expr_count}
use Rattle.hv_lines.specs.Shapes.{Askings, AskingsRise, IsAndLeaf, IsLiteralOf, IsOfFamily, family_of}
use Rattle.hv_lines.specs.Shapes.{most_operands}
use Rattle.hv_lines.specs.declared.formula_family.FormulaFamily.{FormulaFamily}
use Rattle.hv_lines.specs.declared.line.Line.{Line}
use Rattle.hv_lines.proofs.Elements.{nothing_in}
use Rattle.hv_basic.specs.Leaves.{IsItsFamily, IsLeafRead, places}
use Rattle.hv_basic.specs.Sharing.{AreItsLeaves, AreLeavesAsked, IsJointFor, IsJointKept, IsJointOf}
use Rattle.hv_basic.specs.Working.Asked.{AreChosen, IsAskedWith}
use Rattle.hv_basic.specs.Working.Gathered.{AreGathered, AreOthers, HaveTheirFamilies, IsGiven}
use Rattle.hv_basic.specs.Working.Joints.{IsLeftAt}
use Rattle.hv_basic.specs.Working.Sharing.{IsFamilyBeside}
use Rattle.hv_basic.specs.declared.joint.JointFormula.{JointFormula}
use Rattle.hv_basic.specs.declared.shared.KeptJoint.{KeptJoint}
use Rattle.hv_basic.specs.declared.shared.KeptLeaves.{KeptLeaves}
use Rattle.hv_basic.specs.declared.signed_sets.Asking.{Asking}
use Rattle.hv_basic.specs.declared.signed_sets.Leaf.{Leaf}
use Rattle.hv_basic.specs.declared.signed_sets.Others.{Others}
use Rattle.hv_basic.specs.declared.signed_sets.Others.TheVariants as O

module _ (lines : List Line) (root : ℕ) (leaves : List ℕ) (askings : List Asking)
    (are : (leaf : ℕ) → Contains leaves leaf ↔ IsAndLeaf lines root leaf)
    (gathered : AreGathered lines leaves true false [] askings) where
  given : (asking : Asking) → Contains askings asking → IsGiven lines leaves true false asking
  given asking c = elim ((gathered asking).0 c) [
    | inl none ↦ absurd (nothing_in asking none)
    | inr is ↦ is
  ]

  pub their_families : HaveTheirFamilies lines askings
  their_families i d within = (given _ (Contains-get_or askings i d within)).4

  module _ (others : AreOthers lines leaves O.None)
      (plus : (asking : Asking) → Contains askings asking → asking.positive ≡ true) where
    -- a set that is asked about is a leaf
    asked_leaf : (a : Asking) → Contains askings a → IsAndLeaf lines root a.set × (a.after ≡ false)
    asked_leaf a c =
        let of = given a c in
        let same : of.0 ≡ a.set = (subst (IsLiteralOf lines of.0 a.set) (plus a c) of.2).0 in
        (subst (IsAndLeaf lines root) same ((are of.0).0 of.1), of.3)

    -- and a leaf is asked about
    leaf_asked : (leaf : ℕ) → Contains leaves leaf → IsAskedWith askings true (leaf, false)
    leaf_asked leaf c = elim (others leaf c) [
      | inl plain ↦ (
        family_of plain.0,
        (gathered (record {
          set = leaf;
          after = false;
          positive = true;
          family = family_of plain.0;
        })).1 (inr (leaf, c, (refl, plain), refl, (plain.0, plain.1, refl))),
      )
      | inr (set, at, plain) ↦
          let negated : Asking = record {
            set = set;
            after = false;
            positive = false;
            family = family_of plain.0;
          } in
          let both : false ≡ true =
          plus negated ((gathered negated).1
          (inr (leaf, c, (at, plain), refl, (plain.0, plain.1, refl)))) in
          absurd (cc (both))
    ]

    -- what is chosen of it is what the leaves ask about
    pub leaves_chosen : (chosen : Askings) → AskingsRise chosen → AreChosen askings true chosen
        → length chosen < most_operands → AreLeavesAsked lines root chosen
    leaves_chosen chosen rises is few = record {
      each = λ a. (
        λ c.
            let w = (is a).0 c in
            asked_leaf (record { set = a.0; after = a.1; positive = true; family = w.0 }) w.1,
        λ (of, before). (is a).1 (subst (λ (b : Bool). IsAskedWith askings true (a.0, b))
            (sym before) (leaf_asked a.0 ((are a.0).1 of))),
      );
      rises = rises;
      few = few;
    }

-- what is chosen is of the family of all
pub chosen_family : (lines : List Line) (askings : List Asking) (family : FormulaFamily)
    (chosen : Askings) → AreChosen askings true chosen
    → ((asking : Asking) → Contains askings asking → IsOfFamily lines family asking.set)
    → (a : ℕ × Bool) → Contains chosen a → IsOfFamily lines family a.0
chosen_family lines askings family chosen is all a c =
    let w = (is a).0 c in
    all (record { set = a.0; after = a.1; positive = true; family = w.0 }) w.1

-- where each is a formula, they are formulas of the one family of all
pub formulas_of : (lines : List Line) (askings : List Asking)
    → HaveTheirFamilies lines askings
    → ((k : ℕ) (d : Asking) → k < length askings → (get_or askings k d).family ≡ None → ⊥)
    → (found : Option FormulaFamily)
    → MatchOption found ((family : FormulaFamily) → IsFamilyBeside lines askings None family → ⊥)
    (IsFamilyBeside lines askings None)
    → IfSome found (λ family. (asking : Asking) → Contains askings asking
    → IsOfFamily lines family asking.set)
formulas_of lines askings all some None one = tt
formulas_of lines askings all some (Some family) one = λ asking has.
    let own = subst (λ (a : Asking). IsItsFamily lines a.set a.family) has.2
    (all has.0 asking has.1) in
    let within = one.within asking has in
    let same : own.0 ≡ within.0 = same_Some own.0 within.0 (sym own.1 ∙ within.1) in
    elim within.2 [
      | inl none ↦ absurd (subst (λ (a : Asking). a.family ≡ None → ⊥) has.2
          (some has.0 asking has.1) (own.2 ∙ (ap family_of same ∙ none)))
      | inr of ↦ (within.0, within.1, of)
    ]

-- where the leaves of the intersection are gathered, one family was found for all, and what they
-- ask was put in order, a formula that stands for it stands for the intersection
module _ (lines : List Line) (own : KeptLeaves) (is : AreItsLeaves lines own)
    (leaves : List Leaf) (same : leaves ≡ own.leaves.items)
    (start askings : List Asking) (none : start ≡ [])
    (gathered : (ls : List Line) → All (IsLeafRead ls) leaves
    → AreGathered ls (places leaves) true false start askings)
    (found : Others) (others : (ls : List Line) → All (IsLeafRead ls) leaves
    → AreOthers ls (places leaves) found) (no : found ≡ O.None)
    (second : List Asking) (second_is : second ≡ askings)
    (plus : (asking : Asking) → Contains second asking → asking.positive ≡ true)
    (third : List Asking) (third_is : third ≡ askings) (family : FormulaFamily)
    (all : (ls : List Line) → HaveTheirFamilies ls third → (asking : Asking)
    → Contains third asking → IsOfFamily ls family asking.set)
    (fourth : List Asking) (fourth_is : fourth ≡ askings) (chosen : Askings)
    (chosen_is : AreChosen fourth true chosen) (rises : AskingsRise chosen)
    (asked : Askings) (asked_is : asked ≡ chosen) (few : length asked < most_operands) where
  read : All (IsLeafRead lines) leaves
  read = subst (All (IsLeafRead lines)) (sym same) is.read

  got : AreGathered lines (places own.leaves.items) true false [] askings
  got =
      subst (λ (xs : List Leaf). AreGathered lines (places xs) true false [] askings) same
      (subst (λ (xs : List Asking). AreGathered lines (places leaves) true false xs askings) none
      (gathered lines read))

  without : AreOthers lines (places own.leaves.items) O.None
  without =
      subst (λ (xs : List Leaf). AreOthers lines (places xs) O.None) same
      (subst (AreOthers lines (places leaves)) no (others lines read))

  in_order : AreChosen askings true chosen
  in_order = subst (λ (xs : List Asking). AreChosen xs true chosen) fourth_is chosen_is

  each : (asking : Asking) → Contains askings asking → IsOfFamily lines family asking.set
  each asking has =
      all lines (subst (HaveTheirFamilies lines) (sym third_is)
      (their_families lines own.root (places own.leaves.items) askings is.leaves got)) asking
      (subst (λ (xs : List Asking). Contains xs asking) (sym third_is) has)

  pub asked_family : (a : ℕ × Bool) → Contains asked a → IsOfFamily lines family a.0
  asked_family a has =
      chosen_family lines askings family chosen in_order each a
      (subst (λ (xs : Askings). Contains xs a) asked_is has)

  pub joint_stands : (formula : JointFormula) → IsJointOf lines asked formula
      → IsJointFor lines own.root formula
  joint_stands formula joint = record {
    asked = asked;
    leaves =
        subst (AreLeavesAsked lines own.root) (sym asked_is)
        (leaves_chosen lines own.root (places own.leaves.items) askings is.leaves got without
        (λ asking has. plus asking (subst (λ (xs : List Asking). Contains xs asking)
        (sym second_is) has)) chosen rises in_order
        (subst (λ (xs : Askings). length xs < most_operands) asked_is few));
    joint = joint;
  }

-- what was put last is there
pub last_put : {X : Type 0} (xs next : List X) (x : X) (count : ℕ) → next ≡ xs ++ x ∷ []
    → count ≡ length next → slice_get next (count - 1) ≡ Some x
last_put xs next x count put is =
    let size : length next ≡ length xs + 1 = ap length put ∙ length-append xs (x ∷ []) in
    let at : count - 1 ≡ length xs + 0 = omega (arith, is, size) in
    slice_get-get_or next (count - 1) x (omega (arith, is, size))
    ∙ ap Some (ap (λ ys. get_or ys (count - 1) x) put
    ∙ (ap (λ k. get_or (xs ++ x ∷ []) k x) at ∙ get_or-append-add xs (x ∷ []) 0 x))

-- with one left side more, whose leaves are kept
pub joint_pushed : (lines : List Line) (lefts : List KeptLeaves) (joints : List KeptJoint)
    (root place : ℕ) (own : KeptLeaves) (formula : Option JointFormula)
    → All (AreItsLeaves lines) lefts → IsLeftAt lefts root place → own ≡ get_or lefts place own
    → IfSome formula (IsJointFor lines own.root) → All (IsJointKept lines) joints
    → All (IsJointKept lines) (joints ++ record { root = root; formula = formula } ∷ [])
joint_pushed lines lefts joints root place own formula leaves at is stands all =
    let within = slice_get_within lefts place at.0 at.1 in
    let one : at.0 ≡ own =
    same_Some at.0 own
    (sym at.1 ∙ (slice_get-get_or lefts place own within ∙ ap Some (sym is))) in
    let same : own.root ≡ root = sym (ap (λ (k : KeptLeaves). k.root) one) ∙ at.2 in
    let its : AreItsLeaves lines own =
    subst (AreItsLeaves lines) (sym is) (leaves place own within) in
    All-push (IsJointKept lines) joints _ all (record {
      table = its.table;
      below = subst (λ r. r < expr_count lines) same its.below;
      stands = subst (λ r. IfSome formula (IsJointFor lines r)) same stands;
    })
