-- What a left side asks, and the question that it asks together with a right side that is kept.
use Rattle.std.proofs.Common.{◌≡◌, ℕ, ◌+◌, ◌≤◌, ◌∙◌, ◌↔◌, ◌⊎◌, Bool, true, false, List, [], Option}
use Rattle.std.proofs.Common.{Some, None, get_or, length, refl, sym, subst, inl, inr, arith}
use Rattle.std.proofs.lemmas.List.Elements.{Contains-get_or}
use Rattle.std.specs.List.{Contains}
use Rattle.hv_lines.specs.Literals.{IsLiteral, IsNegatedSet}
use Rattle.hv_lines.specs.Setting.{Setting}
use Rattle.hv_lines.specs.Verdicts.{IsVerdict}
use Rattle.hv_lines.specs.declared.line.Statement.{Statement}
use Rattle.hv_lines.specs.declared.line.Statement.TheVariants as T
use Rattle.hv_lines.specs.declared.verdict.Verdict.{Verdict}
use Rattle.hv_lines.specs.Shapes.{Askings, AskingsRise, HasShape, IsAndLeaf, IsAsked, IsFamilyOf}
use Rattle.hv_lines.specs.Shapes.{OfActs, OfSets, OfTwo, QuestionState}
use Rattle.hv_lines.specs.Shapes.{IsLeftLeaf, IsLiteralOf, IsOfFamily, IsOrLeaf, IsQuestion, IsStep}
use Rattle.hv_lines.specs.Shapes.{IsWithinFamily, asks_sides_after, most_operands}
use Rattle.hv_lines.specs.declared.formula_family.FormulaFamily.{FormulaFamily}
use Rattle.hv_lines.specs.declared.line.Line.{Line}
use Rattle.hv_lines.specs.declared.line.Word.{Word}
use Rattle.hv_lines.specs.declared.line.Word.TheVariants as W
use Rattle.hv_lines.proofs.Questions.{alone_no_step}
use Rattle.hv_lines.proofs.Shaped.{literal_once, step_no_literal, step_once}
use Rattle.hv_basic.specs.Leaves.{IsItsFamily}
use Rattle.hv_basic.specs.Working.Asked.{AreChosen, IsAskedWith}
use Rattle.hv_basic.specs.Working.Gathered.{AreGathered, AreLeftAskings, AreOthers}
use Rattle.hv_basic.specs.Working.Gathered.{HaveTheirFamilies, IsGiven, IsLeftSide}
use Rattle.hv_basic.specs.Working.Gathered.{IsLiteralStep, IsStepAdded}
use Rattle.hv_basic.specs.Sharing.{ArePlain, IsTheFamily}
use Rattle.hv_basic.specs.Working.Sharing.{IsFamilyBeside, IsVerdictOfSub}
use Rattle.hv_basic.specs.declared.signed_sets.Asking.{Asking}
use Rattle.hv_basic.specs.declared.signed_sets.Others.TheVariants as O
use Rattle.hv_basic.proofs.Gathering.{its_family}
use Rattle.hv_basic.proofs.Siding.{both_sides}

module _ (lines : List Line) (word : Word) (left : ℕ) (lefts : List ℕ)
    (are_lefts : (leaf : ℕ) → Contains lefts leaf ↔ IsAndLeaf lines left leaf) where
  -- where all leaves are literals
  pub left_alone : AreOthers lines lefts O.None → word ≡ W.B1 → IsLeftSide lines word left None
  left_alone all b1 = (b1, λ leaf of. all leaf ((are_lefts leaf).1 of))

  pub alone_fails : AreOthers lines lefts O.None → (word ≡ W.B1 → ⊥) → (acts : Option ℕ)
      → IsLeftSide lines word left acts → ⊥
  alone_fails all other None side = other side.0
  alone_fails all other (Some acts) side =
      step_no_literal lines word side.0 side.1 acts side.3
      (all side.0 ((are_lefts side.0).1 side.2))

  -- where two leaves are no literals
  pub more_fails : AreOthers lines lefts O.More → (acts : Option ℕ)
      → IsLeftSide lines word left acts → ⊥
  more_fails (first, second, has, also, out, also_out, apart) None side =
      out (side.1 first ((are_lefts first).0 has))
  more_fails (first, second, has, also, out, also_out, apart) (Some acts) side =
      elim (side.4 first ((are_lefts first).0 has)) [
        | inl literal ↦ out literal
        | inr same ↦ elim (side.4 second ((are_lefts second).0 also)) [
          | inl literal ↦ also_out literal
          | inr too ↦ apart (same ∙ sym too)
        ]
      ]

  -- where one leaf alone is no literal
  module _ (other : ℕ) (found : AreOthers lines lefts (O.One other)) where
    pub left_step : (acts : ℕ) (old new : List Asking)
        → IsStepAdded lines word other acts old new → IsLeftSide lines word left (Some acts)
    left_step acts old new added = (
      other,
      added.set,
      (are_lefts other).0 found.0,
      added.is.0,
      λ leaf of. found.2 leaf ((are_lefts leaf).1 of),
      added.is.1,
    )

    pub step_fails : ((set acts : ℕ) → IsLiteralStep lines word other set acts → ⊥)
        → (acts : Option ℕ) → IsLeftSide lines word left acts → ⊥
    step_fails out None side = found.1 (side.1 other ((are_lefts other).0 found.0))
    step_fails out (Some acts) side =
        elim (side.4 other ((are_lefts other).0 found.0)) [
          | inl literal ↦ found.1 literal
          | inr same ↦ out side.1 acts
              (subst (λ s. IsStep lines word s side.1 acts) (sym same) side.3, side.5)
        ]

  module _ (first : List Asking) (gathered : AreGathered lines lefts true (asks_sides_after word) []
      first) where
    from_first : (a : Asking) → Contains first a
        → (leaf : ℕ) × IsLeftLeaf lines word left leaf a.after
        × IsLiteralOf lines leaf a.set a.positive × IsItsFamily lines a.set a.family
    from_first a c =
        elim ((gathered a).0 c) [
          | inl none ↦ absurd (omega (arith, none.1))
          | inr given ↦ (
            given.0,
            inl ((are_lefts given.0).0 given.1, given.3),
            given.2,
            given.4,
          )
        ]

    to_first : (a : Asking) → IsGiven lines lefts true (asks_sides_after word) a → Contains first a
    to_first a given = (gathered a).1 (inr given)

    -- what was gathered is all that the left side asks
    pub askings_alone : word ≡ W.B1 → AreLeftAskings lines word left first
    askings_alone b1 a = (from_first a, back)
      where
        back : (leaf : ℕ) × IsLeftLeaf lines word left leaf a.after
            × IsLiteralOf lines leaf a.set a.positive × IsItsFamily lines a.set a.family
            → Contains first a
        back (leaf, inl (of, after), literal, family) = to_first a
            (leaf, (are_lefts leaf).1 of, literal, after, family)
        back (leaf, inr (step, set, acts, of, is_step, leaf_of, after), literal, family) =
            absurd (alone_no_step lines word left left step set acts b1 is_step)

    pub askings_step : (other acts : ℕ) (third : List Asking)
        → AreOthers lines lefts (O.One other) → IsStepAdded lines word other acts first third
        → AreLeftAskings lines word left third
    askings_step other acts third found added a = (
      λ c. elim ((added.gathered a).0 c) [
        | inl was ↦ from_first a was
        | inr given ↦ (
          given.0,
          inr (
            other,
            added.set,
            acts,
            (are_lefts other).0 found.0,
            added.is.0,
            (added.leaves given.0).0 given.1,
            given.3,
          ),
          given.2,
          given.4,
        )
      ],
      back,
    )
      where
        back : (leaf : ℕ) × IsLeftLeaf lines word left leaf a.after
            × IsLiteralOf lines leaf a.set a.positive × IsItsFamily lines a.set a.family
            → Contains third a
        back (leaf, inl (of, after), literal, family) = (added.gathered a).1
            (inl (to_first a (leaf, (are_lefts leaf).1 of, literal, after, family)))
        back (leaf, inr (step, set, by, of, is_step, leaf_of, after), literal, family) =
            elim (found.2 step ((are_lefts step).1 of)) [
              | inl plain ↦ absurd (step_no_literal lines word step set by is_step plain)
              | inr same ↦
                  let one : set ≡ added.set = (step_once lines word other set by added.set acts
                  (subst (λ s. IsStep lines word s set by) same is_step) added.is.0).0 in
                  (added.gathered a).1 (inr (
                    leaf,
                    (added.leaves leaf).1 (subst (λ s. IsAndLeaf lines s leaf) one leaf_of),
                    literal,
                    after,
                    family,
                  ))
            ]

module _ (lines : List Line) (word : Word) (left right : ℕ) (first askings : List Asking)
    (after : Bool) (kept : Option FormulaFamily)
    (asked : Askings) (negated : List ℕ) (are : ArePlain lines after kept asked)
    (negations : (leaf : ℕ) → Contains negated leaf → IsNegatedSet lines leaf)
    (leaves : (leaf : ℕ) → (Contains asked (leaf, after) ⊎ Contains negated leaf)
    ↔ IsOrLeaf lines right leaf)
    (late : after ≡ asks_sides_after word)
    (asks : AreLeftAskings lines word left first)
    (beside : AreGathered lines negated false after first askings)
    (plus : (a : Asking) → Contains askings a → a.positive ≡ true) where
  right_literal : (leaf : ℕ) → IsOrLeaf lines right leaf → IsLiteral lines leaf
  right_literal leaf of = elim ((leaves leaf).1 of) [
    | inl has ↦ inl (are.plain (leaf, after) has).0
    | inr other ↦ inr (negations leaf other)
  ]

  -- what is asked about with the sign of the left side's formulas
  plus_out : (a : ℕ × Bool) → IsAskedWith askings true a → IsAsked lines word left right true a
  plus_out a (family, c) =
      let asking : Asking = record { set = a.0; after = a.1; positive = true; family = family } in
      elim ((beside asking).0 c) [
        | inl own ↦ let h = (asks asking).0 own in (h.0, inl (h.1, h.2))
        | inr given ↦ (
          given.0,
          inr (((leaves given.0).0 (inr given.1), given.3 ∙ late), given.2),
        )
      ]

  plus_in : (a : ℕ × Bool) → IsAsked lines word left right true a → IsAskedWith askings true a
  plus_in a (leaf, inl (side, literal)) =
      let f = its_family lines leaf a.0 true literal in
      let asking : Asking = record { set = a.0; after = a.1; positive = true; family = f.0 } in
      (f.0, (beside asking).1 (inl ((asks asking).1 (leaf, side, literal, f.1))))
  plus_in a (leaf, inr ((of, is), literal)) =
      elim ((leaves leaf).1 of) [
        | inl has ↦
            let both : true ≡ false = (literal_once lines leaf leaf a.0 true false
            (refl, (are.plain (leaf, after) has).0) literal).1 in absurd (cc (both))
        | inr other ↦
            let f = its_family lines leaf a.0 false literal in
            let asking : Asking = record {
              set = a.0;
              after = a.1;
              positive = true;
              family = f.0;
            } in
            (f.0, (beside asking).1 (inr (leaf, other, literal, is ∙ sym late, f.1)))
      ]

  -- what is asked about with the other sign
  minus_out : (a : ℕ × Bool) → Contains asked a → IsAsked lines word left right false a
  minus_out a c =
      let plain = are.plain a c in
      let has : Contains asked (a.0, after) = subst (λ b. Contains asked (a.0, b)) plain.1 c in
      (a.0, inr (((leaves a.0).0 (inl has), plain.1 ∙ late), (refl, plain.0)))

  minus_in : (a : ℕ × Bool) → IsAsked lines word left right false a → Contains asked a
  minus_in a (leaf, inl (side, literal)) =
      let f = its_family lines leaf a.0 false literal in
      let asking : Asking = record { set = a.0; after = a.1; positive = false; family = f.0 } in
      let both : false ≡ true =
      plus asking ((beside asking).1 (inl ((asks asking).1 (leaf, side, literal, f.1)))) in
      absurd (cc (both))
  minus_in a (leaf, inr ((of, is), literal)) =
      elim ((leaves leaf).1 of) [
        | inl has ↦ subst (λ x. Contains asked (x, a.1)) literal.0
            (subst (λ b. Contains asked (leaf, b)) (late ∙ sym is) has)
        | inr other ↦
            let n = negations leaf other in
            let both : true ≡ false =
            (literal_once lines leaf a.0 n.0 true false literal (n.1, n.2)).1 in
            absurd (cc (both))
      ]

  family_none : (family : FormulaFamily) → IsTheFamily lines asked None
      → IsFamilyBeside lines askings None family
      → IsFamilyOf lines word left right family
  family_none family none is = record {
    within = within;
    some = elim is.some [
      | inl horn ↦ inl horn
      | inr (a, has, of) ↦
          let a_true : a ≡ record {
            set = a.set;
            after = a.after;
            positive = true;
            family = a.family;
          } = λ i. record {
            set = a.set;
            after = a.after;
            positive = plus a has i;
            family = a.family;
          } in
          inr (
            true,
            (a.set, a.after),
            plus_out (a.set, a.after) (a.family, subst (Contains askings) a_true has),
            of,
          )
    ];
  }
    where
      within : (sign : Bool) (a : ℕ × Bool) → IsAsked lines word left right sign a
          → IsWithinFamily lines family a.0
      within true a of =
          let c = plus_in a of in
          is.within (record { set = a.0; after = a.1; positive = true; family = c.0 }) c.1
      within false a of = let no = none a (minus_in a of) in (no.0, no.1, inl no.2)

  family_some : (family first : FormulaFamily) → IsTheFamily lines asked (Some first)
      → IsFamilyBeside lines askings (Some first) family
      → IsFamilyOf lines word left right family
  family_some family first (all, (some, has, of)) (same, is) = record {
    within = within;
    some = inr (
      false,
      some,
      minus_out some has,
      subst
          (λ f. IsOfFamily lines f some.0) (sym same) of,
    );
  }
    where
      within : (sign : Bool) (a : ℕ × Bool) → IsAsked lines word left right sign a
          → IsWithinFamily lines family a.0
      within true a of_a =
          let c = plus_in a of_a in
          is (record { set = a.0; after = a.1; positive = true; family = c.0 }) c.1
      within false a of_a = subst (λ f. IsWithinFamily lines f a.0) (sym same)
          (all a (minus_in a of_a))

  family_with : (k : Option FormulaFamily) (family : FormulaFamily) → IsTheFamily lines asked k
      → IsFamilyBeside lines askings k family
      → IsFamilyOf lines word left right family
  family_with None family of is = family_none family of is
  family_with (Some first) family of is = family_some family first of is

  -- the question of the statement
  pub question_by : (acts : Option ℕ) (family : FormulaFamily) (positive : Askings)
      → IsLeftSide lines word left acts
      → IsFamilyBeside lines askings kept family → AskingsRise positive
      → AreChosen askings true positive
      → length positive + length asked ≤ most_operands
      → IsQuestion lines word left right (record
      { family = family; positive = positive; negative = asked; acts = acts })
  question_by acts family positive side beside rises chosen few = record {
    sides = both_sides lines word left right acts side right_literal;
    positive = λ a. (λ c. plus_out a ((chosen a).0 c), λ of. (chosen a).1 (plus_in a of));
    negative = λ a. (minus_out a, minus_in a);
    positive_rises = rises;
    negative_rises = are.rises;
    few = few;
    family = family_with kept family are.one_family beside;
  }

-- what the left side and the negations on the right ask about has its families
pub beside_families : (lines : List Line) (word : Word) (left : ℕ) (first askings : List Asking)
    (negated : List ℕ) (after : Bool) → AreLeftAskings lines word left first
    → AreGathered lines negated false after first askings → HaveTheirFamilies lines askings
beside_families lines word left first askings negated after asks beside k d within =
    let asking = get_or askings k d in
    elim ((beside asking).0 (Contains-get_or askings k d within)) [
      | inl own ↦ ((asks asking).0 own).3
      | inr given ↦ given.4
    ]

-- the verdict on the question is that of the statement
pub verdict_shared : (setting : Setting) (lines : List Line) (statement : Statement) (word : Word)
    (left right : ℕ) (verdict : Verdict) → statement ≡ T.Sub left right
    → IsVerdictOfSub setting lines word left right verdict
    → IsVerdict setting lines statement word verdict
verdict_shared setting lines statement word left right verdict same answer =
    subst (λ s. IsVerdict setting lines s word verdict) (sym same)
    (OfSets word answer.0, (refl, answer.1), answer.2)

-- without a question the statement has no shape
no_shape : (lines : List Line) (word : Word) (left right : ℕ) → (word ≡ W.B4 → ⊥)
    → ((q : QuestionState) → IsQuestion lines word left right q → ⊥)
    → HasShape lines (T.Sub left right) word → ⊥
no_shape lines word left right other out (OfSets asked q, is) = out q is.1
no_shape lines word left right other out (OfTwo x y, is) = other is.0
no_shape lines word left right other out (OfActs first second, is) = is

pub sub_unshaped : (lines : List Line) (statement : Statement) (word : Word) (left right : ℕ)
    → statement ≡ T.Sub left right → (word ≡ W.B4 → ⊥)
    → ((q : QuestionState) → IsQuestion lines word left right q → ⊥)
    → HasShape lines statement word → ⊥
sub_unshaped lines statement word left right same other out has =
    no_shape lines word left right other out (subst (λ s. HasShape lines s word) same has)
