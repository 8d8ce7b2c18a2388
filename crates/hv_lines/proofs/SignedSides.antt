-- The sides of a basic statement by the formulas and constants that their literals are of, each
-- with its sign: what such a statement asks, in any family.
use Rattle.std.proofs.Common.{◌≡◌, ℕ, ◌+◌, ◌≤◌, ◌⊎◌, ◌↔◌, ◌++◌, Bool, true, false, not, List, []}
use Rattle.std.proofs.Common.{◌∷◌, Option, Some, None, length, refl, sym, subst, inl, inr}
use Rattle.std.proofs.lemmas.List.Elements.{Contains-append_cases, Contains-append_left}
use Rattle.std.proofs.lemmas.List.Elements.{Contains-append_right}
use Rattle.std.specs.List.{Contains}
use Rattle.hv_lines.specs.Literals.{IsPlainExpr}
use Rattle.hv_lines.specs.Numbering.{expr_at}
use Rattle.hv_lines.specs.Shapes.{Askings, AskingsRise, HasSides, IsAndLeaf, IsAsked, IsLeaf}
use Rattle.hv_lines.specs.Shapes.{IsLeftLeaf, IsLiteralOf, IsOfFamily, IsQuestion}
use Rattle.hv_lines.specs.Shapes.{IsStep, IsWithinFamily, QuestionState, alone, and_parts}
use Rattle.hv_lines.specs.Shapes.{asked_step, asks_sides_after, asks_step_after, family_of}
use Rattle.hv_lines.specs.Shapes.{most_operands, of_left, of_right, or_parts}
use Rattle.hv_lines.specs.declared.formula_family.FormulaFamily.{FormulaFamily}
use Rattle.hv_lines.specs.declared.line.Expr.{Expr}
use Rattle.hv_lines.specs.declared.line.Expr.TheVariants as E
use Rattle.hv_lines.specs.declared.line.Line.{Line}
use Rattle.hv_lines.specs.declared.line.Word.{Word}
use Rattle.hv_lines.specs.declared.line.Word.TheVariants as W
use Rattle.hv_lines.proofs.Elements.{cons_cases, head_in, nothing_in}
use Rattle.hv_lines.proofs.PlainSides.{asked_all, from_asked, only_leaf, part_leaf, to_asked}
use Rattle.hv_lines.proofs.Questions.{alone_no_step}
use Rattle.hv_lines.proofs.Shaped.{literal_from, literal_once, step_no_literal, step_once}

-- the formulas and constants that some literals are of: with the sign true those that are literals
-- themselves, with the sign false those whose negations are
abbrev pub Signed : Type 0
Signed = Bool → List ℕ

-- these, all of one sign
abbrev pub those : Bool → List ℕ → Signed
those true xs true = xs
those false xs false = xs
those true xs false = []
those false xs true = []

-- one of them
abbrev pub only : Bool → ℕ → Signed
only sign x = those sign (x ∷ [])

only_in : (sign : Bool) (x : ℕ) → Contains (only sign x sign) x
only_in true x = head_in x []
only_in false x = head_in x []

one_in : (x y : ℕ) → Contains (x ∷ []) y → x ≡ y
one_in x y c = elim (cons_cases x [] y c)
    [ inl same ↦ same | inr none ↦ absurd (nothing_in y none) ]

only_is : (sign other : Bool) (x y : ℕ) → Contains (only sign x other) y
    → (sign ≡ other) × (x ≡ y)
only_is true true x y c = (refl, one_in x y c)
only_is false false x y c = (refl, one_in x y c)
only_is true false x y c = absurd (nothing_in y c)
only_is false true x y c = absurd (nothing_in y c)

-- two lists in the one order or the other

abbrev pub joined : {X : Type 0} → Bool → List X → List X → List X
joined true xs ys = xs ++ ys
joined false xs ys = ys ++ xs

in_joined : {X : Type 0} (left_first : Bool) (xs ys : List X) (a : X)
    → Contains (joined left_first xs ys) a ↔ (Contains xs a ⊎ Contains ys a)
in_joined true xs ys a = (
  λ c. Contains-append_cases xs ys a c,
  elim [ inl c ↦ Contains-append_left xs ys a c | inr c ↦ Contains-append_right xs ys a c ],
)
in_joined false xs ys a = (
  λ c. elim (Contains-append_cases ys xs a c) [ inl there ↦ inr there | inr here ↦ inl here ],
  elim [ inl c ↦ Contains-append_right ys xs a c | inr c ↦ Contains-append_left ys xs a c ],
)

-- the leaves of the set are literals of these, each of the family or a constant
pub record AreSigned (family : FormulaFamily) (parts : Expr → Option (ℕ × ℕ)) (lines : List Line)
    (set : ℕ) (signed : Signed) : Type 0 where
  pub each : (leaf : ℕ) → IsLeaf parts lines set leaf
      → (sign : Bool) × (x : ℕ) × Contains (signed sign) x × IsLiteralOf lines leaf x sign
  pub all : (sign : Bool) (x : ℕ) → Contains (signed sign) x
      → (leaf : ℕ) × IsLeaf parts lines set leaf × IsLiteralOf lines leaf x sign
      × IsWithinFamily lines family x

module _ (family : FormulaFamily) (parts : Expr → Option (ℕ × ℕ)) (lines : List Line) where
  -- a literal is its only leaf
  pub one_signed : (set : ℕ) (expr : Expr) → expr_at lines set ≡ Some expr → parts expr ≡ None
      → (sign : Bool) (x : ℕ) → IsLiteralOf lines set x sign → IsWithinFamily lines family x
      → AreSigned family parts lines set (only sign x)
  one_signed set expr at none sign x literal within = record {
    each = λ leaf of. (
      sign,
      x,
      only_in sign x,
      subst (λ l. IsLiteralOf lines l x sign) (only_leaf parts lines set leaf of expr at none)
          literal,
    );
    all = λ other y c.
        let w = only_is sign other x y c in
        subst (λ s. (leaf : ℕ) × IsLeaf parts lines set leaf × IsLiteralOf lines leaf y s
        × IsWithinFamily lines family y) w.0
        (subst (λ z. (leaf : ℕ) × IsLeaf parts lines set leaf × IsLiteralOf lines leaf z sign
        × IsWithinFamily lines family z) w.1 (set, alone set expr at none, literal, within));
  }

  -- so is a formula or constant, and its negation
  module _ (set : ℕ) (expr : Expr) (at : expr_at lines set ≡ Some expr) (none : parts expr ≡ None)
      (of : (family_of expr ≡ None) ⊎ (family_of expr ≡ Some family)) where
    pub plain_signed : IsPlainExpr expr → AreSigned family parts lines set (only true set)
    plain_signed plain = one_signed set expr at none true set (refl, (expr, at, plain))
        (expr, at, of)

    pub literal_signed : parts (E.Not set) ≡ None → (sign : Bool) (leaf : ℕ)
        → IsLiteralOf lines leaf set sign → AreSigned family parts lines leaf (only sign set)
    literal_signed none_too true leaf literal =
        one_signed leaf expr (subst (λ l. expr_at lines l ≡ Some expr) (sym literal.0) at) none
        true set literal (expr, at, of)
    literal_signed none_too false leaf literal =
        one_signed leaf (E.Not set) literal.0 none_too false set literal (expr, at, of)

  -- a set of two parts has the leaves of both
  pub both_signed : (set a b : ℕ) (expr : Expr) → expr_at lines set ≡ Some expr
      → parts expr ≡ Some (a, b) → (left_first : Bool) (ls ms : Signed)
      → AreSigned family parts lines a ls → AreSigned family parts lines b ms
      → AreSigned family parts lines set (λ sign. joined left_first (ls sign) (ms sign))
  both_signed set a b expr at two left_first ls ms of_a of_b = record {
    each = λ leaf of. elim (part_leaf parts lines set leaf of expr a b at two) [
      | inl here ↦
          let w = of_a.each leaf here in
          (w.0, w.1, (in_joined left_first (ls w.0) (ms w.0) w.1).1 (inl w.2), w.3)
      | inr there ↦
          let w = of_b.each leaf there in
          (w.0, w.1, (in_joined left_first (ls w.0) (ms w.0) w.1).1 (inr w.2), w.3)
    ];
    all = λ sign x c. elim ((in_joined left_first (ls sign) (ms sign) x).0 c) [
      | inl here ↦
          let w = of_a.all sign x here in
          (w.0, of_left set a b w.0 expr at two w.1, w.2, w.3)
      | inr there ↦
          let w = of_b.all sign x there in
          (w.0, of_right set a b w.0 expr at two w.1, w.2, w.3)
    ];
  }

  to_signed : (set : ℕ) (signed : Signed) → AreSigned family parts lines set signed
      → (leaf x : ℕ) (sign : Bool) → IsLeaf parts lines set leaf → IsLiteralOf lines leaf x sign
      → Contains (signed sign) x
  to_signed set signed are leaf x sign of literal =
      let w = are.each leaf of in
      let once = literal_once lines leaf w.1 x w.0 sign w.3 literal in
      subst (λ s. Contains (signed s) x) once.1 (subst (Contains (signed w.0)) once.0 w.2)

-- What is asked: what the left side has with a sign, and the right side with the other. The one or
-- the other is first, as the identifiers rise.

abbrev pub selves_of : Bool → Bool → Bool → Signed → Signed → Askings
selves_of left_first early late lefts rights =
    joined left_first (asked_all early (lefts true)) (asked_all late (rights false))

abbrev pub others_of : Bool → Bool → Bool → Signed → Signed → Askings
others_of left_first early late lefts rights =
    joined left_first (asked_all early (lefts false)) (asked_all late (rights true))

-- it rises, it is little enough, and some of it is of the family
pub record AreAsked (family : FormulaFamily) (lines : List Line) (positive negative : Askings)
    : Type 0 where
  pub selves : AskingsRise positive
  pub others : AskingsRise negative
  pub few : length positive + length negative ≤ most_operands
  pub some : (a : ℕ × Bool) × (Contains positive a ⊎ Contains negative a)
      × IsOfFamily lines family a.0

abbrev pub question_of : FormulaFamily → Askings → Askings → Option ℕ → QuestionState
question_of family positive negative acts = record {
  family = family;
  positive = positive;
  negative = negative;
  acts = acts;
}

-- the literals on the left side, or in the set of its step, are of these, and are asked about after
-- the action (true) or before it
record AreLefts (family : FormulaFamily) (lines : List Line) (word : Word) (left : ℕ) (early : Bool)
    (lefts : Signed) : Type 0 where
  to : (leaf x : ℕ) (after sign : Bool) → IsLeftLeaf lines word left leaf after
      → IsLiteralOf lines leaf x sign → Contains (lefts sign) x × (after ≡ early)
  from : (sign : Bool) (x : ℕ) → Contains (lefts sign) x
      → (leaf : ℕ) × IsLeftLeaf lines word left leaf early × IsLiteralOf lines leaf x sign
      × IsWithinFamily lines family x

module _ (family : FormulaFamily) (lines : List Line) (word : Word) (left right : ℕ) (early : Bool)
    (lefts rights : Signed) (left_are : AreLefts family lines word left early lefts)
    (right_are : AreSigned family or_parts lines right rights) where
  abbrev late : Bool
  late = asks_sides_after word

  abbrev Either : Bool → ℕ × Bool → Type 0
  Either sign a = Contains (asked_all early (lefts sign)) a
      ⊎ Contains (asked_all late (rights (not sign))) a

  asked_to : (sign : Bool) (a : ℕ × Bool) → IsAsked lines word left right sign a → Either sign a
  asked_to sign a (leaf, inl (side, literal)) =
      let w = left_are.to leaf a.0 a.1 sign side literal in
      inl (subst (λ b. Contains (asked_all early (lefts sign)) (a.0, b)) (sym w.1)
      (to_asked early (lefts sign) a.0 w.0))
  asked_to sign a (leaf, inr (side, literal)) =
      inr (subst (λ b. Contains (asked_all late (rights (not sign))) (a.0, b)) (sym side.1)
      (to_asked late (rights (not sign)) a.0
      (to_signed family or_parts lines right rights right_are leaf a.0 (not sign) side.0 literal)))

  asked_from : (sign : Bool) (a : ℕ × Bool) → Either sign a
      → IsAsked lines word left right sign a × IsWithinFamily lines family a.0
  asked_from sign a (inl c) =
      let w = from_asked early (lefts sign) a c in
      let l = left_are.from sign a.0 w.0 in
      ((l.0, inl (subst (IsLeftLeaf lines word left l.0) (sym w.1) l.1, l.2)), l.3)
  asked_from sign a (inr c) =
      let w = from_asked late (rights (not sign)) a c in
      let l = right_are.all (not sign) a.0 w.0 in
      ((l.0, inr ((l.1, w.1), l.2)), l.3)

  module _ (acts : Option ℕ) (sides : HasSides lines word left right acts) (p n : Bool)
      (asked : AreAsked family lines (selves_of p early late lefts rights)
      (others_of n early late lefts rights)) where
    selves : (a : ℕ × Bool) → Contains (selves_of p early late lefts rights) a ↔ Either true a
    selves = in_joined p (asked_all early (lefts true)) (asked_all late (rights false))

    others : (a : ℕ × Bool) → Contains (others_of n early late lefts rights) a ↔ Either false a
    others = in_joined n (asked_all early (lefts false)) (asked_all late (rights true))

    some_asked : (a : ℕ × Bool) → (Contains (selves_of p early late lefts rights) a
        ⊎ Contains (others_of n early late lefts rights) a) → IsOfFamily lines family a.0
        → (sign : Bool) × (asked : ℕ × Bool) × IsAsked lines word left right sign asked
        × IsOfFamily lines family asked.0
    some_asked a (inl c) of = (true, a, (asked_from true a ((selves a).0 c)).0, of)
    some_asked a (inr c) of = (false, a, (asked_from false a ((others a).0 c)).0, of)

    is_question : IsQuestion lines word left right (question_of family
        (selves_of p early late lefts rights) (others_of n early late lefts rights) acts)
    is_question = record {
      sides = sides;
      positive = λ a. (
        λ c. (asked_from true a ((selves a).0 c)).0,
        λ is. (selves a).1 (asked_to true a is),
      );
      negative = λ a. (
        λ c. (asked_from false a ((others a).0 c)).0,
        λ is. (others a).1 (asked_to false a is),
      );
      positive_rises = asked.selves;
      negative_rises = asked.others;
      few = asked.few;
      family = record {
        within = λ sign a is. (asked_from sign a (asked_to sign a is)).1;
        some = inr (some_asked asked.some.0 asked.some.1 asked.some.2);
      };
    }

module _ (family : FormulaFamily) (lines : List Line) (left right : ℕ) (lefts rights : Signed)
    (right_are : AreSigned family or_parts lines right rights) (p n : Bool) where
  -- `b1`: the left side is of literals alone
  pub still_question : AreSigned family and_parts lines left lefts
      → AreAsked family lines (selves_of p false false lefts rights)
      (others_of n false false lefts rights)
      → IsQuestion lines W.B1 left right (question_of family (selves_of p false false lefts rights)
      (others_of n false false lefts rights) None)
  still_question left_are =
      is_question family lines W.B1 left right false lefts rights (record {
        to = λ leaf x after sign side literal. elim side [
          | inl (of, by) ↦
              (to_signed family and_parts lines left lefts left_are leaf x sign of literal, by)
          | inr (step, set, acts, of, is_step, leaf_of, by) ↦
              absurd (alone_no_step lines W.B1 left right step set acts refl is_step)
        ];
        from = λ sign x c. let w = left_are.all sign x c in (w.0, inl (w.1, refl), w.2, w.3);
      }) right_are None (
        refl,
        λ leaf of. let w = left_are.each leaf of in literal_from lines leaf w.1 w.0 w.3,
        λ leaf of. let w = right_are.each leaf of in literal_from lines leaf w.1 w.0 w.3,
      ) p n

  -- `b2` and `b3`: the left side is a step by a set of such
  module _ (word : Word) (set acts : ℕ) (expr : Expr) (at : expr_at lines left ≡ Some expr)
      (single : and_parts expr ≡ None) (by_word : asked_step word expr ≡ Some (set, acts)) where
    step : IsStep lines word left set acts
    step = (expr, at, by_word)

    left_leaf : IsAndLeaf lines left left
    left_leaf = alone left expr at single

    left_is : (leaf : ℕ) → IsAndLeaf lines left leaf → left ≡ leaf
    left_is leaf of = only_leaf and_parts lines left leaf of expr at single

    step_at : (leaf : ℕ) → IsAndLeaf lines left leaf → IsStep lines word leaf set acts
    step_at leaf of = subst (λ l. IsStep lines word l set acts) (left_is leaf of) step

    abbrev Selves : Askings
    Selves = selves_of p (asks_step_after word) (asks_sides_after word) lefts rights

    abbrev Others : Askings
    Others = others_of n (asks_step_after word) (asks_sides_after word) lefts rights

    pub step_question : AreSigned family and_parts lines set lefts
        → AreAsked family lines Selves Others
        → IsQuestion lines word left right (question_of family Selves Others (Some acts))
    step_question set_are =
        is_question family lines word left right (asks_step_after word) lefts rights (record {
          to = λ leaf x after sign side literal. elim side [
            | inl (of, by) ↦
                absurd (step_no_literal lines word leaf set acts (step_at leaf of)
                (literal_from lines leaf x sign literal))
            | inr (other, of_step, by, of, is_step, leaf_of, when) ↦
                let same = step_once lines word other of_step by set acts is_step
                (step_at other of) in (
                  to_signed family and_parts lines set lefts set_are leaf x sign
                      (subst (λ s. IsAndLeaf lines s leaf) same.0 leaf_of) literal,
                  when,
                )
          ];
          from = λ sign x c.
              let w = set_are.all sign x c in
              (w.0, inr (left, set, acts, left_leaf, step, w.1, refl), w.2, w.3);
        }) right_are (Some acts) (
          left,
          set,
          left_leaf,
          step,
          λ leaf of. inr (sym (left_is leaf of)),
          λ leaf of. let w = set_are.each leaf of in literal_from lines leaf w.1 w.0 w.3,
          λ leaf of. let w = right_are.each leaf of in literal_from lines leaf w.1 w.0 w.3,
        ) p n
