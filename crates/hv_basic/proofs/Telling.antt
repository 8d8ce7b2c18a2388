-- A statement that what is kept of its right side tells to be true is true.
use Rattle.std.proofs.Common.{◌≡◌, ℕ, zero, suc, ◌<◌, ◌≤◌, ◌+◌, ◌∙◌, ◌↔◌, ◌⊎◌, ◌++◌, Bool, true, false}
use Rattle.std.proofs.Common.{not, List, [], ◌∷◌, Option, Some, None, get_or, length, map, slice_get}
use Rattle.std.proofs.Common.{refl, sym, ap, subst, inl, inr, arith}
use Rattle.std.proofs.lemmas.Bool.{cases_lt, not-false}
use Rattle.std.proofs.lemmas.List.{length-append, length-map}
use Rattle.std.proofs.lemmas.List.Elements.{Contains-append_cases, Contains-append_left}
use Rattle.std.proofs.lemmas.List.Elements.{Contains-append_right, Contains-get_or}
use Rattle.std.proofs.lemmas.Option.{same_Some, slice_get-get_or, slice_get_within}
use Rattle.std.specs.List.{Contains}
use Rattle.std.specs.Option.{IfSome, MatchOption}
use Rattle.hv_lines.specs.Literals.{IsLiteral, IsNegatedSet}
use Rattle.hv_lines.specs.Numbering.{IsTable, expr_count}
use Rattle.hv_lines.specs.Queries.{PassesBudget, query_of}
use Rattle.hv_lines.specs.Setting.{Setting}
use Rattle.hv_lines.specs.Shapes.{AskedBefore, Askings, AskingsRise, IsLiteralOf, IsOfFamily}
use Rattle.hv_lines.specs.Shapes.{IsQuestion, IsWithinFamily, QuestionState, asks_sides_after}
use Rattle.hv_lines.specs.Verdicts.{IsVerdictOfSets}
use Rattle.hv_lines.specs.declared.formula_family.FormulaFamily.{FormulaFamily}
use Rattle.hv_lines.specs.declared.line.Line.{Line}
use Rattle.hv_lines.specs.declared.line.Word.{Word}
use Rattle.hv_lines.specs.declared.verdict.Verdict.TheVariants as V
use Rattle.hv_lines.proofs.Elements.{cons_cases, got_in, head_in, in_mapped, nothing_in, tail_in}
use Rattle.hv_lines.proofs.Laws.{expr_below}
use Rattle.hv_lines.proofs.Shaped.{literal_once}
use Rattle.hv_basic.specs.Leaves.{IsItsFamily, IsLeafRead, places}
use Rattle.hv_basic.specs.Sharing.{AreNegations, AreWays, IsKeptFor, IsNegatedFamily, IsNegatedIn}
use Rattle.hv_basic.specs.Sharing.{IsRightSide}
use Rattle.hv_basic.specs.Working.Asked.{AreChosen}
use Rattle.hv_basic.specs.Working.Gathered.{AreGathered, AreLeftAskings, HaveTheirFamilies, IsGiven}
use Rattle.hv_basic.specs.Working.Gathered.{IsFamilyIn, IsLeftRead, IsThe}
use Rattle.hv_basic.specs.Working.Sharing.{IsFamilyBeside, IsFamilyWith, IsVerdictOfSub}
use Rattle.hv_basic.specs.Working.Told.{HasOwn, IsOwn, IsToldTrue}
use Rattle.hv_basic.specs.declared.shared.Kept.{Kept}
use Rattle.hv_basic.specs.declared.sides.Sides.{Sides}
use Rattle.hv_basic.specs.declared.signed_sets.Asking.{Asking}
use Rattle.hv_basic.specs.declared.signed_sets.Leaf.{Leaf}
use Rattle.hv_basic.specs.declared.signed_sets.SignedSet.{SignedSet}
use Rattle.hv_basic.proofs.Gathering.{family_once}
use Rattle.hv_basic.proofs.LeftSides.{question_by}
use Rattle.hv_basic.proofs.Literals.{enough_decided}
use Rattle.hv_basic.proofs.Ordering.{before_trans}
use Rattle.hv_basic.proofs.Within.{map_has, offered, own_decided, passes_out, ways_are}

-- what is asked about, put in order

before_or : (a b : ℕ × Bool) → AskedBefore a b ⊎ ((a ≡ b) ⊎ AskedBefore b a)
before_or a b = elim (cases_lt a.0 b.0) [
  | inl less ↦ inl (inl less)
  | inr upto ↦ elim (cases_lt b.0 a.0) [
    | inl more ↦ inr (inr (inl more))
    | inr also ↦ flags a.1 b.1 refl refl (omega (arith, upto, also))
  ]
]
  where
    flags : (s t : Bool) → a.1 ≡ s → b.1 ≡ t → a.0 ≡ b.0
        → AskedBefore a b ⊎ ((a ≡ b) ⊎ AskedBefore b a)
    flags true true at bt same =
        let flag : a.1 ≡ b.1 = at ∙ sym bt in inr (inl (λ i. (same i, flag i)))
    flags false false at bt same =
        let flag : a.1 ≡ b.1 = at ∙ sym bt in inr (inl (λ i. (same i, flag i)))
    flags false true at bt same = inl (inr (same, at, bt))
    flags true false at bt same = inr (inr (inr (sym same, bt, at)))

rises_first : (x : ℕ × Bool) (xs : Askings) → AskingsRise xs
    → ((y : ℕ × Bool) → Contains xs y → AskedBefore x y) → AskingsRise (x ∷ xs)
rises_first x xs rises before zero zero first second less at_first at_second =
    absurd (omega (arith, less))
rises_first x xs rises before zero (suc j) first second less at_first at_second =
    subst (λ (p : ℕ × Bool). AskedBefore p second) (same_Some x first at_first)
    (before second (got_in xs j second at_second))
rises_first x xs rises before (suc i) zero first second less at_first at_second =
    absurd (omega (arith, less))
rises_first x xs rises before (suc i) (suc j) first second less at_first at_second =
    rises i j first second (omega (arith, less)) at_first at_second

rises_rest : (x : ℕ × Bool) (xs : Askings) → AskingsRise (x ∷ xs) → AskingsRise xs
rises_rest x xs rises i j first second less at_first at_second =
    rises (suc i) (suc j) first second (omega (arith, less)) at_first at_second

first_of : (x : ℕ × Bool) (xs : Askings) → AskingsRise (x ∷ xs) → (y : ℕ × Bool)
    → Contains xs y → AskedBefore x y
first_of x xs rises y c =
    rises 0 (suc c.0) x y (omega arith) refl (slice_get-get_or xs c.0 y c.1 ∙ ap Some c.2)

-- what rises, with one more
record IsPutIn (asked : Askings) (a : ℕ × Bool) (new : Askings) : Type 0 where
  rises : AskingsRise new
  has : (x : ℕ × Bool) → Contains new x ↔ (Contains asked x ⊎ (a ≡ x))
  few : length new ≤ length asked + 1

put_in : (asked : Askings) (a : ℕ × Bool) → AskingsRise asked
    → (new : Askings) × IsPutIn asked a new
put_in [] a rises = (
  a ∷ [],
  record {
    rises = rises_first a [] rises (λ y c. absurd (nothing_in y c));
    has = λ x. (
      λ c. elim (cons_cases a [] x c) [ inl same ↦ inr same | inr none ↦ inl none ],
      elim [
        | inl none ↦ absurd (nothing_in x none)
        | inr same ↦ subst (Contains (a ∷ [])) same (head_in a [])
      ],
    );
    few = omega arith;
  },
)
put_in (y ∷ ys) a rises = elim (before_or a y) [
  | inl less ↦ (
    a ∷ y ∷ ys,
    record {
      rises = rises_first a (y ∷ ys) rises (λ x c. elim (cons_cases y ys x c) [
        | inl same ↦ subst (AskedBefore a) same less
        | inr there ↦ before_trans a y x less (first_of y ys rises x there)
      ]);
      has = λ x. (
        λ c. elim (cons_cases a (y ∷ ys) x c) [ inl same ↦ inr same | inr there ↦ inl there ],
        elim [
          | inl there ↦ tail_in a (y ∷ ys) x there
          | inr same ↦ subst (Contains (a ∷ y ∷ ys)) same (head_in a (y ∷ ys))
        ],
      );
      few = omega arith;
    },
  )
  | inr (inl same) ↦ (
    y ∷ ys,
    record {
      rises = rises;
      has = λ x. (
        λ c. inl c,
        elim [
          | inl c ↦ c
          | inr is ↦ subst (Contains (y ∷ ys)) (sym same ∙ is) (head_in y ys)
        ],
      );
      few = omega arith;
    },
  )
  | inr (inr more) ↦
      let rest = put_in ys a (rises_rest y ys rises) in
      let is = rest.1 in
      let size = is.few in (
        y ∷ rest.0,
        record {
          rises = rises_first y rest.0 is.rises (λ x c. elim ((is.has x).0 c) [
            | inl there ↦ first_of y ys rises x there
            | inr same ↦ subst (AskedBefore y) same more
          ]);
          has = λ x. (
            λ c. elim (cons_cases y rest.0 x c) [
              | inl same ↦ inl (subst (Contains (y ∷ ys)) same (head_in y ys))
              | inr there ↦ elim ((is.has x).0 there) [
                | inl was ↦ inl (tail_in y ys x was)
                | inr own ↦ inr own
              ]
            ],
            elim [
              | inl c ↦ elim (cons_cases y ys x c) [
                | inl same ↦ subst (Contains (y ∷ rest.0)) same (head_in y rest.0)
                | inr there ↦ tail_in y rest.0 x ((is.has x).1 (inl there))
              ]
              | inr own ↦ tail_in y rest.0 x ((is.has x).1 (inr own))
            ],
          );
          few = omega (arith, size);
        },
      )
]

-- what is asked about with the sign of the left side, in order
record IsInOrder (askings : List Asking) (chosen : Askings) : Type 0 where
  rises : AskingsRise chosen
  are : AreChosen askings true chosen
  few : length chosen ≤ length askings

in_order : (askings : List Asking) → ((a : Asking) → Contains askings a → a.positive ≡ true)
    → (chosen : Askings) × IsInOrder askings chosen
in_order [] plus = (
  [],
  record {
    rises = λ i j first second less at_first at_second.
        let within = slice_get_within [] i first at_first in absurd (omega (arith, within));
    are = λ asked. (
      λ c. absurd (nothing_in asked c),
      λ given. absurd (nothing_in _ given.1),
    );
    few = omega arith;
  },
)
in_order (a ∷ rest) plus =
    let old = in_order rest (λ b c. plus b (tail_in a rest b c)) in
    let was = old.1 in
    let new = put_in old.0 (a.set, a.after) was.rises in
    let is = new.1 in
    let first = was.few in
    let second = is.few in (
      new.0,
      record {
        rises = is.rises;
        are = λ asked. (
          λ c. elim ((is.has asked).0 c) [
            | inl there ↦
                let w = (was.are asked).0 there in
                (w.0, tail_in a rest _ w.1)
            | inr same ↦
                let ids : a.set ≡ asked.0 = ap (λ (p : ℕ × Bool). p.0) same in
                let late : a.after ≡ asked.1 = ap (λ (p : ℕ × Bool). p.1) same in
                let sign : a.positive ≡ true = plus a (head_in a rest) in
                let one : a ≡ record {
                  set = asked.0;
                  after = asked.1;
                  positive = true;
                  family = a.family;
                } = λ k. record {
                  set = ids k;
                  after = late k;
                  positive = sign k;
                  family = a.family;
                } in
                (a.family, subst (Contains (a ∷ rest)) one (head_in a rest))
          ],
          λ given. (is.has asked).1 (elim (cons_cases a rest _ given.1) [
            | inl same ↦
                let ids : a.set ≡ asked.0 = ap (λ (x : Asking). x.set) same in
                let late : a.after ≡ asked.1 = ap (λ (x : Asking). x.after) same in
                inr (λ k. (ids k, late k))
            | inr there ↦ inl ((was.are asked).1 (given.0, there))
          ]),
        );
        few = omega (arith, first, second);
      },
    )

-- what negations ask about

abbrev set_of : Option SignedSet → ℕ
set_of None = 0
set_of (Some literal) = literal.set

-- what the negation asks about
abbrev asked_by : Bool → Leaf → Asking
asked_by after leaf = record {
  set = set_of leaf.literal;
  after = after;
  positive = true;
  family = leaf.family;
}

negation_of : (lines : List Line) (leaf : Leaf) → IsNegatedSet lines leaf.place
    → IsLeafRead lines leaf
    → IsLiteralOf lines leaf.place (set_of leaf.literal) false
    × IsItsFamily lines (set_of leaf.literal) leaf.family
negation_of lines leaf negated read = by leaf.literal read.is read.family
  where
    by : (found : Option SignedSet)
        → MatchOption found (IsLiteral lines leaf.place → ⊥) (IsThe lines leaf.place)
        → IfSome found (λ (l : SignedSet). IsItsFamily lines l.set leaf.family)
        → IsLiteralOf lines leaf.place (set_of found) false
        × IsItsFamily lines (set_of found) leaf.family
    by None none family = absurd (none (inr negated))
    by (Some l) is family =
        let sign : l.is_plain ≡ false = (literal_once lines leaf.place l.set negated.0 l.is_plain
        false is (negated.1, negated.2)).1 in
        (subst (IsLiteralOf lines leaf.place l.set) sign is, family)

module _ (lines : List Line) (first : List Asking) (leaves : List Leaf) (after : Bool)
    (are : AreNegations lines leaves) where
  abbrev beside : List Asking
  beside = map (asked_by after) leaves

  given_by : (leaf : Leaf) → Contains leaves leaf
      → IsGiven lines (places leaves) false after (asked_by after leaf)
  given_by leaf c =
      let is = negation_of lines leaf (are leaf c).0 (are leaf c).1 in
      (leaf.place, map_has (λ (l : Leaf). l.place) leaves leaf c, is.0, refl, is.1)

  asked_from : (a : Asking) → IsGiven lines (places leaves) false after a → Contains beside a
  asked_from a (place, has, literal, late, family) =
      let w = in_mapped (λ (l : Leaf). l.place) leaves place has in
      let is = negation_of lines w.0 (are w.0 w.1).0 (are w.0 w.1).1 in
      let once = literal_once lines place (set_of w.0.literal) a.set false (not a.positive)
      (subst (λ p. IsLiteralOf lines p (set_of w.0.literal) false) w.2 is.0) literal in
      let sign : a.positive ≡ true = not-false a.positive (sym once.1) in
      let same_family : w.0.family ≡ a.family =
      family_once lines (set_of w.0.literal) a.set w.0.family a.family once.0 is.1 family in
      let one : asked_by after w.0 ≡ a = λ k. record {
        set = once.0 k;
        after = sym late k;
        positive = sym sign k;
        family = same_family k;
      } in
      subst (Contains beside) one (map_has (asked_by after) leaves w.0 w.1)

  gathered : AreGathered lines (places leaves) false after first (first ++ beside)
  gathered a = (
    λ c. elim (Contains-append_cases first beside a c) [
      | inl was ↦ inl was
      | inr there ↦
          let w = in_mapped (asked_by after) leaves a there in
          inr (subst (IsGiven lines (places leaves) false after) w.2 (given_by w.0 w.1))
    ],
    elim [
      | inl was ↦ Contains-append_left first beside a was
      | inr given ↦ Contains-append_right first beside a (asked_from a given)
    ],
  )

  all_positive : ((a : Asking) → Contains first a → a.positive ≡ true) → (a : Asking)
      → Contains (first ++ beside) a → a.positive ≡ true
  all_positive plus a c = elim (Contains-append_cases first beside a c) [
    | inl was ↦ plus a was
    | inr there ↦
        let w = in_mapped (asked_by after) leaves a there in
        ap (λ (x : Asking). x.positive) (sym w.2)
  ]

  -- the negations of the leaves are as they were read
  negated_is : (leaf : Leaf) → Contains leaves leaf → IsNegatedIn leaves (set_of leaf.literal)
  negated_is leaf c = (leaf, c, by leaf.literal (are leaf c).1.is)
    where
      by : (found : Option SignedSet)
          → MatchOption found (IsLiteral lines leaf.place → ⊥) (IsThe lines leaf.place)
          → found ≡ Some (record { set = set_of found; is_plain = false })
      by None none = absurd (none (inr (are leaf c).0))
      by (Some l) is =
          let negated = (are leaf c).0 in
          let sign : l.is_plain ≡ false = (literal_once lines leaf.place l.set negated.0 l.is_plain
          false is (negated.1, negated.2)).1 in
          λ k. Some (record { set = l.set; is_plain = sign k })

  -- what is asked about by a set that is negated
  asked_of : (set : ℕ) → IsNegatedIn leaves set
      → (a : Asking) × Contains (first ++ beside) a × (a.set ≡ set) × (a.after ≡ after)
      × (a.positive ≡ true)
  asked_of set (leaf, c, is) = (
    asked_by after leaf,
    Contains-append_right first beside (asked_by after leaf)
        (map_has (asked_by after) leaves leaf c),
    ap set_of is,
    refl,
    refl,
  )

  module _ (family : FormulaFamily) where
    all_within : ((a : Asking) → Contains first a → IsWithinFamily lines family a.set)
        → ((set : ℕ) → IsNegatedIn leaves set → IsWithinFamily lines family set)
        → (a : Asking) → Contains (first ++ beside) a → IsWithinFamily lines family a.set
    all_within left right a c = elim (Contains-append_cases first beside a c) [
      | inl was ↦ left a was
      | inr there ↦
          let w = in_mapped (asked_by after) leaves a there in
          subst (λ (x : Asking). IsWithinFamily lines family x.set) w.2
          (right (set_of w.0.literal) (negated_is w.0 w.1))
    ]

    family_beside : (plain negated right : Option FormulaFamily)
        → IsFamilyWith plain negated right → IsFamilyBeside lines first right family
        → IsNegatedFamily lines leaves negated
        → IsFamilyBeside lines (first ++ beside) plain family
    family_beside None None right with is none =
        let left : IsFamilyIn lines first family =
        subst (λ r. IsFamilyBeside lines first r family) with is in
        record {
          within = all_within left.within (λ set c. let no = none set c in (no.0, no.1, inl no.2));
          some = elim left.some [
            | inl horn ↦ inl horn
            | inr (a, c, of) ↦ inr (a, Contains-append_left first beside a c, of)
          ];
        }
    family_beside None (Some own) right with is (within, (some, has, of)) =
        let left = subst (λ r. IsFamilyBeside lines first r family) with is in
        let a = asked_of some has in
        record {
          within = all_within left.1 (λ set c. subst (λ f. IsWithinFamily lines f set) (sym left.0)
              (within set c));
          some = inr (
            a.0,
            a.1,
            subst (λ f. IsOfFamily lines f a.0.set) (sym left.0)
                (subst (IsOfFamily lines own) (sym a.2) of),
          );
        }
    family_beside (Some own) None right with is none =
        let left = subst (λ r. IsFamilyBeside lines first r family) with is in (
          left.0,
          all_within left.1 (λ set c. let no = none set c in (no.0, no.1, inl no.2)),
        )
    family_beside (Some own) (Some other) right (same, with) is (within, (some, has, of)) =
        let left = subst (λ r. IsFamilyBeside lines first r family) with is in (
          left.0,
          all_within left.1 (λ set c. subst (λ f. IsWithinFamily lines f set)
              (sym same ∙ sym left.0) (within set c)),
        )

-- what the left side asks about is of its families
pub left_families : (lines : List Line) (word : Word) (left : ℕ) (first : List Asking)
    → AreLeftAskings lines word left first → HaveTheirFamilies lines first
left_families lines word left first asks k d within =
    ((asks (get_or first k d)).0 (Contains-get_or first k d within)).3

-- and has a line
pub family_below : (lines : List Line) → IsTable lines → (askings : List Asking)
    → HaveTheirFamilies lines askings → (k : ℕ) (d : Asking) → k < length askings
    → (get_or askings k d).set < expr_count lines
family_below lines table askings families k d within =
    let is = families k d within in
    expr_below lines (get_or askings k d).set is.0 table is.1

-- a set that the left side asks for, by its place
pub own_at : (lines : List Line) (kept : Kept) (askings : List Asking) (k : ℕ) (d : Asking)
    → k < length askings → (get_or askings k d).after ≡ kept.after
    → IsOwn lines kept (get_or askings k d).set → HasOwn lines kept askings
own_at lines kept askings k d within late own =
    (get_or askings k d, Contains-get_or askings k d within, late, own)

-- what is kept of a right side
pub kept_of : (lines : List Line) (kept : Kept) (root : ℕ) → IsRightSide lines kept
    → kept.root ≡ Some root → IsKeptFor lines kept root
kept_of lines kept root is same = subst (λ r. IfSome r (IsKeptFor lines kept)) same is

module _ (setting : Setting) (lines : List Line) (word : Word) (left right : ℕ) (kept : Kept)
    (sides : Sides) (is : IsKeptFor lines kept right) (late : kept.after ≡ asks_sides_after word)
    (read : IsLeftRead lines word left sides)
    (told : IsToldTrue lines kept sides.askings.items setting.budget) where
  abbrev leaves : List Leaf
  leaves = kept.negations.items

  abbrev askings : List Asking
  askings = sides.askings.items ++ map (asked_by kept.after) leaves

  plus : (a : Asking) → Contains askings a → a.positive ≡ true
  plus = all_positive lines sides.askings.items leaves kept.after is.side.negations told.positive

  positive : (chosen : Askings) × IsInOrder askings chosen
  positive = in_order askings plus

  abbrev question : QuestionState
  question = record {
    family = told.one_family.family;
    positive = positive.0;
    negative = kept.question.negative.items;
    acts = sides.acts;
  }

  few : length positive.0 + length kept.question.negative.items ≤ 65536
  few =
      let long = length-append sides.askings.items (map (asked_by kept.after) leaves) in
      let size = length-map leaves (asked_by kept.after) in
      let one = positive.1.few in
      let all = told.affordable.few in
      omega (arith, long, size, one, all)

  asked : IsQuestion lines word left right question
  asked =
      question_by lines word left right sides.askings.items askings kept.after kept.family
      kept.question.negative.items (places leaves) is.side.plain
      (λ leaf has.
      let w = in_mapped (λ (l : Leaf). l.place) leaves leaf has in
      subst (IsNegatedSet lines) w.2 (is.side.negations w.0 w.1).0)
      is.leaves late read.askings
      (gathered lines sides.askings.items leaves kept.after is.side.negations) plus
      sides.acts told.one_family.family positive.0 read.side
      (family_beside lines sides.askings.items leaves kept.after is.side.negations
      told.one_family.family kept.family kept.negated told.one_family.are.right
      told.one_family.are.of_right
      (told.one_family.are.of_all lines (left_families lines word left sides.askings.items
      read.askings)) is.side.negated)
      positive.1.rises positive.1.are few

  has_asking : (a : Asking) → Contains askings a → Contains positive.0 (a.set, a.after)
  has_asking a c =
      let sign = plus a c in
      let one : a ≡ record {
        set = a.set;
        after = a.after;
        positive = true;
        family = a.family;
      } = λ k. record {
        set = a.set;
        after = a.after;
        positive = sign k;
        family = a.family;
      } in
      (positive.1.are (a.set, a.after)).1 (a.family, subst (Contains askings) one c)

  own_in : Contains positive.0 (told.own.0.set, kept.after)
  own_in = subst (λ b. Contains positive.0 (told.own.0.set, b)) told.own.2
      (has_asking told.own.0 (Contains-append_left sides.askings.items
      (map (asked_by kept.after) leaves) told.own.0 told.own.1))

  negated_in : (set : ℕ) → IsNegatedIn leaves set → Contains positive.0 (set, kept.after)
  negated_in set c =
      let a = asked_of lines sides.askings.items leaves kept.after is.side.negations set c in
      subst (λ b. Contains positive.0 (set, b)) a.3
      (subst (λ x. Contains positive.0 (x, a.0.after)) a.2 (has_asking a.0 a.1))

  free : (action : Option ℕ)
      → PassesBudget setting lines told.one_family.family (query_of lines question action) → ⊥
  free action =
      passes_out setting lines (query_of lines question action) told.affordable.ways
      told.one_family.family told.one_family.in_clauses
      (ways_are setting.task lines told.one_family.family kept.question.negative.items
      told.affordable.ways
      (subst (λ o. IfSome o (AreWays lines kept.question.negative.items)) told.affordable.told
      is.side.ways)
      (λ a c. asked.family.within false a ((asked.negative a).0 c))) told.affordable.within

  -- the verdict on the statement
  pub told_within : IsVerdictOfSub setting lines word left right V.True
  told_within = (question, asked, verdict)
    where
      verdict : IsVerdictOfSets setting lines question V.True
      verdict = elim told.own.3 [
        | inl c ↦ (
          offered lines question told.one_family.family told.one_family.in_clauses,
          own_decided setting lines question (told.own.0.set, kept.after) own_in c free,
        )
        | inr has ↦ (
          offered lines question told.one_family.family told.one_family.in_clauses,
          enough_decided setting lines question told.own.0.set kept.after leaves kept.enough own_in
              is.side.enough negated_in
              (λ set. elim [
                | inl c ↦ asked.family.within true (set, kept.after)
                    ((asked.positive (set, kept.after)).0 c)
                | inr c ↦ asked.family.within false (set, kept.after)
                    ((asked.negative (set, kept.after)).0 c)
              ]) has free,
        )
      ]
