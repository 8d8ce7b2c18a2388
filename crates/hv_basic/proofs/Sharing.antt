-- What is kept of a right side stays right, and grows with the union.
use Rattle.std.proofs.Common.{◌≡◌, ℕ, zero, suc, ◌<◌, ◌≤◌, ◌+◌, ◌-◌, ◌*◌, ◌∙◌, ◌⊎◌, ◌↔◌, ◌++◌, Bool}
use Rattle.std.proofs.Common.{true, false, List, [], ◌∷◌, Option, Some, None, length, map, get_or}
use Rattle.std.proofs.Common.{drop, eqb, ltb, mul_assoc, mul_comm, take}
use Rattle.std.proofs.Common.{refl, sym, ap, ap₂, subst, inl, inr, arith}
use Rattle.std.proofs.lemmas.Bool.{cases_lt, cond-false, ltb-false, ltb-true, ne_eqb}
use Rattle.std.proofs.lemmas.List.{get_or_default, get_or-map, length-map, map-append}
use Rattle.std.proofs.lemmas.List.Elements.{All-append, All-drop, All-get_or, All-push, All-take}
use Rattle.std.proofs.lemmas.List.Edits.{get_or-insert_above, get_or-insert_at, get_or-insert_below}
use Rattle.std.proofs.lemmas.List.Edits.{insert_end, length-insert}
use Rattle.std.proofs.lemmas.List.Sorted.{Contains-permutation, IsPermutation-insert}
use Rattle.std.proofs.lemmas.List.Sorted.{IsPermutation-sym}
use Rattle.std.proofs.lemmas.Option.{get_or_from_slice_get, slice_get-get_or, slice_get_within}
use Rattle.std.specs.BTreeSet.{BTreeSet}
use Rattle.std.specs.Global.{Vec}
use Rattle.std.specs.List.{All, Contains, insert, remove, slice_get}
use Rattle.hv_sets.specs.declared.literal.Literal.{Literal}
use Rattle.std.specs.List.Sorted.{IsNonDecreasingBy, IsPartitionPoint}
use Rattle.std.specs.Option.{IfSome, MatchOption}
use Rattle.hv_sets.specs.declared.query.Query.{Query}
use Rattle.hv_lines.specs.Literals.{IsLiteral, IsNegatedSet, IsPlainSet}
use Rattle.hv_lines.specs.Numbering.{MayFollow, IsTable, expr_at, expr_count}
use Rattle.hv_lines.specs.Queries.{count_of, named_by, operand_of, which_at}
use Rattle.hv_lines.specs.Shapes.{Askings, AskingsRise, IsLiteralOf, IsOfFamily, IsOrLeaf, IsWithinFamily}
use Rattle.hv_lines.specs.Shapes.{IsLeaf, alone, and_parts, family_of, of_left, of_right}
use Rattle.hv_lines.specs.Shapes.{or_parts}
use Rattle.hv_lines.specs.declared.formula_family.FormulaFamily.{FormulaFamily}
use Rattle.hv_lines.specs.declared.line.Expr.{Expr}
use Rattle.hv_lines.specs.declared.line.Expr.TheVariants as E
use Rattle.hv_lines.specs.declared.line.Line.{Line}
use Rattle.hv_lines.specs.declared.line.Line.TheVariants as L
use Rattle.hv_lines.proofs.Laws.{expr_at_more, expr_below, exprs_grow, refers_below}
use Rattle.hv_lines.proofs.Truth.{and_is, or_is}
use Rattle.hv_lines.proofs.Elements.{cons_cases, head_in, tail_in}
use Rattle.hv_basic.specs.Sharing.{AreEnoughFor, AreNegations, ArePlain, AreWays, HasLeaf}
use Rattle.hv_basic.specs.Sharing.{HasToChoose, IsEnoughFor, IsNegatedFamily}
use Rattle.hv_basic.specs.Sharing.{IsKeptFor, IsNoFormula, IsPlainSide, IsRightSide, IsTheFamily}
use Rattle.hv_basic.specs.Sharing.{NamesLiteral}
use Rattle.hv_basic.specs.Working.Gathered.{IsThe}
use Rattle.hv_basic.specs.Leaves.{IsLeafRead, places}
use Rattle.hv_basic.specs.Working.Sharing.{AreAddedTo, AreWaysWith, IsAddedTo, IsFamilyWith}
use Rattle.hv_basic.specs.Working.Sharing.{IsMadeOf, IsPartBeside, IsPlaceFor, IsSplitAt}
use Rattle.hv_basic.specs.declared.signed_sets.Leaf.{Leaf}
use Rattle.hv_basic.specs.declared.signed_sets.SignedSet.{SignedSet}
use Rattle.hv_basic.specs.declared.shared.Kept.{Kept}
use Rattle.hv_basic.proofs.Leafing.{leaf_parts}

-- lists

pub drop_at : {X : Type 0} (xs : List X) (i : ℕ) (d : X) → i < length xs
    → drop i xs ≡ get_or xs i d ∷ drop (suc i) xs
drop_at [] i d below = absurd (omega (arith, below))
drop_at (x ∷ xs) zero d below = refl
drop_at (x ∷ xs) (suc i) d below = drop_at xs i d (omega (arith, below))

-- what is in a list with one item more
pub insert_in : {X : Type 0} (xs : List X) (i : ℕ) (y x : X) → Contains xs x
    → Contains (insert xs i y) x
insert_in xs i y x c =
    Contains-permutation (y ∷ xs) (insert xs i y) x (IsPermutation-insert xs i y) (tail_in y xs x c)

pub inserted : {X : Type 0} (xs : List X) (i : ℕ) (y : X) → Contains (insert xs i y) y
inserted xs i y =
    Contains-permutation (y ∷ xs) (insert xs i y) y (IsPermutation-insert xs i y) (head_in y xs)

pub insert_cases : {X : Type 0} (xs : List X) (i : ℕ) (y x : X) → Contains (insert xs i y) x
    → Contains xs x ⊎ (y ≡ x)
insert_cases xs i y x c =
    elim (cons_cases y xs x (Contains-permutation (insert xs i y) (y ∷ xs) x
    (IsPermutation-sym (y ∷ xs) (insert xs i y) (IsPermutation-insert xs i y)) c)) [
      | inl same ↦ inr same
      | inr there ↦ inl there
    ]

-- where the items of a list with one item more stand
place_cases : {X : Type 0} (xs : List X) (i : ℕ) (y x : X) (k : ℕ) → i ≤ length xs
    → slice_get (insert xs i y) k ≡ Some x
    → ((k < i) × (slice_get xs k ≡ Some x))
    ⊎ (((k ≡ i) × (y ≡ x)) ⊎ ((i < k) × (slice_get xs (k - 1) ≡ Some x)))
place_cases xs i y x k upto at =
    let size = length-insert xs i y upto in
    let within = slice_get_within (insert xs i y) k x at in
    let e : get_or (insert xs i y) k x ≡ x = get_or_from_slice_get (insert xs i y) k x x at in
    elim (cases_lt k i) [
      | inl less ↦ inl (
        less,
        slice_get-get_or xs k x (omega (arith, less, upto))
            ∙ ap Some (sym (get_or-insert_below xs i y x k less upto) ∙ e),
      )
      | inr from ↦ elim (cases_lt i k) [
        | inl more ↦
            let back : k - 1 + 1 ≡ k = omega (arith, more) in
            inr (inr (
              more,
              slice_get-get_or xs (k - 1) x (omega (arith, more, within, size))
                  ∙ ap Some (sym (get_or-insert_above xs i y x (k - 1) (omega (arith, more)) upto)
                  ∙ (ap (λ j. get_or (insert xs i y) j x) back ∙ e)),
            ))
        | inr also ↦
            let here : k ≡ i = omega (arith, from, also) in
            inr (inl (
              here,
              sym (get_or-insert_at xs i y x upto)
                  ∙ (ap (λ j. get_or (insert xs i y) j x) (sym here) ∙ e),
            ))
      ]
    ]

-- what is asked about stays in order where a set is put in at its place
rises_insert : (asked : Askings) (place leaf : ℕ) (after : Bool) → AskingsRise asked
    → IsPlaceFor asked leaf place → AskingsRise (insert asked place (leaf, after))
rises_insert asked place leaf after rises is i j first second less at_first at_second =
    elim (place_cases asked place (leaf, after) first i is.0 at_first) [
      | inl before ↦ elim (place_cases asked place (leaf, after) second j is.0 at_second) [
        | inl other ↦ rises i j first second less before.1 other.1
        | inr (inl here) ↦
            inl (subst (λ (p : ℕ × Bool). first.0 < p.0) here.1 (lesser i first before.0 before.1))
        | inr (inr behind) ↦
            let i_less = before.0 in let j_more = behind.0 in
            rises i (j - 1) first second (omega (arith, i_less, j_more)) before.1 behind.1
      ]
      | inr (inl own) ↦ elim (place_cases asked place (leaf, after) second j is.0 at_second) [
        | inl other ↦ let h = own.0 in let l = other.0 in absurd (omega (arith, less, h, l))
        | inr (inl here) ↦ let h = own.0 in let l = here.0 in absurd (omega (arith, less, h, l))
        | inr (inr behind) ↦
            inl (subst (λ (p : ℕ × Bool). p.0 < second.0) own.1
            (greater (j - 1) second (let l = behind.0 in omega (arith, l)) behind.1))
      ]
      | inr (inr past) ↦ elim (place_cases asked place (leaf, after) second j is.0 at_second) [
        | inl other ↦ let h = past.0 in let l = other.0 in absurd (omega (arith, less, h, l))
        | inr (inl here) ↦ let h = past.0 in let l = here.0 in absurd (omega (arith, less, h, l))
        | inr (inr behind) ↦
            let h = past.0 in
            rises (i - 1) (j - 1) first second (omega (arith, less, h)) past.1 behind.1
      ]
    ]
  where
    lesser : (k : ℕ) (p : ℕ × Bool) → k < place → slice_get asked k ≡ Some p → p.0 < leaf
    lesser k p below at = subst (λ (q : ℕ × Bool). q.0 < leaf)
        (get_or_from_slice_get asked k p p at) (is.1 k p below)

    greater : (k : ℕ) (p : ℕ × Bool) → place ≤ k → slice_get asked k ≡ Some p → leaf < p.0
    greater k p from at = subst (λ (q : ℕ × Bool). leaf < q.0)
        (get_or_from_slice_get asked k p p at) (is.2 k p from (slice_get_within asked k p at))

-- a further line changes nothing of what earlier ones say

module _ (line : Line) (older : List Line) (next : MayFollow older line) where
  pub plain_more : (set : ℕ) → IsTable older → IsPlainSet older set → IsPlainSet (line ∷ older) set
  plain_more set table (expr, at, plain) =
      (expr, expr_at_more line older set next (expr_below older set expr table at) ∙ at, plain)

  formula_more : (family : FormulaFamily) (set : ℕ) → IsTable older → IsOfFamily older family set
      → IsOfFamily (line ∷ older) family set
  formula_more family set table (expr, at, of) =
      (expr, expr_at_more line older set next (expr_below older set expr table at) ∙ at, of)

  within_more : (family : FormulaFamily) (set : ℕ) → IsTable older → IsWithinFamily older family set
      → IsWithinFamily (line ∷ older) family set
  within_more family set table (expr, at, of) =
      (expr, expr_at_more line older set next (expr_below older set expr table at) ∙ at, of)

  no_formula_more : (set : ℕ) → IsTable older → IsNoFormula older set
      → IsNoFormula (line ∷ older) set
  no_formula_more set table (expr, at, of) =
      (expr, expr_at_more line older set next (expr_below older set expr table at) ∙ at, of)

  family_more : (asked : Askings) (family : Option FormulaFamily) → IsTable older
      → IsTheFamily older asked family
      → IsTheFamily (line ∷ older) asked family
  family_more asked None table none = λ a c. no_formula_more a.0 table (none a c)
  family_more asked (Some family) table (within, (some, has, of)) = (
    λ a c. within_more family a.0 table (within a c),
    (some, has, formula_more family some.0 table of),
  )

  ways_more : (asked : Askings) (ways : ℕ) → IsTable older → AreWays older asked ways
      → AreWays (line ∷ older) asked ways
  ways_more [] ways table are = are
  ways_more (a ∷ asked) ways table (count, rest, (expr, at, is), are, product) = (
    count,
    rest,
    (expr, expr_at_more line older a.0 next (expr_below older a.0 expr table at) ∙ at, is),
    ways_more asked rest table are,
    product,
  )

  told_more : (asked : Askings) (ways : Option ℕ) → IsTable older → IfSome ways (AreWays older asked)
      → IfSome ways (AreWays (line ∷ older) asked)
  told_more asked None table are = tt
  told_more asked (Some ways) table are = ways_more asked ways table are

  pub leaf_more : (parts : Expr → Option (ℕ × ℕ)) (set leaf : ℕ) → IsTable older
      → IsLeaf parts older set leaf → IsLeaf parts (line ∷ older) set leaf
  leaf_more parts _ _ table (alone set x at none) = alone set x
      (expr_at_more line older set next (expr_below older set x table at) ∙ at) none
  leaf_more parts _ _ table (of_left set left right leaf x at has of) =
      of_left set left right leaf x (expr_at_more line older set next
      (expr_below older set x table at) ∙ at) has (leaf_more parts left leaf table of)
  leaf_more parts _ _ table (of_right set left right leaf x at has of) =
      of_right set left right leaf x (expr_at_more line older set next
      (expr_below older set x table at) ∙ at) has (leaf_more parts right leaf table of)

  -- the parts of a set have earlier lines
  abbrev AreEarlier : (Expr → Option (ℕ × ℕ)) → Type 0
  AreEarlier parts = (set left right : ℕ) (x : Expr) → expr_at older set ≡ Some x
      → parts x ≡ Some (left, right) → (left < expr_count older) × (right < expr_count older)

  or_earlier : IsTable older → AreEarlier or_parts
  or_earlier table set left right x at has =
      refers_below older set (E.Or left right) table (at ∙ ap Some (or_is x left right has))

  pub and_earlier : IsTable older → AreEarlier and_parts
  and_earlier table set left right x at has =
      refers_below older set (E.And left right) table (at ∙ ap Some (and_is x left right has))

  pub leaf_before : (parts : Expr → Option (ℕ × ℕ)) → AreEarlier parts → (set leaf : ℕ)
      → set < expr_count older → IsLeaf parts (line ∷ older) set leaf → IsLeaf parts older set leaf
  leaf_before parts earlier _ _ below (alone set x at none) = alone set x
      (sym (expr_at_more line older set next below) ∙ at) none
  leaf_before parts earlier _ _ below (of_left set left right leaf x at has of) =
      let was = sym (expr_at_more line older set next below) ∙ at in
      of_left set left right leaf x was has
      (leaf_before parts earlier left leaf (earlier set left right x was has).0 of)
  leaf_before parts earlier _ _ below (of_right set left right leaf x at has of) =
      let was = sym (expr_at_more line older set next below) ∙ at in
      of_right set left right leaf x was has
      (leaf_before parts earlier right leaf (earlier set left right x was has).1 of)

which_at_more : (line : Line) (older : List Line) (e : ℕ) → MayFollow older line
    → e < expr_count older
    → which_at (line ∷ older) e ≡ which_at older e
which_at_more (L.Acts id x) older e next below = refl
which_at_more (L.Expr id x) older e next below =
    cond-false (eqb e id) (named_by (λ family. count_of older family 0) x) (which_at older e)
    (ne_eqb e id (λ h. absurd (omega (arith, h, below, next.numbered))))
which_at_more (L.Known id st w ps) older e next below = refl

operands_more : (line : Line) (older : List Line) (asked : Askings) → MayFollow older line
    → ((a : ℕ × Bool) → Contains asked a → a.0 < expr_count older)
    → map (λ a. operand_of older a) asked ≡ map (λ a. operand_of (line ∷ older) a) asked
operands_more line older [] next below = refl
operands_more line older (a ∷ asked) next below =
    let which = sym (which_at_more line older a.0 next (below a (0, omega arith, refl))) in
    ap₂ (λ x xs. x ∷ xs) (λ i. record { which = which i; id = a.0; after = a.1 })
    (operands_more line older asked next (λ b c. below b (suc c.0, omega (arith, c.1), c.2)))

-- what is asked about has a line
pub asked_below : (lines : List Line) (after : Bool) (family : Option FormulaFamily)
    (asked : Askings) → ArePlain lines after family asked → (a : ℕ × Bool) → Contains asked a
    → a.0 < expr_count lines
asked_below lines after family asked are a c =
    let plain = (are.plain a c).0 in expr_below lines a.0 plain.0 are.table plain.1

-- a further line changes nothing of what was read of a leaf

module _ (line : Line) (older : List Line) (next : MayFollow older line) (table : IsTable older) where
  literal_more : (leaf set : ℕ) (plain : Bool) → IsLiteralOf older leaf set plain
      → IsLiteralOf (line ∷ older) leaf set plain
  literal_more leaf set true is = (is.0, plain_more line older next set table is.1)
  literal_more leaf set false is = (
    expr_at_more line older leaf next (expr_below older leaf (E.Not set) table is.0) ∙ is.0,
    plain_more line older next set table is.1,
  )

  literal_before : (leaf : ℕ) → leaf < expr_count older → IsLiteral (line ∷ older) leaf
      → IsLiteral older leaf
  literal_before leaf below (inl (expr, at, plain)) =
      inl (expr, sym (expr_at_more line older leaf next below) ∙ at, plain)
  literal_before leaf below (inr (inner, at, (expr, inner_at, plain))) =
      let was : expr_at older leaf ≡ Some (E.Not inner) =
      sym (expr_at_more line older leaf next below) ∙ at in
      let earlier = refers_below older leaf (E.Not inner) table was in
      inr (inner, was, (expr, sym (expr_at_more line older inner next earlier) ∙ inner_at, plain))

  is_more : (place : ℕ) (found : Option SignedSet) → place < expr_count older
      → MatchOption found (IsLiteral older place → ⊥)
      (λ (l : SignedSet). IsLiteralOf older place l.set l.is_plain)
      → MatchOption found (IsLiteral (line ∷ older) place → ⊥)
      (λ (l : SignedSet). IsLiteralOf (line ∷ older) place l.set l.is_plain)
  is_more place None below none = λ yes. none (literal_before place below yes)
  is_more place (Some l) below is = literal_more place l.set l.is_plain is

  literal_family_more : (found : Option SignedSet) (family : Option FormulaFamily)
      → IfSome found (λ (l : SignedSet). (expr : Expr)
      × (expr_at older l.set ≡ Some expr) × (family ≡ family_of expr))
      → IfSome found (λ (l : SignedSet). (expr : Expr)
      × (expr_at (line ∷ older) l.set ≡ Some expr) × (family ≡ family_of expr))
  literal_family_more None family is = tt
  literal_family_more (Some l) family (expr, at, is) =
      (expr, expr_at_more line older l.set next (expr_below older l.set expr table at) ∙ at, is)

  below_more : (found : Option SignedSet)
      → IfSome found (λ (l : SignedSet). l.set < expr_count older)
      → IfSome found (λ (l : SignedSet). l.set < expr_count (line ∷ older))
  below_more None is = tt
  below_more (Some l) is = omega (arith, is, exprs_grow line older)

  pub read_more : (leaf : Leaf) → leaf.place < expr_count older → IsLeafRead older leaf
      → IsLeafRead (line ∷ older) leaf
  read_more leaf below read = record {
    is = is_more leaf.place leaf.literal below read.is;
    family = literal_family_more leaf.literal leaf.family read.family;
    below = below_more leaf.literal read.below;
  }

  negated_more : (set : ℕ) → IsNegatedSet older set → IsNegatedSet (line ∷ older) set
  negated_more set (inner, at, plain) = (
    inner,
    expr_at_more line older set next (expr_below older set (E.Not inner) table at) ∙ at,
    plain_more line older next inner table plain,
  )

  enough_more : (after : Bool) (asked : Askings) (leaves : List Leaf)
      (literals : BTreeSet (ℕ × Bool)) → AreEnoughFor older after asked leaves literals
      → AreEnoughFor (line ∷ older) after asked leaves literals
  enough_more after asked leaves literals are literal has = elim (are literal has) [
    | inl (set, c, (expr, at, of)) ↦ inl (
      set,
      c,
      (expr, expr_at_more line older set next (expr_below older set expr table at) ∙ at, of),
    )
    | inr (set, c, (expr, at, of)) ↦ inr (
      set,
      c,
      (expr, expr_at_more line older set next (expr_below older set expr table at) ∙ at, of),
    )
  ]

  negated_family_more : (leaves : List Leaf) (family : Option FormulaFamily)
      → IsNegatedFamily older leaves family → IsNegatedFamily (line ∷ older) leaves family
  negated_family_more leaves None none = λ set c.
      no_formula_more line older next set table (none set c)
  negated_family_more leaves (Some family) (within, (some, has, of)) = (
    λ set c. within_more line older next family set table (within set c),
    (some, has, formula_more line older next family some table of),
  )

  negations_more : (leaves : List Leaf) → AreNegations older leaves
      → AreNegations (line ∷ older) leaves
  negations_more leaves are leaf c =
      let is = are leaf c in (
        negated_more leaf.place is.0,
        read_more leaf (expr_below older leaf.place (E.Not is.0.0) table is.0.1) is.1,
      )

side_more : (line : Line) (older : List Line) (kept : Kept) → MayFollow older line
    → IsPlainSide older kept → IsPlainSide (line ∷ older) kept
side_more line older kept next is = record {
  plain = record {
    table = (next, is.plain.table);
    plain = λ a c. (
      plain_more line older next a.0 is.plain.table (is.plain.plain a c).0,
      (is.plain.plain a c).1,
    );
    rises = is.plain.rises;
    one_family = family_more line older next kept.question.negative.items kept.family is.plain.table
        is.plain.one_family;
  };
  ways = told_more line older next kept.question.negative.items kept.ways is.plain.table is.ways;
  enough = enough_more line older next is.plain.table kept.after kept.question.negative.items
      kept.negations.items kept.enough is.enough;
  negations = negations_more line older next is.plain.table kept.negations.items is.negations;
  negated = negated_family_more line older next is.plain.table kept.negations.items kept.negated
      is.negated;
  named = λ yes.
      is.named yes
      ∙ operands_more line older kept.question.negative.items next
      (asked_below older kept.after kept.family kept.question.negative.items is.plain);
}

kept_more : (line : Line) (older : List Line) (kept : Kept) (root : ℕ) → MayFollow older line
    → IsKeptFor older kept root
    → IsKeptFor (line ∷ older) kept root
kept_more line older kept root next is = record {
  below = omega (arith, is.below, exprs_grow line older);
  side = side_more line older kept next is.side;
  leaves = λ leaf. (
    λ c. leaf_more line older next or_parts root leaf is.side.plain.table ((is.leaves leaf).0 c),
    λ of. (is.leaves leaf).1 (leaf_before line older next or_parts
        (or_earlier line older next is.side.plain.table) root leaf is.below of),
  );
}

-- what is kept stays right when a line is added
pub side_stays : (line : Line) (older : List Line) (kept : Kept) → MayFollow older line
    → IsRightSide older kept → IsRightSide (line ∷ older) kept
side_stays line older kept next is = more kept.root is
  where
    more : (root : Option ℕ) → IfSome root (IsKeptFor older kept)
        → IfSome root (IsKeptFor (line ∷ older) kept)
    more None h = tt
    more (Some root) h = kept_more line older kept root next h

-- without one of the sides
pub sides_without : (lines : List Line) (sides : List Kept) (place : ℕ)
    → All (IsRightSide lines) sides → All (IsRightSide lines) (remove sides place)
sides_without lines sides place is =
    All-append (IsRightSide lines) (take place sides) (drop (suc place) sides)
    (All-take (IsRightSide lines) place sides is) (All-drop (IsRightSide lines) (suc place) sides is)

-- with one of the sides put behind the others
pub sides_behind : (lines : List Line) (sides : List Kept) (place : ℕ) (side : Kept)
    → place < length sides → side ≡ get_or sides place side → All (IsRightSide lines) sides
    → All (IsRightSide lines) (remove sides place ++ side ∷ [])
sides_behind lines sides place side within is are =
    All-push (IsRightSide lines) (remove sides place) side (sides_without lines sides place are)
    (subst (IsRightSide lines) (sym is) (All-get_or (IsRightSide lines) sides place side within are))

-- with a side of which nothing is kept
pub sides_begun : (lines : List Line) (sides : List Kept) (side : Kept) → side.root ≡ None
    → All (IsRightSide lines) sides → All (IsRightSide lines) (sides ++ side ∷ [])
sides_begun lines sides side none are =
    All-push (IsRightSide lines) sides side are
    (subst (λ root. IfSome root (IsKeptFor lines side)) (sym none) tt)

-- one more leaf

module _ (lines : List Line) (asked : Askings) (place leaf : ℕ) (after : Bool) where
  abbrev with_leaf : Askings
  with_leaf = insert asked place (leaf, after)

  family_put : (family both : Option FormulaFamily) (expr : Expr)
      → IsTheFamily lines asked family → expr_at lines leaf ≡ Some expr
      → (next : Option FormulaFamily) → family_of expr ≡ next
      → IsFamilyWith family next both → IsTheFamily lines with_leaf both
  family_put None both expr none at None is with =
      subst (IsTheFamily lines with_leaf) (sym with)
      (λ a c. elim (insert_cases asked place (leaf, after) a c) [
        | inl was ↦ none a was
        | inr same ↦ subst (λ (p : ℕ × Bool). IsNoFormula lines p.0) same (expr, at, is)
      ])
  family_put None both expr none at (Some next) is with =
      subst (IsTheFamily lines with_leaf) (sym with) (
        λ a c. elim (insert_cases asked place (leaf, after) a c) [
          | inl was ↦ let old = none a was in (old.0, old.1, inl old.2)
          | inr same ↦ subst (λ (p : ℕ × Bool). IsWithinFamily lines next p.0) same
              (expr, at, inr is)
        ],
        ((leaf, after), inserted asked place (leaf, after), (expr, at, is)),
      )
  family_put (Some family) both expr (within, (some, has, of)) at None is with =
      subst (IsTheFamily lines with_leaf) (sym with) (
        λ a c. elim (insert_cases asked place (leaf, after) a c) [
          | inl was ↦ within a was
          | inr same ↦ subst (λ (p : ℕ × Bool). IsWithinFamily lines family p.0) same
              (expr, at, inl is)
        ],
        (some, insert_in asked place (leaf, after) some has, of),
      )
  family_put (Some family) both expr (within, (some, has, of)) at (Some next) is (equal, with) =
      subst (IsTheFamily lines with_leaf) (sym with) (
        λ a c. elim (insert_cases asked place (leaf, after) a c) [
          | inl was ↦ within a was
          | inr same ↦ subst (λ (p : ℕ × Bool). IsWithinFamily lines family p.0) same
              (expr, at, inr (is ∙ ap Some (sym equal)))
        ],
        (some, insert_in asked place (leaf, after) some has, of),
      )

  plain_put : (family both : Option FormulaFamily) (expr : Expr)
      → ArePlain lines after family asked → IsPlainSet lines leaf
      → IsPlaceFor asked leaf place → expr_at lines leaf ≡ Some expr
      → IsFamilyWith family (family_of expr) both
      → ArePlain lines after both with_leaf
  plain_put family both expr are plain is at with = record {
    table = are.table;
    plain = λ a c. elim (insert_cases asked place (leaf, after) a c) [
      | inl was ↦ are.plain a was
      | inr same ↦ subst (λ (p : ℕ × Bool). IsPlainSet lines p.0 × (p.1 ≡ after)) same
          (plain, refl)
    ];
    rises = rises_insert asked place leaf after are.rises is;
    one_family = family_put family both expr are.one_family at (family_of expr) refl with;
  }

turned : (a b c : ℕ) → a * (b * c) ≡ b * (a * c)
turned a b c = sym (mul_assoc a b c) ∙ (ap (λ x. x * c) (mul_comm a b) ∙ mul_assoc b a c)

-- the ways with one more set, wherever it is put in
ways_insert : (lines : List Line) (asked : Askings) (place leaf : ℕ) (after : Bool) (ways count : ℕ)
    → AreWays lines asked ways → HasToChoose lines leaf count
    → AreWays lines (insert asked place (leaf, after)) (count * ways)
ways_insert lines [] zero leaf after ways count are has = (count, ways, has, are, refl)
ways_insert lines [] (suc place) leaf after ways count are has = (count, ways, has, are, refl)
ways_insert lines (a ∷ asked) zero leaf after ways count are has = (count, ways, has, are, refl)
ways_insert lines (a ∷ asked) (suc place) leaf after ways count (own, rest, is, are, product) has = (
  own,
  count * rest,
  is,
  ways_insert lines asked place leaf after rest count are has,
  ap (λ w. count * w) product ∙ turned count own rest,
)

told_put : (lines : List Line) (asked : Askings) (place leaf : ℕ) (after : Bool)
    (before ways : Option ℕ) (expr : Expr) → IfSome before (AreWays lines asked)
    → expr_at lines leaf ≡ Some expr → AreWaysWith before expr ways
    → IfSome ways (AreWays lines (insert asked place (leaf, after)))
told_put lines asked place leaf after before None expr are at with = tt
told_put lines asked place leaf after before (Some ways) expr are at (old, count, was, has, is) =
    subst (AreWays lines (insert asked place (leaf, after))) (sym is)
    (ways_insert lines asked place leaf after old count
    (subst (λ o. IfSome o (AreWays lines asked)) was are) (expr, at, has))

-- what is kept with one more set
pub side_put : (lines : List Line) (old new : Kept) (leaf place : ℕ)
    (both : Option FormulaFamily) (expr : Expr) → IsPlainSide lines old → IsPlainSet lines leaf
    → expr_at lines leaf ≡ Some expr → IsFamilyWith old.family (family_of expr) both
    → IsPlaceFor old.question.negative.items leaf place
    → new.question.negative.items ≡ insert old.question.negative.items place (leaf, old.after)
    → new.after ≡ old.after
    → (other : Expr) × (expr_at lines leaf ≡ Some other) × AreWaysWith old.ways other new.ways
    → ((literal : Literal) → NamesLiteral new.enough literal
    → NamesLiteral old.enough literal ⊎ IsEnoughFor lines leaf literal)
    → (new.named ≡ true → (old.named ≡ true) × (place ≡ length old.question.negative.items)
    × (new.query.negative ≡ old.query.negative ++ operand_of lines (leaf, old.after) ∷ []))
    → new.negations ≡ old.negations → new.negated ≡ old.negated
    → IsPlainSide lines (record new { family = both })
side_put lines old new leaf place both expr side plain at with is put same (other, other_at, ways)
    enough named negations negated =
    let asked = old.question.negative.items in
    let leaves = old.negations.items in
    record {
      plain = subst (ArePlain lines new.after both) (sym put)
          (subst (λ b. ArePlain lines b both (insert asked place (leaf, old.after))) (sym same)
          (plain_put lines asked place leaf old.after old.family both expr side.plain plain is at
          with));
      ways = subst (λ xs. IfSome new.ways (AreWays lines xs)) (sym put)
          (told_put lines asked place leaf old.after old.ways new.ways other side.ways other_at
          ways);
      enough = subst (λ (v : Vec Leaf). AreEnoughFor lines new.after new.question.negative.items
          v.items new.enough) (sym negations)
          (subst (λ xs. AreEnoughFor lines new.after xs leaves new.enough) (sym put)
          (subst (λ b. AreEnoughFor lines b (insert asked place (leaf, old.after)) leaves
          new.enough) (sym same) (λ literal has. elim (enough literal has) [
            | inl was ↦ elim (side.enough literal was) [
              | inl (set, c, of) ↦
                  inl (set, insert_in asked place (leaf, old.after) (set, old.after) c, of)
              | inr against ↦ inr against
            ]
            | inr own ↦ inl (leaf, inserted asked place (leaf, old.after), own)
          ])));
      negations = subst (λ (v : Vec Leaf). AreNegations lines v.items) (sym negations)
          side.negations;
      negated = subst (λ (v : Vec Leaf). IsNegatedFamily lines v.items new.negated) (sym negations)
          (subst (IsNegatedFamily lines leaves) (sym negated) side.negated);
      named = λ yes.
          let h = named yes in
          let last : new.question.negative.items ≡ asked ++ (leaf, old.after) ∷ [] =
          put ∙ (ap (λ k. insert asked k (leaf, old.after)) h.1
          ∙ insert_end asked (leaf, old.after)) in
          h.2
          ∙ (ap (λ os. os ++ operand_of lines (leaf, old.after) ∷ []) (side.named h.0)
          ∙ (sym (map-append (λ a. operand_of lines a) asked ((leaf, old.after) ∷ []))
          ∙ ap (map (λ a. operand_of lines a)) (sym last)));
    }

asked_put : (after : Bool) (leaf place : ℕ) (old new : Askings)
    → new ≡ insert old place (leaf, after) → (other : ℕ)
    → Contains new (other, after) ↔ (Contains old (other, after) ⊎ (leaf ≡ other))
asked_put after leaf place old new put other = (
  λ c. elim (insert_cases old place (leaf, after) (other, after)
      (subst (λ xs. Contains xs (other, after)) put c)) [
        | inl was ↦ inl was
        | inr same ↦ inr (ap (λ (p : ℕ × Bool). p.0) same)
      ],
  elim [
    | inl was ↦ subst (λ xs. Contains xs (other, after)) (sym put)
        (insert_in old place (leaf, after) (other, after) was)
    | inr same ↦ subst (λ xs. Contains xs (other, after)) (sym put)
        (subst (λ x. Contains (insert old place (leaf, after)) (x, after)) same
        (inserted old place (leaf, after)))
  ],
)

pub one_put : (leaf place : ℕ) (old new : Kept)
    → new.question.negative.items ≡ insert old.question.negative.items place (leaf, old.after)
    → new.after ≡ old.after → new.negations ≡ old.negations → IsAddedTo leaf old new
one_put leaf place old new put after same other =
    let one = asked_put old.after leaf place old.question.negative.items
    new.question.negative.items put other in (
      elim [
        | inl has ↦
            elim (one.0 (subst (λ b. Contains new.question.negative.items (other, b)) after has)) [
              | inl was ↦ inl (inl was)
              | inr own ↦ inr own
            ]
        | inr negated ↦
            inl (inr (subst (λ (v : Vec Leaf). Contains (places v.items) other) same negated))
      ],
      elim [
        | inl (inl was) ↦ inl (subst (λ b. Contains new.question.negative.items (other, b))
            (sym after) (one.1 (inl was)))
        | inl (inr negated) ↦
            inr (subst (λ (v : Vec Leaf). Contains (places v.items) other) (sym same) negated)
        | inr own ↦ inl (subst (λ b. Contains new.question.negative.items (other, b))
            (sym after) (one.1 (inr own)))
      ],
    )

-- a set that is there already
pub one_there : (lines : List Line) (kept : Kept) (also : Bool) (leaf : ℕ)
    → ArePlain lines kept.after kept.family kept.question.negative.items
    → Contains kept.question.negative.items (leaf, also) → IsAddedTo leaf kept kept
one_there lines kept also leaf are has other = (
  λ c. inl c,
  elim [
    | inl was ↦ was
    | inr same ↦ inl (subst (λ x. Contains kept.question.negative.items (x, kept.after)) same
        (subst (λ b. Contains kept.question.negative.items (leaf, b))
        (are.plain (leaf, also) has).1 has))
  ],
)

-- leaves that are added from the last to the first

added_more : (leaves : List ℕ) (i next leaf : ℕ) (old mid new : Kept)
    → i < length leaves → next ≡ suc i
    → leaf ≡ get_or leaves i 0 → AreAddedTo (drop next leaves) old mid → IsAddedTo leaf mid new
    → AreAddedTo (drop i leaves) old new
added_more leaves i next leaf old mid new below follows is added put other =
    let all : drop i leaves ≡ leaf ∷ drop next leaves =
    drop_at leaves i 0 below ∙ ap₂ (λ x xs. x ∷ xs) (sym is)
    (ap (λ k. drop k leaves) (sym follows)) in (
      λ c. elim ((put other).0 c) [
        | inl was ↦ elim ((added other).0 was) [
          | inl first ↦ inl first
          | inr rest ↦ inr (subst (λ xs. Contains xs other) (sym all)
              (tail_in leaf (drop next leaves) other rest))
        ]
        | inr same ↦
            inr (subst (λ xs. Contains xs other) (sym all)
            (subst (Contains (leaf ∷ drop next leaves)) same (head_in leaf (drop next leaves))))
      ],
      elim [
        | inl first ↦ (put other).1 (inl ((added other).1 (inl first)))
        | inr rest ↦ elim (cons_cases leaf (drop next leaves) other
            (subst (λ xs. Contains xs other) all rest)) [
              | inl same ↦ (put other).1 (inr same)
              | inr more ↦ (put other).1 (inl ((added other).1 (inr more)))
            ]
      ],
    )

-- one more of the leaves, of which the oldest is the last
pub added_at : (leaves : List Leaf) (count : ℕ) (d : Leaf) (old mid new : Kept)
    → count < length leaves
    → AreAddedTo (drop (length (places leaves) - count) (places leaves)) old mid
    → IsAddedTo (get_or leaves (length leaves - 1 - count) d).place mid new
    → AreAddedTo (drop (length (places leaves) - (count + 1)) (places leaves)) old new
added_at leaves count d old mid new more added put =
    let size = length-map leaves (λ (leaf : Leaf). leaf.place) in
    let last : length leaves - 1 - count ≡ length (places leaves) - (count + 1) =
    omega (arith, size) in
    let within : length leaves - 1 - count < length leaves = omega (arith, more) in
    added_more (places leaves) (length (places leaves) - (count + 1))
    (length (places leaves) - count) (get_or leaves (length leaves - 1 - count) d).place old mid new
    (omega (arith, size, more)) (omega (arith, size, more))
    (sym (get_or-map (λ (leaf : Leaf). leaf.place) leaves (length leaves - 1 - count) d 0 within)
    ∙ ap (λ k. get_or (places leaves) k 0) last)
    added put

-- what is kept becomes the union's
pub kept_for : (lines : List Line) (root part : ℕ) (leaves : List ℕ) (old new : Kept)
    → IsMadeOf lines old root part
    → ((leaf : ℕ) → Contains leaves leaf ↔ IsOrLeaf lines part leaf)
    → AreAddedTo leaves old new → (leaf : ℕ) → HasLeaf new leaf ↔ IsOrLeaf lines root leaf
kept_for lines root part leaves old new made are added leaf = (
  λ c. elim ((added leaf).0 c) [
    | inl was ↦ (made leaf).1 (inl was)
    | inr more ↦ (made leaf).1 (inr ((are leaf).0 more))
  ],
  λ of. elim ((made leaf).0 of) [
    | inl was ↦ (added leaf).1 (inl was)
    | inr more ↦ (added leaf).1 (inr ((are leaf).1 more))
  ],
)

-- a union of what is kept and a part is made of both
pub made_of : (lines : List Line) (kept : Kept) (root part : ℕ) → IsRightSide lines kept
    → IsPartBeside lines kept.root root part
    → IsMadeOf lines kept root part
made_of lines kept root part shared (below, (first, same, or)) leaf =
    let is : IsKeptFor lines kept first = subst
    (λ r. IfSome r (IsKeptFor lines kept)) same shared in
    elim or [
      | inl at ↦ (
        λ o. elim (leaf_parts or_parts lines root leaf (E.Or first part) (first, part) at refl o) [
          | inl left ↦ inl ((is.leaves leaf).1 left)
          | inr right ↦ inr right
        ],
        elim [
          | inl has ↦ of_left root first part leaf (E.Or first part) at refl
              ((is.leaves leaf).0 has)
          | inr right ↦ of_right root first part leaf (E.Or first part) at refl right
        ],
      )
      | inr at ↦ (
        λ o. elim (leaf_parts or_parts lines root leaf (E.Or part first) (part, first) at refl o) [
          | inl left ↦ inr left
          | inr right ↦ inl ((is.leaves leaf).1 right)
        ],
        elim [
          | inl has ↦ of_right root part first leaf (E.Or part first) at refl
              ((is.leaves leaf).0 has)
          | inr left ↦ of_left root part first leaf (E.Or part first) at refl left
        ],
      )
    ]

-- the union of what is kept with itself is kept too
pub made_twice : (lines : List Line) (kept : Kept) (root part : ℕ) → root < expr_count lines
    → IsRightSide lines kept → kept.root ≡ Some part → IsPartBeside lines kept.root root part
    → IsRightSide lines (record kept { root = Some root })
made_twice lines kept root part below shared same beside =
    let is : IsKeptFor lines kept part = subst (λ r. IfSome r (IsKeptFor lines kept)) same shared in
    let made = made_of lines kept root part shared beside in record {
      below = below;
      side = record {
        plain = is.side.plain;
        ways = is.side.ways;
        enough = is.side.enough;
        negations = is.side.negations;
        negated = is.side.negated;
        named = is.side.named;
      };
      leaves = λ leaf. (
        λ c. (made leaf).1 (inl c),
        λ of. elim ((made leaf).0 of) [
          | inl c ↦ c
          | inr in_part ↦ (is.leaves leaf).1 in_part
        ],
      );
    }

-- where the test for lesser identifiers turns
pub never_falls : (asked : Askings) → AskingsRise asked → IsNonDecreasingBy (λ a. a.0) asked
never_falls asked rises i j d upto within =
    let first = slice_get-get_or asked i d (omega (arith, upto, within)) in
    let second = slice_get-get_or asked j d within in
    elim (cases_lt i j) [
      | inl less ↦ elim (rises i j (get_or asked i d) (get_or asked j d) less first second) [
        | inl more ↦ omega (arith, more)
        | inr same ↦ let id = same.0 in omega (arith, id)
      ]
      | inr back ↦
          let same : i ≡ j = omega (arith, upto, back) in
          let e : (get_or asked i d).0 ≡ (get_or asked j d).0 =
          ap (λ k. (get_or asked k d).0) same in
          omega (arith, e)
    ]

pub split_at : (asked : Askings) (set place : ℕ) → place ≤ length asked
    → IsPartitionPoint (λ (a : ℕ × Bool). ltb a.0 set ≡ true) (λ (a : ℕ × Bool). ltb a.0 set ≡ false)
    asked place
    → IsSplitAt asked set place
split_at asked set place bound point = (
  bound,
  λ k d before. ltb-true _ _ (point.0 k d (omega arith) before),
  λ k d from within. ltb-false _ _ (point.1 k d from within),
)

-- the place at which a set belongs, by how many have lesser identifiers
pub place_behind : (asked : Askings) (set place : ℕ) → AskingsRise asked
    → IsSplitAt asked set place → length asked ≤ place → IsPlaceFor asked set place
place_behind asked set place rises split past = (
  split.0,
  split.1,
  λ k d from within. absurd (omega (arith, from, within, past)),
)

-- a set that is at the place is there
pub there_at : (asked : Askings) (set place : ℕ) → place < length asked
    → (get_or asked place (0, false)).0 ≡ set → (after : Bool) × Contains asked (set, after)
there_at asked set place within same =
    let x : ℕ × Bool = get_or asked place (0, false) in (
      x.1,
      (
        place,
        within,
        get_or_default asked place (set, x.1) (0, false) within ∙ (λ i. (same i, x.1)),
      ),
    )

strictly : (a b : ℕ) → a ≤ b → (b ≡ a → ⊥) → a < b
strictly a b upto other = elim (cases_lt a b)
    [ inl less ↦ less | inr back ↦ absurd (other (omega (arith, upto, back))) ]

pub place_before : (asked : Askings) (set place : ℕ) (e : ℕ × Bool) → AskingsRise asked
    → IsSplitAt asked set place → place < length asked
    → ((get_or asked place e).0 ≡ set → ⊥) → IsPlaceFor asked set place
place_before asked set place e rises split within other = (
  split.0,
  split.1,
  λ k d from below.
      let x : ℕ × Bool = get_or asked place e in
      let here : set < x.0 = strictly set x.0 (split.2 place e (omega arith) within) other in
      elim (cases_lt place k) [
        | inl less ↦ elim (rises place k x (get_or asked k d) less
            (slice_get-get_or asked place e within) (slice_get-get_or asked k d below)) [
              | inl more ↦ omega (arith, here, more)
              | inr same ↦ let id = same.0 in omega (arith, here, id)
            ]
        | inr upto ↦
            let one : place ≡ k = omega (arith, from, upto) in
            subst (λ j. set < (get_or asked j d).0) one
            (subst (λ (p : ℕ × Bool). set < p.0) (get_or_default asked place e d within) here)
      ],
)

-- what was read of a leaf that is a formula or constant itself
pub plain_read : (lines : List Line) (leaf : Leaf) (literal : SignedSet)
    → leaf.literal ≡ Some literal → literal.is_plain ≡ true → IsLeafRead lines leaf
    → (leaf.place < expr_count lines) × IsPlainSet lines leaf.place
    × ((expr : Expr) × (expr_at lines leaf.place ≡ Some expr) × (leaf.family ≡ family_of expr))
plain_read lines leaf literal found plain read =
    let is : IsLiteralOf lines leaf.place literal.set true =
    subst (IsLiteralOf lines leaf.place literal.set) plain
    (subst (λ l. MatchOption l (IsLiteral lines leaf.place → ⊥) (IsThe lines leaf.place)) found
    read.is) in (
      subst (λ set. set < expr_count lines) (sym is.0)
          (subst (λ l. IfSome l (λ (x : SignedSet). x.set < expr_count lines)) found read.below),
      subst (IsPlainSet lines) (sym is.0) is.1,
      subst (λ set. (expr : Expr) × (expr_at lines set ≡ Some expr)
          × (leaf.family ≡ family_of expr)) (sym is.0)
          (subst (λ l. IfSome l (λ (x : SignedSet). (expr : Expr)
          × (expr_at lines x.set ≡ Some expr) × (leaf.family ≡ family_of expr))) found read.family),
    )

-- what is kept stays right where its query has other operands
pub shared_asked : (lines : List Line) (kept : Kept) (query : Query) (named : Bool)
    → (named ≡ true → query.negative ≡ map (λ a. operand_of lines a) kept.question.negative.items)
    → IsRightSide lines kept
    → IsRightSide lines (record kept { query = query; named = named })
shared_asked lines kept query named same shared = asked kept.root shared
  where
    asked : (root : Option ℕ) → IfSome root (IsKeptFor lines kept)
        → IfSome root (IsKeptFor lines (record kept { query = query; named = named }))
    asked None right = right
    asked (Some root) right = record {
      below = right.below;
      side = record {
        plain = right.side.plain;
        ways = right.side.ways;
        enough = right.side.enough;
        negations = right.side.negations;
        negated = right.side.negated;
        named = same;
      };
      leaves = right.leaves;
    }
