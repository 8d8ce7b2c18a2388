-- Basic statements over explicit sets: a line is good where its statement is true, it has an
-- anchor, and no set that can be the anchor lists more states than the budget.
use Rattle.std.proofs.Common.{◌≡◌, ℕ, ◌≤◌, ◌∙◌, Bool, false, List, [], ◌∷◌, Option, Some, length}
use Rattle.std.proofs.Common.{map, get_or, refl, sym, ap, subst, inl, inr, arith}
use Rattle.std.specs.List.{Contains}
use Rattle.hv_sets.specs.Cost.{states_of}
use Rattle.hv_sets.specs.declared.operand.Operand.{Operand}
use Rattle.hv_sets.specs.declared.operand.Which.{Which}
use Rattle.hv_sets.specs.declared.operand.Which.TheVariants as S
use Rattle.hv_lines.specs.Good.{IsBasicWord, IsGood, IsRuleWord}
use Rattle.hv_lines.specs.Working.Good.{IsFormed}
use Rattle.hv_lines.specs.Meaning.{IsTrueStatement}
use Rattle.hv_lines.specs.Numbering.{IsTable, expr_at}
use Rattle.hv_lines.specs.Queries.{PassesBudget, listed_in, listed_of, named_by, operand_of}
use Rattle.hv_lines.specs.Queries.{query_of, which_at}
use Rattle.hv_lines.specs.Setting.{Setting}
use Rattle.hv_lines.specs.Shapes.{Askings, IsQuestion}
use Rattle.hv_lines.specs.declared.formula_family.FormulaFamily.TheVariants as F
use Rattle.hv_lines.specs.declared.line.Constant.{Constant}
use Rattle.hv_lines.specs.declared.line.Constant.TheVariants as C
use Rattle.hv_lines.specs.declared.line.Expr.{Expr}
use Rattle.hv_lines.specs.declared.line.Expr.TheVariants as E
use Rattle.hv_lines.specs.declared.line.Line.{Line}
use Rattle.hv_lines.specs.declared.line.Line.TheVariants as L
use Rattle.hv_lines.specs.declared.line.Statement.TheVariants as T
use Rattle.hv_lines.specs.declared.line.Word.{Word}
use Rattle.hv_lines.proofs.Clausal.{good_true}
use Rattle.hv_lines.proofs.Elements.{cons_cases, head_in, in_mapped, nothing_in, tail_in}
use Rattle.hv_lines.proofs.Named.{counts_before, found_number, which_is}
use Rattle.hv_lines.proofs.SignedSides.{question_of}

in_map : {A B : Type 0} (f : A → B) (xs : List A) (a : A) → Contains xs a
    → Contains (map f xs) (f a)
in_map f [] a c = absurd (nothing_in a c)
in_map f (x ∷ xs) a c =
    elim (cons_cases x xs a c) [
      | inl same ↦ subst (λ y. Contains (f x ∷ map f xs) (f y)) same (head_in (f x) (map f xs))
      | inr there ↦ tail_in (f x) (map f xs) (f a) (in_map f xs a there)
    ]

-- how many states an operand lists, by what it names
abbrev pub size_of : List Line → Which → ℕ
size_of lines which = states_of (λ n. length (get_or (listed_of lines) n [])) which

module _ (lines : List Line) (set : ℕ) where
  -- how many states a set lists that can be the anchor
  abbrev pub states_at : ℕ
  states_at = size_of lines (which_at lines set)

  size_is : (expr : Expr) → expr_at lines set ≡ Some expr
      → states_at ≡ size_of lines (named_by (counts_before lines set) expr)
  size_is expr at = ap (size_of lines) (which_is lines set expr at)

  pub listed_states : (states : List (List ℕ)) → expr_at lines set ≡ Some (E.States states)
      → states_at ≡ length states
  listed_states states at =
      size_is (E.States states) at
      ∙ ap length (found_number listed_in lines set (E.States states) states [] at refl).1

  pub constant_states : (constant : Constant) → expr_at lines set ≡ Some (E.Constant constant)
      → states_at ≤ 1
  constant_states C.Empty at =
      let is : states_at ≡ 0 = size_is (E.Constant C.Empty) at in omega (arith, is)
  constant_states C.Start at =
      let is : states_at ≡ 1 = size_is (E.Constant C.Start) at in omega (arith, is)
  constant_states C.Goal at =
      let is : states_at ≡ 0 = size_is (E.Constant C.Goal) at in omega (arith, is)

  -- an explicit set and the initial state can be the anchor
  abbrev pub CanAnchorAt : Type 0
  CanAnchorAt = which_at lines set ≡ S.Goal → ⊥

  pub listed_anchors : (states : List (List ℕ)) → expr_at lines set ≡ Some (E.States states)
      → CanAnchorAt
  listed_anchors states at goal =
      let same : S.Goal ≡ S.Set (counts_before lines set F.States) = sym goal
      ∙ which_is lines set (E.States states) at in
      cc (same)

  pub start_anchors : expr_at lines set ≡ Some (E.Constant C.Start) → CanAnchorAt
  start_anchors at goal =
      let same : S.Goal ≡ S.Start = sym goal ∙ which_is lines set (E.Constant C.Start) at in
      cc (same)

pub good_listed : (setting : Setting) (lines : List Line) → IsTable lines
    → (positive negative : Askings) (acts : Option ℕ) (id left right : ℕ) (word : Word)
    → IsFormed setting lines (L.Known id (T.Sub left right) word [])
    → IsBasicWord word → (IsRuleWord word → ⊥)
    → IsQuestion lines word left right (question_of F.States positive negative acts)
    → (x : ℕ) → Contains positive (x, false) → CanAnchorAt lines x
    → ((a : ℕ × Bool) → Contains positive a → states_at lines a.0 ≤ setting.budget)
    → IsTrueStatement setting.task setting.nodes lines (T.Sub left right)
    → IsGood setting lines (L.Known id (T.Sub left right) word [])
good_listed setting lines table positive negative acts id left right word formed basic no_rule is x
    there can few =
    good_true setting lines table (question_of F.States positive negative acts) id left right word
    formed basic no_rule is (
      operand_of lines (x, false),
      in_map (λ a. operand_of lines a) positive (x, false) there,
      (refl, can),
    ) within
  where
    -- the anchor is one of these sets
    within : (number : Option ℕ) → PassesBudget setting lines F.States
        (query_of lines (question_of F.States positive negative acts) number) → ⊥
    within number (operand, is_anchor, over) =
        let w = in_mapped (λ a. operand_of lines a) positive operand is_anchor.among in
        let size : size_of lines operand.which ≤ setting.budget =
        subst (λ (o : Operand). size_of lines o.which ≤ setting.budget) w.2 (few w.0 w.1) in
        omega (arith, over, size)
