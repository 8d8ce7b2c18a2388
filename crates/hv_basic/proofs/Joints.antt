-- One formula with the clauses of all leaves of an intersection stands for it: that stays right,
-- and the verdict on it is the statement's.
use Rattle.std.proofs.Common.{◌≡◌, ℕ, suc, ◌<◌, ◌∙◌, ◌↔◌, Bool, true}
use Rattle.std.proofs.Common.{List, ◌∷◌, Option, Some, None, get_or}
use Rattle.std.proofs.Common.{drop, take, sym, arith}
use Rattle.std.proofs.lemmas.List.Elements.{All-append, All-drop, All-take, Contains-get_or}
use Rattle.std.specs.List.{All, Contains, remove}
use Rattle.std.specs.Option.{IfSome}
use Rattle.hv_sets.specs.Truth.{in_clause, in_clauses}
use Rattle.hv_sets.specs.declared.literal.Literal.{Literal}
use Rattle.hv_explicit.proofs.Anchored.{passes_at}
use Rattle.hv_lines.specs.Numbering.{MayFollow, IsTable, expr_count}
use Rattle.hv_lines.specs.Shapes.{Askings, IsOfFamily, and_parts as and_parts_of}
use Rattle.hv_lines.specs.declared.formula_family.FormulaFamily.{FormulaFamily}
use Rattle.hv_lines.specs.declared.line.Line.{Line}
use Rattle.hv_lines.proofs.Laws.{expr_at_more, exprs_grow}
use Rattle.hv_lines.proofs.Shaped.{leaf_below}
use Rattle.hv_propagation.proofs.Effects.{list_all_from}
use Rattle.hv_basic.specs.Sharing.{AreJointClauses, AreLeavesAsked, HasClause, IsJointFor}
use Rattle.hv_basic.specs.Sharing.{IsJointKept, IsJointOf}
use Rattle.hv_basic.specs.Working.Joints.{IsInEach}
use Rattle.hv_basic.specs.declared.joint.JointFormula.{JointFormula}
use Rattle.hv_basic.specs.declared.shared.KeptJoint.{KeptJoint}
use Rattle.hv_basic.proofs.Sharing.{and_earlier, leaf_before, leaf_more}

-- what is kept stays right when a line is added

module _ (line : Line) (older : List Line) (next : MayFollow older line) where
  clause_more : (set : ℕ) (clause : List Literal) → set < expr_count older
      → HasClause older set clause ↔ HasClause (line ∷ older) set clause
  clause_more set clause below = (
    λ (expr, at, has). (expr, expr_at_more line older set next below ∙ at, has),
    λ (expr, at, has). (expr, sym (expr_at_more line older set next below) ∙ at, has),
  )

  of_more : (family : FormulaFamily) (set : ℕ) → set < expr_count older
      → IsOfFamily older family set → IsOfFamily (line ∷ older) family set
  of_more family set below (expr, at, of) =
      (expr, expr_at_more line older set next below ∙ at, of)

  -- a clause of one of the sets
  abbrev IsOfOne : List Line → Askings → List Literal → Type 0
  IsOfOne lines asked clause = (a : ℕ × Bool) × Contains asked a × HasClause lines a.0 clause

  one_more : (asked : Askings) (clause : List Literal)
      → ((a : ℕ × Bool) → Contains asked a → a.0 < expr_count older)
      → IsOfOne older asked clause ↔ IsOfOne (line ∷ older) asked clause
  one_more asked clause below = (
    λ (a, c, has). (a, c, (clause_more a.0 clause (below a c)).0 has),
    λ (a, c, has). (a, c, (clause_more a.0 clause (below a c)).1 has),
  )

  pub joint_of_more : (asked : Askings) (formula : JointFormula)
      → ((a : ℕ × Bool) → Contains asked a → a.0 < expr_count older)
      → IsJointOf older asked formula → IsJointOf (line ∷ older) asked formula
  joint_of_more asked formula below is = record {
    of_family = λ a c. of_more _ a.0 (below a c) (is.of_family a c);
    clauses = λ clause. (
      λ c. (one_more asked clause below).0 ((is.clauses clause).0 c),
      λ of. (is.clauses clause).1 ((one_more asked clause below).1 of),
    );
  }

  pub leaves_asked_more : (root : ℕ) (asked : Askings) → IsTable older → root < expr_count older
      → AreLeavesAsked older root asked → AreLeavesAsked (line ∷ older) root asked
  leaves_asked_more root asked table below is = record {
    each = λ a. (
      λ c. (
        leaf_more line older next and_parts_of root a.0 table ((is.each a).0 c).0,
        ((is.each a).0 c).1,
      ),
      λ (of, before). (is.each a).1 (
        leaf_before line older next and_parts_of (and_earlier line older next table) root a.0 below
            of,
        before,
      ),
    );
    rises = is.rises;
    few = is.few;
  }

  joint_for_more : (root : ℕ) (formula : JointFormula) → IsTable older → root < expr_count older
      → IsJointFor older root formula → IsJointFor (line ∷ older) root formula
  joint_for_more root formula table below is = record {
    asked = is.asked;
    leaves = leaves_asked_more root is.asked table below is.leaves;
    joint = joint_of_more is.asked formula
        (λ a c. leaf_below older and_parts_of root a.0 table ((is.leaves.each a).0 c).0) is.joint;
  }

  some_more : (root : ℕ) (formula : Option JointFormula) → IsTable older → root < expr_count older
      → IfSome formula (IsJointFor older root) → IfSome formula (IsJointFor (line ∷ older) root)
  some_more root None table below is = is
  some_more root (Some formula) table below is = joint_for_more root formula table below is

  pub joint_more : (kept : KeptJoint) → IsJointKept older kept → IsJointKept (line ∷ older) kept
  joint_more kept is = record {
    table = (next, is.table);
    below = omega (arith, is.below, exprs_grow line older);
    stands = some_more kept.root kept.formula is.table is.below is.stands;
  }

-- without one of what is kept
pub joints_without : (lines : List Line) (joints : List KeptJoint) (place : ℕ)
    → All (IsJointKept lines) joints → All (IsJointKept lines) (remove joints place)
joints_without lines joints place are =
    All-append (IsJointKept lines) (take place joints) (drop (suc place) joints)
    (All-take (IsJointKept lines) place joints are)
    (All-drop (IsJointKept lines) (suc place) joints are)

-- the clauses are true in a state exactly where it is in each set
pub joint_means : (lines : List Line) (asked : Askings) (clauses : List (List Literal))
    (state : List Bool) → AreJointClauses lines asked clauses
    → (in_clauses clauses state ≡ true) ↔ IsInEach lines asked state
joint_means lines asked clauses state are = (
  λ yes a expr own c at of. list_all_from (λ x. in_clause x state) own (λ k d less.
      passes_at (λ x. in_clause x state) clauses (get_or own k d) yes
      ((are (get_or own k d)).1
      (a, c, (expr, at, (own, of, Contains-get_or own k d less))))),
  λ each. list_all_from (λ x. in_clause x state) clauses (λ k d less.
      holds each (get_or clauses k d)
      ((are (get_or clauses k d)).0 (Contains-get_or clauses k d less))),
)
  where
    holds : IsInEach lines asked state → (clause : List Literal)
        → ((a : ℕ × Bool) × Contains asked a × HasClause lines a.0 clause)
        → in_clause clause state ≡ true
    holds each clause (a, c, (expr, at, (own, of, has))) =
        passes_at (λ x. in_clause x state) own clause (each a expr own c at of) has
