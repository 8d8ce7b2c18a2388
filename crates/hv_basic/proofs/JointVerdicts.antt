-- What a statement asks whose left side stands as one formula, and its verdict.
use Rattle.std.proofs.Common.{◌≡◌, ℕ, zero, suc, ◌<◌, ◌≤◌, ◌∙◌, ◌&&◌, Bool, true, false, not}
use Rattle.std.proofs.Common.{List, [], ◌∷◌, Option, Some, None, length, get_or, slice_get}
use Rattle.std.proofs.Common.{Result, refl, sym, ap, ap₂, subst, inl, inr, arith}
use Rattle.std.proofs.lemmas.List.Elements.{Contains-get_or}
use Rattle.std.proofs.lemmas.List.Folds.{list_all-map}
use Rattle.std.proofs.lemmas.Option.{IfSome_then, same_Some, slice_get_within}
use Rattle.std.proofs.lemmas.Result.{IfOk-weaker}
use Rattle.std.specs.List.{Contains, list_all}
use Rattle.std.specs.Option.{IfSome}
use Rattle.std.specs.Result.{IfOk}
use Rattle.hv_task.specs.Strips.{atoms}
use Rattle.hv_sets.specs.Cost.{choices_of}
use Rattle.hv_sets.specs.Query.{asked as asked_state, in_operand, is_clash}
use Rattle.hv_sets.specs.Truth.{in_clauses}
use Rattle.hv_sets.specs.declared.literal.Literal.{Literal}
use Rattle.hv_sets.specs.declared.operand.Operand.{Operand}
use Rattle.hv_sets.specs.declared.query.Query.{Query}
use Rattle.hv_explicit.proofs.Anchored.{passes_at}
use Rattle.hv_formula.specs.Clausal.{FormulaState}
use Rattle.hv_mixed.specs.Inclusion.{difference}
use Rattle.hv_propagation.proofs.Effects.{list_all_from}
use Rattle.hv_lines.specs.Literals.{IsPlainExpr, IsPlainSet}
use Rattle.hv_lines.specs.Numbering.{expr_at}
use Rattle.hv_lines.specs.Queries.{PassesBudget, has_of, operand_of, query_of}
use Rattle.hv_lines.specs.Setting.{Setting}
use Rattle.hv_lines.specs.Shapes.{Askings, AskingsRise, IsAndLeaf, IsAsked, IsLiteralOf}
use Rattle.hv_lines.specs.Shapes.{IsOfFamily, IsOrLeaf, IsQuestion, IsWithinFamily, QuestionState}
use Rattle.hv_lines.specs.Shapes.{alone, family_of, or_parts}
use Rattle.hv_lines.specs.Verdicts.{DecidesNothing, IsVerdictOfSets}
use Rattle.hv_lines.specs.declared.formula_family.FormulaFamily.{FormulaFamily}
use Rattle.hv_lines.specs.declared.formula_family.FormulaFamily.TheVariants as F
use Rattle.hv_lines.specs.declared.line.Expr.{Expr}
use Rattle.hv_lines.specs.declared.line.Expr.TheVariants as E
use Rattle.hv_lines.specs.declared.line.Line.{Line}
use Rattle.hv_lines.specs.declared.line.Word.{Word}
use Rattle.hv_lines.specs.declared.line.Word.TheVariants as W
use Rattle.hv_lines.specs.declared.verdict.Verdict.{Verdict}
use Rattle.hv_lines.specs.declared.verdict.Verdict.TheVariants as V
use Rattle.hv_lines.proofs.Elements.{head_in, of_one}
use Rattle.hv_lines.proofs.Questions.{alone_no_step}
use Rattle.hv_lines.proofs.Shaped.{literal_once}
use Rattle.hv_basic.specs.Sharing.{AreLeavesAsked, IsJointFor, clauses_to_choose, joint_clauses}
use Rattle.hv_basic.specs.Sharing.{joint_family, own_clauses}
use Rattle.hv_basic.specs.Working.Joints.{IsInEach, IsVerdictWithin, question_within}
use Rattle.hv_basic.specs.Working.Sharing.{IsInClauses, IsVerdictOfSub}
use Rattle.hv_basic.specs.declared.joint.JointFormula.{JointFormula}
use Rattle.hv_basic.specs.declared.joint.JointFormula.TheVariants as J
use Rattle.hv_basic.proofs.Joints.{joint_means}
use Rattle.hv_basic.proofs.Leafing.{leaf_alone}
use Rattle.hv_basic.proofs.Literals.{in_formula}
use Rattle.hv_basic.proofs.Within.{map_has, offered, passes_out, sizes_in, ways_are}

-- a formula is a plain set, and no union
formula_plain : (expr : Expr) (family : FormulaFamily) → family_of expr ≡ Some family
    → IsPlainExpr expr × (or_parts expr ≡ None)
formula_plain (E.Constant x) family of = absurd (cc (of))
formula_plain (E.Horn x) family of = (inl tt, refl)
formula_plain (E.Dual x) family of = (inl tt, refl)
formula_plain (E.Two x) family of = (inl tt, refl)
formula_plain (E.States x) family of = (inl tt, refl)
formula_plain (E.Node x) family of = (inl tt, refl)
formula_plain (E.Not x) family of = absurd (cc (of))
formula_plain (E.And x y) family of = absurd (cc (of))
formula_plain (E.Or x y) family of = absurd (cc (of))
formula_plain (E.After x y) family of = absurd (cc (of))
formula_plain (E.Before x y) family of = absurd (cc (of))

plain_set : (lines : List Line) (family : FormulaFamily) (set : ℕ) → IsOfFamily lines family set
    → IsPlainSet lines set
plain_set lines family set (expr, at, of) = (expr, at, (formula_plain expr family of).0)

within_set : (lines : List Line) (family : FormulaFamily) (set : ℕ) → IsOfFamily lines family set
    → IsWithinFamily lines family set
within_set lines family set (expr, at, of) = (expr, at, inr of)

-- one set alone is in order
alone_rises : (a : ℕ × Bool) → AskingsRise (a ∷ [])
alone_rises a i j first second less at_first at_second =
    let within = slice_get_within (a ∷ []) j second at_second in
    absurd (omega (arith, less, within))

module _ (lines : List Line) (root right : ℕ) (family : FormulaFamily) (asked : Askings)
    (leaves : AreLeavesAsked lines root asked)
    (each : (a : ℕ × Bool) → Contains asked a → IsOfFamily lines family a.0)
    (own : IsOfFamily lines family right) where
  abbrev Asks : Bool → ℕ × Bool → Type 0
  Asks sign a = IsAsked lines W.B1 root right sign a

  right_plain : IsPlainSet lines right
  right_plain = plain_set lines family right own

  no_or : or_parts own.0 ≡ None
  no_or = (formula_plain own.0 family own.2).1

  right_leaf : IsOrLeaf lines right right
  right_leaf = alone right own.0 own.1 no_or

  right_only : (leaf : ℕ) → IsOrLeaf lines right leaf → leaf ≡ right
  right_only leaf of = leaf_alone or_parts lines right leaf own.0 own.1 no_or of

  leaf_plain : (leaf : ℕ) → IsAndLeaf lines root leaf → IsPlainSet lines leaf
  leaf_plain leaf of = plain_set lines family leaf
      (each (leaf, false) ((leaves.each (leaf, false)).1 (of, refl)))

  left_plain : (leaf set : ℕ) → IsAndLeaf lines root leaf → IsLiteralOf lines leaf set false → ⊥
  left_plain leaf set of literal =
      let both : true ≡ false =
      (literal_once lines leaf leaf set true false (refl, leaf_plain leaf of) literal).1 in
      cc (both)

  plus_out : (a : ℕ × Bool) → Contains asked a → Asks true a
  plus_out a c =
      let h = (leaves.each a).0 c in
      (a.0, inl (inl (h.0, h.1), (refl, leaf_plain a.0 h.0)))

  plus_in : (a : ℕ × Bool) → Asks true a → Contains asked a
  plus_in a (leaf, inl (inl (of, before), literal)) =
      (leaves.each a).1 (subst (IsAndLeaf lines root) literal.0 of, before)
  plus_in a (leaf, inl (inr (step, set, acts, of, is_step, leaf_of, after), literal)) =
      absurd (alone_no_step lines W.B1 root right step set acts refl is_step)
  plus_in a (leaf, inr ((of, before), literal)) =
      let plain : IsPlainSet lines leaf =
      subst (IsPlainSet lines) (sym (right_only leaf of)) right_plain in
      let both : true ≡ false =
      (literal_once lines leaf leaf a.0 true false (refl, plain) literal).1 in
      absurd (cc (both))

  minus_out : (a : ℕ × Bool) → Contains ((right, false) ∷ []) a → Asks false a
  minus_out a c =
      of_one (Asks false) (right, false) (right, inr ((right_leaf, refl), (refl, right_plain))) a c

  minus_in : (a : ℕ × Bool) → Asks false a → Contains ((right, false) ∷ []) a
  minus_in a (leaf, inl (inl (of, before), literal)) = absurd (left_plain leaf a.0 of literal)
  minus_in a (leaf, inl (inr (step, set, acts, of, is_step, leaf_of, after), literal)) =
      absurd (alone_no_step lines W.B1 root right step set acts refl is_step)
  minus_in a (leaf, inr ((of, before), literal)) =
      let same : a.0 ≡ right = sym literal.0 ∙ right_only leaf of in
      subst (λ (x : ℕ). Contains {X = ℕ × Bool} ((right, false) ∷ []) (x, a.1)) (sym same)
      (subst (λ (b : Bool). Contains {X = ℕ × Bool} ((right, false) ∷ []) (right, b)) (sym before)
      (head_in (right, false) []))

  all_within : (sign : Bool) (a : ℕ × Bool) → Asks sign a → IsWithinFamily lines family a.0
  all_within true a asks = within_set lines family a.0 (each a (plus_in a asks))
  all_within false a asks =
      of_one (λ (x : ℕ × Bool). IsWithinFamily lines family x.0) (right, false)
      (within_set lines family right own) a (minus_in a asks)

  -- the question of the statement
  question_joint : IsQuestion lines W.B1 root right (question_within family asked right)
  question_joint = record {
    sides = (
      refl,
      λ leaf of. inl (leaf_plain leaf of),
      λ leaf of. inl (subst (IsPlainSet lines) (sym (right_only leaf of)) right_plain),
    );
    positive = λ a. (plus_out a, plus_in a);
    negative = λ a. (minus_out a, minus_in a);
    positive_rises = leaves.rises;
    negative_rises = alone_rises (right, false);
    few = let few = leaves.few in omega (arith, few);
    family = record {
      within = all_within;
      some = inr (false, (right, false), minus_out (right, false) (head_in (right, false) []), own);
    };
  }

-- formulas in clauses

joint_in_clauses : (formula : JointFormula) → IsInClauses (joint_family formula)
joint_in_clauses (J.Horn x) = tt
joint_in_clauses (J.Dual x) = tt
joint_in_clauses (J.Two x) = tt

to_choose : (expr : Expr) (clauses : List (List Literal)) → own_clauses expr ≡ Some clauses
    → clauses_to_choose expr ≡ Some (length clauses)
to_choose (E.Horn x) clauses own = ap (λ xs. Some (length xs)) (same_Some x clauses own)
to_choose (E.Dual x) clauses own = ap (λ xs. Some (length xs)) (same_Some x clauses own)
to_choose (E.Two x) clauses own = ap (λ xs. Some (length xs)) (same_Some x clauses own)
to_choose (E.Constant x) clauses own = absurd (cc (own))
to_choose (E.States x) clauses own = absurd (cc (own))
to_choose (E.Node x) clauses own = absurd (cc (own))
to_choose (E.Not x) clauses own = absurd (cc (own))
to_choose (E.And x y) clauses own = absurd (cc (own))
to_choose (E.Or x y) clauses own = absurd (cc (own))
to_choose (E.After x y) clauses own = absurd (cc (own))
to_choose (E.Before x y) clauses own = absurd (cc (own))

has_own : (expr : Expr) (family : FormulaFamily) → IsInClauses family
    → family_of expr ≡ Some family
    → (clauses : List (List Literal)) × (own_clauses expr ≡ Some clauses)
has_own (E.Horn x) family in_clauses of = (x, refl)
has_own (E.Dual x) family in_clauses of = (x, refl)
has_own (E.Two x) family in_clauses of = (x, refl)
has_own (E.States x) family in_clauses of =
    absurd (subst IsInClauses (sym (same_Some F.States family of)) in_clauses)
has_own (E.Node x) family in_clauses of =
    absurd (subst IsInClauses (sym (same_Some F.Node family of)) in_clauses)
has_own (E.Constant x) family in_clauses of = absurd (cc (of))
has_own (E.Not x) family in_clauses of = absurd (cc (of))
has_own (E.And x y) family in_clauses of = absurd (cc (of))
has_own (E.Or x y) family in_clauses of = absurd (cc (of))
has_own (E.After x y) family in_clauses of = absurd (cc (of))
has_own (E.Before x y) family in_clauses of = absurd (cc (of))

passes_in : (setting : Setting) (lines : List Line) (query : Query) (ways : ℕ)
    (family : FormulaFamily) → IsInClauses family
    → choices_of setting.task (sizes_in lines family) query.negative ≡ ways
    → setting.budget < ways → PassesBudget setting lines family query
passes_in setting lines query ways F.Horn in_clauses is over = omega (arith, is, over)
passes_in setting lines query ways F.Dual in_clauses is over = omega (arith, is, over)
passes_in setting lines query ways F.Two in_clauses is over = omega (arith, is, over)
passes_in setting lines query ways F.States in_clauses is over = absurd in_clauses
passes_in setting lines query ways F.Node in_clauses is over = absurd in_clauses

-- truth values

same_truth : (a b : Bool) → (a ≡ true → b ≡ true) → (b ≡ true → a ≡ true) → a ≡ b
same_truth true true out back = refl
same_truth true false out back = sym (out refl)
same_truth false true out back = back refl
same_truth false false out back = refl

and_true : (b : Bool) → (b && true) ≡ b
and_true true = refl
and_true false = refl

-- without an action the state itself is asked about
asked_none : (after : Bool) (state : List Bool) → asked_state None after state ≡ state
asked_none true state = refl
asked_none false state = refl

module _ (setting : Setting) (lines : List Line) (root right : ℕ) (formula : JointFormula)
    (is : IsJointFor lines root formula) (expr : Expr) (clauses : List (List Literal))
    (at : expr_at lines right ≡ Some expr) (of : family_of expr ≡ Some (joint_family formula))
    (own : own_clauses expr ≡ Some clauses) where
  abbrev family : FormulaFamily
  family = joint_family formula

  abbrev question : QuestionState
  question = question_within family is.asked right

  abbrev query : Query
  query = query_of lines question None

  in_family : IsOfFamily lines family right
  in_family = (expr, at, of)

  abbrev inside : List Bool → Operand → Bool
  inside state o = in_operand setting.task (has_of setting lines family) None state o

  -- what a set's operand asks is whether its clauses are true
  operand_is : (state : List Bool) (a : ℕ × Bool) (e : Expr) (xs : List (List Literal))
      → IsOfFamily lines family a.0 → expr_at lines a.0 ≡ Some e → own_clauses e ≡ Some xs
      → inside state (operand_of lines a) ≡ in_clauses xs state
  operand_is state a e xs of_family at_set has =
      subst (λ s. inside s (operand_of lines a) ≡ in_clauses xs s) (asked_none a.1 state)
      (in_formula setting lines family (asked_state None a.1 state) a.0 e xs at_set has
      (within_set lines family a.0 of_family))

  cost : choices_of setting.task (sizes_in lines family) query.negative ≡ length clauses
  cost = ways_are setting.task lines family ((right, false) ∷ []) (length clauses)
      (length clauses, 1, (expr, at, to_choose expr clauses own), refl, omega arith)
      (λ a c. of_one (λ (x : ℕ × Bool). IsWithinFamily lines family x.0) (right, false)
      (within_set lines family right in_family) a c)

  plus_is : (state : List Bool)
      → list_all (inside state) query.positive ≡ in_clauses (joint_clauses formula) state
  plus_is state = same_truth _ _ out back
    where
      out : list_all (inside state) query.positive ≡ true
          → in_clauses (joint_clauses formula) state ≡ true
      out all = (joint_means lines is.asked (joint_clauses formula) state is.joint.clauses).1
          (λ a e xs c at_set has.
          sym (operand_is state a e xs (is.joint.of_family a c) at_set has)
          ∙ passes_at (inside state) query.positive (operand_of lines a) all
          (map_has (λ b. operand_of lines b) is.asked a c))

      one : IsInEach lines is.asked state → (a : ℕ × Bool) → Contains is.asked a
          → IsOfFamily lines family a.0 → inside state (operand_of lines a) ≡ true
      one each a c (e, at_set, of_set) =
          let w = has_own e family (joint_in_clauses formula) of_set in
          operand_is state a e w.0 (e, at_set, of_set) at_set w.1 ∙ each a e w.0 c at_set w.1

      back : in_clauses (joint_clauses formula) state ≡ true
          → list_all (inside state) query.positive ≡ true
      back all =
          let each =
          (joint_means lines is.asked (joint_clauses formula) state is.joint.clauses).0 all in
          list_all-map (inside state) (λ b. operand_of lines b) is.asked
          ∙ list_all_from (λ b. inside state (operand_of lines b)) is.asked (λ k d less.
          let c = Contains-get_or is.asked k d less in
          one each (get_or is.asked k d) c (is.joint.of_family (get_or is.asked k d) c))

  clash_is : (state : List Bool)
      → is_clash setting.task (has_of setting lines family) query state
      ≡ difference (in_clauses (joint_clauses formula)) (in_clauses clauses) state
  clash_is state = ap₂ (λ a b. a && b) (plus_is state)
      (and_true (not (inside state (operand_of lines (right, false))))
      ∙ ap not (operand_is state (right, false) expr clauses in_family at own))

  only : (place : ℕ) (e : Query) → slice_get (query ∷ []) place ≡ Some e → query ≡ e
  only zero e there = same_Some query e there
  only (suc place) e there =
      let within = slice_get_within (query ∷ []) (suc place) e there in
      absurd (omega (arith, within))

  abbrev Passes : Query → Type 0
  Passes = PassesBudget setting lines family

  free : length clauses ≤ setting.budget → Passes query → ⊥
  free few = passes_out setting lines query (length clauses) family (joint_in_clauses formula) cost
      few

  decided : (verdict : Verdict)
      → IsVerdictWithin setting.budget (atoms setting.task) (joint_clauses formula) clauses verdict
      → IsVerdictOfSets setting lines question verdict
  decided V.True (few, none) = (
    offered lines question family (joint_in_clauses formula),
    λ place e there. subst (DecidesNothing Passes
        (is_clash setting.task (has_of setting lines family)) (atoms setting.task))
        (only place e there) (free few, λ state size. clash_is state ∙ none state size),
  )
  decided (V.False found) (few, action, (state, has, size, is_clash_there)) = (
    offered lines question family (joint_in_clauses formula),
    (
      query,
      (0, refl, λ lower earlier less there. absurd (omega (arith, less))),
      free few,
      (action, (state, has, size, clash_is state ∙ is_clash_there)),
    ),
  )
  decided V.Over over = (
    offered lines question family (joint_in_clauses formula),
    (
      query,
      (0, refl, λ lower earlier less there. absurd (omega (arith, less))),
      passes_in setting lines query (length clauses) family (joint_in_clauses formula) cost over,
    ),
  )
  decided V.NotOffered never = absurd never

  -- the verdict on the joint formula is that of the statement
  pub joint_verdict : (verdict : Verdict)
      → IsVerdictWithin setting.budget (atoms setting.task) (joint_clauses formula) clauses verdict
      → IsVerdictOfSub setting lines W.B1 root right verdict
  joint_verdict verdict within = (
    question,
    question_joint lines root right family is.asked is.leaves is.joint.of_family in_family,
    decided verdict within,
  )

  -- so is what is found for it, if anything is
  pub joint_gives : {X : Type 0} (word : Word) (got : FormulaState) (result : Result (Option Verdict) X)
      → word ≡ W.B1 → got ≡ record { atoms = atoms setting.task; clauses = clauses }
      → IfOk result (λ found. IfSome found (IsVerdictWithin setting.budget got.atoms
      (joint_clauses formula) got.clauses))
      → IfOk result (λ found. IfSome found (IsVerdictOfSub setting lines word root right))
  joint_gives word got result b1 same given =
      IfOk-weaker result
      (λ found. IfSome found (IsVerdictWithin setting.budget got.atoms (joint_clauses formula)
      got.clauses))
      (λ found. IfSome found (IsVerdictOfSub setting lines word root right))
      (λ found some. IfSome_then found some
      (λ verdict within. subst (λ w. IsVerdictOfSub setting lines w root right verdict) (sym b1)
      (joint_verdict verdict (subst (λ (f : FormulaState). IsVerdictWithin setting.budget f.atoms
      (joint_clauses formula) f.clauses verdict) same within)))) given
