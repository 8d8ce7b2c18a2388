-- A statement whose left side asks for a set that its right side has is true, if its cost is within
-- the budget.
use Rattle.std.proofs.Common.{◌≡◌, ℕ, ◌<◌, ◌≤◌, ◌*◌, ◌∙◌, ◌⊎◌, Bool, true, false, not, List, [], ◌∷◌}
use Rattle.std.proofs.Common.{Option, Some, None, length, map, get_or, slice_get, refl, sym, ap, ap₂}
use Rattle.std.proofs.Common.{subst, inl, inr, arith}
use Rattle.std.proofs.lemmas.Bool.{and_parts, false_from_ne_true}
use Rattle.std.proofs.lemmas.Option.{same_Some, slice_get-map}
use Rattle.std.proofs.lemmas.List.Elements.{Contains-get_or}
use Rattle.std.specs.List.{All, Contains, list_all}
use Rattle.std.specs.Option.{IfSome}
use Rattle.hv_task.specs.Strips.{Strips, atoms}
use Rattle.hv_sets.specs.Cost.{choices_of, clauses_of, states_of}
use Rattle.hv_sets.specs.Query.{CanAnchor, action_of, in_operand, is_clash, may_apply}
use Rattle.hv_sets.specs.declared.operand.Operand.{Operand}
use Rattle.hv_sets.specs.declared.operand.Which.TheVariants as S
use Rattle.hv_sets.specs.declared.query.Query.{Query}
use Rattle.hv_explicit.proofs.Anchored.{passes_at}
use Rattle.hv_lines.specs.Numbering.{IsTable, expr_at, expr_count}
use Rattle.hv_lines.specs.Queries.{PassesBudget, asked_actions, dual_in, duals_of, has_of, horn_in}
use Rattle.hv_lines.specs.Queries.{horns_of, operand_of, queries_of, query_of, two_in, twos_of}
use Rattle.hv_lines.specs.Queries.{listed_in, listed_of, named_by, which_at}
use Rattle.hv_lines.specs.Setting.{Setting}
use Rattle.hv_lines.specs.Shapes.{Askings, IsWithinFamily, QuestionState, family_of}
use Rattle.hv_lines.specs.Verdicts.{DecidesNothing, IsVerdictOfSets}
use Rattle.hv_lines.specs.declared.formula_family.FormulaFamily.{FormulaFamily}
use Rattle.hv_lines.specs.declared.formula_family.FormulaFamily.TheVariants as F
use Rattle.hv_lines.specs.declared.line.Constant.TheVariants as C
use Rattle.hv_lines.specs.declared.line.Expr.{Expr}
use Rattle.hv_lines.specs.declared.line.Expr.TheVariants as E
use Rattle.hv_lines.specs.declared.line.Line.{Line}
use Rattle.hv_lines.specs.declared.verdict.Verdict.TheVariants as V
use Rattle.hv_lines.proofs.Elements.{cons_cases, got_mapped, head_in, nothing_in, tail_in}
use Rattle.hv_lines.proofs.Ready.{asked_exprs}
use Rattle.hv_lines.proofs.Named.{counts_before, family_is, found_number, which_is}
use Rattle.hv_basic.specs.Deciding.{IsQuestionOver}
use Rattle.hv_basic.specs.Sharing.{AreWays, clauses_to_choose}
use Rattle.hv_basic.specs.Working.Sharing.{IsAloneWithin, IsInClauses, IsListWithinIts}
use Rattle.hv_basic.specs.Working.Sharing.{IsWithinIts}
use Rattle.hv_basic.specs.Working.Views.{question_of}
use Rattle.hv_basic.specs.declared.shared.Kept.{Kept}
use Rattle.hv_basic.proofs.Querying.{IsOfferedIn}

-- how many clauses the sets of a family have, by number
abbrev pub sizes_in : List Line → FormulaFamily → ℕ → ℕ
sizes_in lines F.Horn number = length (get_or (horns_of lines) number [])
sizes_in lines F.Dual number = length (get_or (duals_of lines) number [])
sizes_in lines F.Two number = length (get_or (twos_of lines) number [])
sizes_in lines F.States number = 0
sizes_in lines F.Node number = 0

module _ (task : Strips) (lines : List Line) (family : FormulaFamily) where
  -- the clauses to choose from are those that the operand has
  abbrev HasCount : ℕ → Expr → ℕ → FormulaFamily → Type 0
  HasCount set expr count by =
      clauses_of task (sizes_in lines by) (named_by (counts_before lines set) expr) ≡ count

  named_count : (set count : ℕ) (expr : Expr) → expr_at lines set ≡ Some expr
      → clauses_to_choose expr ≡ Some count
      → (family_of expr ≡ None) ⊎ (family_of expr ≡ Some family) → HasCount set expr count family
  named_count set count (E.Constant C.Empty) at is of = same_Some 1 count is
  named_count set count (E.Constant C.Start) at is of = absurd (cc (is))
  named_count set count (E.Constant C.Goal) at is of = absurd (cc (is))
  named_count set count (E.Horn clauses) at is of =
      let found = (found_number horn_in lines set (E.Horn clauses) clauses [] at refl).1 in
      subst (HasCount set (E.Horn clauses) count) (family_is F.Horn family of)
      (ap length found ∙ same_Some (length clauses) count is)
  named_count set count (E.Dual clauses) at is of =
      let found = (found_number dual_in lines set (E.Dual clauses) clauses [] at refl).1 in
      subst (HasCount set (E.Dual clauses) count) (family_is F.Dual family of)
      (ap length found ∙ same_Some (length clauses) count is)
  named_count set count (E.Two clauses) at is of =
      let found = (found_number two_in lines set (E.Two clauses) clauses [] at refl).1 in
      subst (HasCount set (E.Two clauses) count) (family_is F.Two family of)
      (ap length found ∙ same_Some (length clauses) count is)
  named_count set count (E.States states) at is of = absurd (cc (is))
  named_count set count (E.Node node) at is of = absurd (cc (is))
  named_count set count (E.Not x) at is of = absurd (cc (is))
  named_count set count (E.And x y) at is of = absurd (cc (is))
  named_count set count (E.Or x y) at is of = absurd (cc (is))
  named_count set count (E.After x y) at is of = absurd (cc (is))
  named_count set count (E.Before x y) at is of = absurd (cc (is))

  one_count : (set count : ℕ) (expr : Expr) → expr_at lines set ≡ Some expr
      → clauses_to_choose expr ≡ Some count → IsWithinFamily lines family set
      → clauses_of task (sizes_in lines family) (which_at lines set) ≡ count
  one_count set count expr at is (other, other_at, of) =
      ap (clauses_of task (sizes_in lines family)) (which_is lines set expr at)
      ∙ named_count set count expr at is
      (subst (λ x. (family_of x ≡ None) ⊎ (family_of x ≡ Some family))
      (same_Some other expr (sym other_at ∙ at)) of)

  -- the ways to choose clauses are the cost
  pub ways_are : (asked : Askings) (ways : ℕ) → AreWays lines asked ways
      → ((a : ℕ × Bool) → Contains asked a → IsWithinFamily lines family a.0)
      → choices_of task (sizes_in lines family) (map (λ a. operand_of lines a) asked) ≡ ways
  ways_are [] ways are within = sym are
  ways_are (a ∷ asked) ways (count, rest, (expr, at, is), are, product) within =
      ap₂ (λ x y. x * y) (one_count a.0 count expr at is (within a (head_in a asked)))
      (ways_are asked rest are (λ b c. within b (tail_in a asked b c)))
      ∙ sym product

pub passes_out : (setting : Setting) (lines : List Line) (query : Query) (ways : ℕ)
    (family : FormulaFamily) → IsInClauses family
    → choices_of setting.task (sizes_in lines family) query.negative ≡ ways
    → ways ≤ setting.budget → PassesBudget setting lines family query → ⊥
passes_out setting lines query ways F.Horn in_clauses is few passes = omega (arith, is, few, passes)
passes_out setting lines query ways F.Dual in_clauses is few passes = omega (arith, is, few, passes)
passes_out setting lines query ways F.Two in_clauses is few passes = omega (arith, is, few, passes)
passes_out setting lines query ways F.States in_clauses is few passes = in_clauses
passes_out setting lines query ways F.Node in_clauses is few passes = in_clauses

pub offered : (lines : List Line) (q : QuestionState) (family : FormulaFamily) → IsInClauses family
    → IsOfferedIn lines q family
offered lines q F.Horn in_clauses = tt
offered lines q F.Dual in_clauses = tt
offered lines q F.Two in_clauses = tt
offered lines q F.States in_clauses = absurd in_clauses
offered lines q F.Node in_clauses = absurd in_clauses

-- no state is in a set and outside of it at one time
pub no_clash : (task : Strips) (sets : ℕ → List Bool → Bool) (query : Query) (o : Operand)
    (state : List Bool) → Contains query.positive o → Contains query.negative o
    → is_clash task sets query state ≡ false
no_clash task sets query o state asked has =
    let action = action_of task query.action in
    let inside : Operand → Bool = λ p. in_operand task sets action state p in
    false_from_ne_true (is_clash task sets query state) (λ yes.
    let parts = and_parts (may_apply action state) _ yes in
    let sides = and_parts (list_all inside query.positive) _ parts.1 in
    let yes_in = passes_at inside query.positive o sides.0 asked in
    let not_in = passes_at (λ p. not (inside p)) query.negative o sides.1 has in
    let both : not true ≡ true = subst (λ b. not b ≡ true) yes_in not_in in
    absurd (cc (both)))

pub map_has : {X Y : Type 0} (f : X → Y) (xs : List X) (a : X) → Contains xs a
    → Contains (map f xs) (f a)
map_has f [] a c = absurd (nothing_in a c)
map_has f (x ∷ xs) a c = elim (cons_cases x xs a c) [
  | inl same ↦ subst (λ y. Contains (map f (x ∷ xs)) (f y)) same (head_in (f x) (map f xs))
  | inr there ↦ tail_in (f x) (map f xs) (f a) (map_has f xs a there)
]

-- a question none of whose queries passes the budget, with a set on both sides
pub own_decided : (setting : Setting) (lines : List Line) (q : QuestionState) (a : ℕ × Bool)
    → Contains q.positive a → Contains q.negative a
    → ((action : Option ℕ) → PassesBudget setting lines q.family (query_of lines q action) → ⊥)
    → (place : ℕ) (query : Query) → slice_get (queries_of setting.task lines q) place ≡ Some query
    → DecidesNothing (PassesBudget setting lines q.family)
    (is_clash setting.task (has_of setting lines q.family)) (atoms setting.task) query
own_decided setting lines q a asked has free place query at =
    let actions = asked_actions setting.task lines q.acts in
    let w = got_mapped (query_of lines q) (slice_get actions place) query
    (sym (slice_get-map (query_of lines q) actions place) ∙ at) in
    subst (DecidesNothing (PassesBudget setting lines q.family)
    (is_clash setting.task (has_of setting lines q.family)) (atoms setting.task)) w.2 (
      free w.0,
      λ state size. no_clash setting.task (has_of setting lines q.family) (query_of lines q w.0)
          (operand_of lines a) state (map_has (λ b. operand_of lines b) q.positive a asked)
          (map_has (λ b. operand_of lines b) q.negative a has),
    )

-- a list of states by its line
listed_count : (lines : List Line) (own : ℕ) (states : List (List ℕ))
    → expr_at lines own ≡ Some (E.States states)
    → (number : ℕ) × (which_at lines own ≡ S.Set number)
    × (length (get_or (listed_of lines) number []) ≡ length states)
listed_count lines own states at = (
  counts_before lines own F.States,
  which_is lines own (E.States states) at,
  ap length (found_number listed_in lines own (E.States states) states [] at refl).1,
)

module _ (setting : Setting) (lines : List Line) (own : ℕ) (states : List (List ℕ))
    (at : expr_at lines own ≡ Some (E.States states)) where
  abbrev own_only : Askings
  own_only = (own, false) ∷ []

  can_anchor : CanAnchor (operand_of lines (own, false))
  can_anchor = (
    refl,
    λ goal.
        let number = listed_count lines own states at in
        let both : S.Set number.0 ≡ S.Goal = sym number.1 ∙ goal in absurd (cc (both)),
  )

  list_offered : (negative : Askings) (acts : Option ℕ) → IsOfferedIn lines
      (record { family = F.States; positive = own_only; negative = negative; acts = acts }) F.States
  list_offered negative acts =
      (operand_of lines (own, false), head_in (operand_of lines (own, false)) [], can_anchor)

  list_free : length states ≤ setting.budget → (negative : Askings) (acts action : Option ℕ)
      → PassesBudget setting lines F.States (query_of lines
      (record { family = F.States; positive = own_only; negative = negative; acts = acts }) action)
      → ⊥
  list_free few negative acts action (operand, anchor, over) =
      let number = listed_count lines own states at in
      let same : operand_of lines (own, false) ≡ operand =
      elim (cons_cases (operand_of lines (own, false)) [] operand anchor.among)
      [ inl is ↦ is | inr none ↦ absurd (nothing_in operand none) ] in
      let size : states_of (λ k. length (get_or (listed_of lines) k [])) operand.which
      ≡ length states =
      ap (λ (o : Operand). states_of (λ k. length (get_or (listed_of lines) k [])) o.which)
      (sym same)
      ∙ (ap (states_of (λ k. length (get_or (listed_of lines) k []))) number.1 ∙ number.2) in
      omega (arith, size, few, over)

pub list_within : (setting : Setting) (lines : List Line) (kept : Kept)
    → IsListWithinIts lines kept setting.budget
    → IsVerdictOfSets setting lines (question_of kept.question) V.True
list_within setting lines kept own =
    by kept.question.family kept.question.positive.items (sym own.family) (sym own.only)
  where
    by : (family : FormulaFamily) (positive : Askings) → F.States ≡ family
        → (own.own, false) ∷ [] ≡ positive → IsVerdictOfSets setting lines
        (record {
          family = family;
          positive = positive;
          negative = kept.question.negative.items;
          acts = kept.question.acts;
        }) V.True
    by family positive is only =
        subst (λ f. IsVerdictOfSets setting lines
        (record {
          family = f;
          positive = positive;
          negative = kept.question.negative.items;
          acts = kept.question.acts;
        }) V.True) is
        (subst (λ xs. IsVerdictOfSets setting lines
        (record {
          family = F.States;
          positive = xs;
          negative = kept.question.negative.items;
          acts = kept.question.acts;
        }) V.True) only (
          list_offered setting lines own.own own.states own.at kept.question.negative.items
              kept.question.acts,
          own_decided setting lines (record {
            family = F.States;
            positive = (own.own, false) ∷ [];
            negative = kept.question.negative.items;
            acts = kept.question.acts;
          }) (own.own, false) (head_in (own.own, false) []) own.has
              (list_free setting lines own.own own.states own.at own.few
              kept.question.negative.items kept.question.acts),
        ))

-- the verdict on the question beside what is kept
pub own_within : (setting : Setting) (lines : List Line) (kept : Kept)
    → IsQuestionOver lines (question_of kept.question)
    → IfSome kept.ways (AreWays lines kept.question.negative.items)
    → IsWithinIts kept setting.budget
    → IsVerdictOfSets setting lines (question_of kept.question) V.True
own_within setting lines kept over told own =
    let q : QuestionState = question_of kept.question in
    let are : AreWays lines q.negative own.ways =
    subst (λ o. IfSome o (AreWays lines kept.question.negative.items)) own.told told in
    let is = ways_are setting.task lines q.family q.negative own.ways are
    (λ a c. over.is.family.within false a ((over.is.negative a).0 c)) in (
      offered lines q q.family own.family,
      own_decided setting lines q own.own own.asked_for own.has
          (λ action. passes_out setting lines (query_of lines q action) own.ways q.family own.family
          is own.few),
    )

-- the verdict on a question whose right side asks for one set that its left side asks for
pub alone_within : (setting : Setting) (lines : List Line) (q : QuestionState)
    → IsQuestionOver lines q → IsAloneWithin lines q setting.budget
    → IsVerdictOfSets setting lines q V.True
alone_within setting lines q over own =
    let has : Contains q.negative own.own =
    subst (λ xs. Contains xs own.own) (sym own.only) (head_in own.own []) in
    let one : own.ways ≡ own.ways * 1 = omega arith in
    let are : AreWays lines q.negative own.ways =
    subst (λ xs. AreWays lines xs own.ways) (sym own.only) (own.ways, 1, own.told, refl, one) in
    let is = ways_are setting.task lines q.family q.negative own.ways are
    (λ a c. over.is.family.within false a ((over.is.negative a).0 c)) in (
      offered lines q q.family own.family,
      own_decided setting lines q own.own own.asked_for has
          (λ action. passes_out setting lines (query_of lines q action) own.ways q.family own.family
          is own.few),
    )

-- what the right side of a question asks about has a line
pub negative_below : (lines : List Line) → IsTable lines → (q : QuestionState)
    → IsQuestionOver lines q → All (λ a. a.0 < expr_count lines) q.negative
negative_below lines table q over k d below =
    let a : ℕ × Bool = get_or q.negative k d in
    asked_exprs lines table over.word over.left over.right q over.is a
    (inr (Contains-get_or q.negative k d below))
