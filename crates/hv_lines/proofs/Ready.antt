-- The queries of a question can be asked of the store of its family.
use Rattle.std.proofs.Common.{◌≡◌, ℕ, zero, suc, ◌<◌, ◌∙◌, ◌⊎◌, ◌++◌, Bool, true, false, List, []}
use Rattle.std.proofs.Common.{◌∷◌, Option, Some, None, if◌then◌else◌, length, map, refl, sym, ap}
use Rattle.std.proofs.Common.{subst, inl, inr, arith}
use Rattle.std.proofs.lemmas.List.Elements.{Contains-append_cases}
use Rattle.std.proofs.lemmas.Option.{slice_get-map}
use Rattle.std.specs.List.{Contains, slice_get}
use Rattle.std.specs.Option.{IfSome}
use Rattle.hv_sets.specs.Query.{ComesBefore, IsNamed, IsReady, Rises}
use Rattle.hv_sets.specs.declared.operand.Operand.{Operand}
use Rattle.hv_lines.specs.Literals.{IsPlainExpr, IsPlainSet}
use Rattle.hv_lines.specs.Meaning.{acts_of}
use Rattle.hv_lines.specs.Numbering.{IsTable, expr_at, expr_count}
use Rattle.hv_lines.specs.Queries.{actions_below, NamesNodes, asked_actions, count_of, dual_in}
use Rattle.hv_lines.specs.Queries.{horn_in, listed_in, named_by, operand_of, query_of, two_in}
use Rattle.hv_lines.specs.Queries.{which_at}
use Rattle.hv_lines.specs.Shapes.{Askings, AskingsRise, HasSides, IsAsked, IsQuestion}
use Rattle.hv_lines.specs.Shapes.{QuestionState}
use Rattle.hv_lines.specs.Shapes.{asks_sides_after, family_of}
use Rattle.hv_lines.specs.declared.formula_family.FormulaFamily.{FormulaFamily}
use Rattle.hv_lines.specs.declared.formula_family.FormulaFamily.TheVariants as F
use Rattle.hv_lines.specs.declared.line.Constant.TheVariants as C
use Rattle.hv_lines.specs.declared.line.Expr.{Expr}
use Rattle.hv_lines.specs.declared.line.Expr.TheVariants as E
use Rattle.hv_lines.specs.declared.line.Line.{Line}
use Rattle.hv_lines.specs.declared.line.Word.{Word}
use Rattle.hv_lines.specs.declared.line.Word.TheVariants as W
use Rattle.hv_task.specs.Strips.{Strips}
use Rattle.hv_lines.proofs.Elements.{all_from, got_mapped, in_mapped}
use Rattle.hv_lines.proofs.Laws.{expr_below}
use Rattle.hv_lines.proofs.Named.{count_before, counts_before, family_is, found_number, which_is}
use Rattle.hv_lines.proofs.Questions.{alone_no_step}

-- lists

-- what is listed for an action set are actions below the bound
some_here : (b : Bool) (n : ℕ) (action : Option ℕ) → Contains (if b then Some n ∷ [] else []) action
    → Some n ≡ action
some_here true n action (zero, below, e) = e
some_here true n action (suc k, below, e) = absurd (omega (arith, below))
some_here false n action c = absurd (omega (arith, c.1))

pub some_below : (lines : List Line) (acts n : ℕ) (action : Option ℕ)
    → Contains (actions_below lines acts n) action
    → (number : ℕ) × (action ≡ Some number) × (number < n)
some_below lines acts zero action c = absurd (omega (arith, c.1))
some_below lines acts (suc n) action c =
    elim (Contains-append_cases (actions_below lines acts n)
    (if acts_of lines acts n then Some n ∷ [] else []) action c) [
      | inl before ↦ let w = some_below lines acts n action before in (w.0, w.1, omega (arith, w.2))
      | inr here ↦ (n, sym (some_here (acts_of lines acts n) n action here), omega arith)
    ]

-- the actions of a question's queries are actions of the task
pub asked_below : (task : Strips) (lines : List Line) (acts : Option ℕ) (action : Option ℕ)
    → Contains (asked_actions task lines acts) action
    → IfSome action (λ number. number < length task.actions)
asked_below task lines None action (zero, below, e) = subst
    (λ a. IfSome a (λ number. number < length task.actions)) e tt
asked_below task lines None action (suc k, below, e) = absurd (omega (arith, below))
asked_below task lines (Some acts) action c =
    let w = some_below lines acts (length task.actions) action c in
    subst (λ a. IfSome a (λ number. number < length task.actions)) (sym w.1) w.2

-- only a question without an action set has a query without an action
no_acts : (task : Strips) (lines : List Line) (acts : Option ℕ)
    → Contains (asked_actions task lines acts) None → acts ≡ None
no_acts task lines None c = refl
no_acts task lines (Some acts) c =
    let w = some_below lines acts (length task.actions) None c in absurd (cc (w.1))

module _ (lines : List Line) (table : IsTable lines) (word : Word) (left right : ℕ) (q :
    QuestionState)
    (is : IsQuestion lines word left right q) where
  -- what is asked about is a formula or constant
  plain_from : (sign : Bool) (a : ℕ × Bool) → IsAsked lines word left right sign a
      → IsPlainSet lines a.0
  plain_from true a (leaf, inl (side, literal)) = literal.1
  plain_from true a (leaf, inr (side, literal)) = literal.1
  plain_from false a (leaf, inl (side, literal)) = literal.1
  plain_from false a (leaf, inr (side, literal)) = literal.1

  pub asked_exprs : (a : ℕ × Bool) → Contains q.positive a ⊎ Contains q.negative a
      → a.0 < expr_count lines
  asked_exprs a (inl c) = let plain = plain_from true a ((is.positive a).0 c) in
      expr_below lines a.0 plain.0 table plain.1
  asked_exprs a (inr c) = let plain = plain_from false a ((is.negative a).0 c) in
      expr_below lines a.0 plain.0 table plain.1

  -- an operand names a set of the store
  named_within : (nodes : ℕ) → NamesNodes nodes lines
      → (family : FormulaFamily) (id : ℕ) (expr : Expr) → expr_at lines id ≡ Some expr
      → IsPlainExpr expr → (family_of expr ≡ None) ⊎ (family_of expr ≡ Some family)
      → IsNamed (count_of lines family nodes)
      (named_by (counts_before lines id) expr)
  named_within nodes known family id (E.Constant C.Empty) at plain of = tt
  named_within nodes known family id (E.Constant C.Start) at plain of = tt
  named_within nodes known family id (E.Constant C.Goal) at plain of = tt
  named_within nodes known family id (E.Horn clauses) at plain of =
      subst (λ f. count_before horn_in lines id < count_of lines f nodes)
      (family_is F.Horn family of)
      (found_number horn_in lines id (E.Horn clauses) clauses [] at refl).0
  named_within nodes known family id (E.Dual clauses) at plain of =
      subst (λ f. count_before dual_in lines id < count_of lines f nodes)
      (family_is F.Dual family of)
      (found_number dual_in lines id (E.Dual clauses) clauses [] at refl).0
  named_within nodes known family id (E.Two clauses) at plain of =
      subst (λ f. count_before two_in lines id < count_of lines f nodes)
      (family_is F.Two family of)
      (found_number two_in lines id (E.Two clauses) clauses [] at refl).0
  named_within nodes known family id (E.States states) at plain of =
      subst (λ f. count_before listed_in lines id < count_of lines f nodes)
      (family_is F.States family of)
      (found_number listed_in lines id (E.States states) states [] at refl).0
  named_within nodes known family id (E.Node node) at plain of =
      subst (λ f. node < count_of lines f nodes) (family_is F.Node family of) (known id node at)
  named_within nodes known family id (E.Not set) at plain of = tt
  named_within nodes known family id (E.And x y) at plain of = tt
  named_within nodes known family id (E.Or x y) at plain of = tt
  named_within nodes known family id (E.After x y) at plain of = tt
  named_within nodes known family id (E.Before x y) at plain of = tt

  operand_named : (nodes : ℕ) → NamesNodes nodes lines → (sign : Bool) (a : ℕ × Bool)
      → IsAsked lines word left right sign a
      → IsNamed (count_of lines q.family nodes) (which_at lines a.0)
  operand_named nodes known sign a there =
      let plain = plain_from sign a there in
      let within = is.family.within sign a there in
      let same : within.0 ≡ plain.0 = cc (within.1, plain.1) in
      let of = subst (λ y. (family_of y ≡ None) ⊎ (family_of y ≡ Some q.family)) same within.2 in
      subst (IsNamed (count_of lines q.family nodes)) (sym (which_is lines a.0 plain.0 plain.1))
      (named_within nodes known q.family a.0 plain.0 plain.1 plain.2 of)

  -- each operand of a query asks something
  from_operand : (action : Option ℕ) (o : Operand)
      → Contains (map (λ a. operand_of lines a) q.positive ++ map
      (λ a. operand_of lines a) q.negative) o
      → (sign : Bool) × (a : ℕ × Bool) × IsAsked lines word left right sign a
      × (operand_of lines a ≡ o)
  from_operand action o c =
      elim (Contains-append_cases (map (λ a. operand_of lines a) q.positive)
      (map (λ a. operand_of lines a) q.negative) o c) [
        | inl here ↦ let w = in_mapped (λ a. operand_of lines a) q.positive o here in
            (true, w.0, (is.positive w.0).0 w.1, w.2)
        | inr here ↦ let w = in_mapped (λ a. operand_of lines a) q.negative o here in
            (false, w.0, (is.negative w.0).0 w.1, w.2)
      ]

  -- without a step nothing is asked about after the action
  not_after : (sign : Bool) (a : ℕ × Bool) → word ≡ W.B1 → IsAsked lines word left right sign a
      → a.1 ≡ false
  not_after sign a b1 (leaf, inl (inl (of, after), literal)) = after ∙ ap asks_sides_after b1
  not_after sign a b1 (leaf, inl (inr (step, set, acts, of, is_step, leaf_of, after), literal)) =
      absurd (alone_no_step lines word left right step set acts b1 is_step)
  not_after sign a b1 (leaf, inr ((of, after), literal)) = after ∙ ap asks_sides_after b1

  rises_mapped : (asked : Askings) → AskingsRise asked → Rises (map (λ a. operand_of lines a) asked)
  rises_mapped asked rises i j first second less at_first at_second =
      let x = got_mapped (λ a. operand_of lines a) (slice_get asked i) first
      (sym (slice_get-map (λ a. operand_of lines a) asked i) ∙ at_first) in
      let y = got_mapped (λ a. operand_of lines a) (slice_get asked j) second
      (sym (slice_get-map (λ a. operand_of lines a) asked j) ∙ at_second) in
      subst (λ o. ComesBefore o second) x.2
      (subst (λ o. ComesBefore (operand_of lines x.0) o) y.2 (rises i j x.0 y.0 less x.1 y.1))

  pub question_ready : (nodes : ℕ) → NamesNodes nodes lines → (task : Strips) (action : Option ℕ)
      → Contains (asked_actions task lines q.acts) action
      → IsReady (count_of lines q.family nodes) (query_of lines q action)
  question_ready nodes known task action there = record {
    named = all_from (λ o. IsNamed (count_of lines q.family nodes) o.which)
        (map (λ a. operand_of lines a) q.positive ++ map (λ a. operand_of lines a) q.negative)
        (λ o c. let w = from_operand action o c in
        subst (λ (x : Operand). IsNamed (count_of lines q.family nodes) x.which) w.3
        (operand_named nodes known w.0 w.1 w.2));
    one_set = λ o p c d same.
        let w = from_operand action o c in
        let v = from_operand action p d in
        let ids : w.1.0 ≡ v.1.0 = ap (λ (x : Operand). x.id) w.3
        ∙ (same ∙ sym (ap (λ (x : Operand). x.id) v.3)) in
        sym (ap (λ (x : Operand). x.which) w.3)
        ∙ (ap (which_at lines) ids ∙ ap (λ (x : Operand). x.which) v.3);
    before = λ none. all_from (λ o. o.after ≡ false)
        (map (λ a. operand_of lines a) q.positive ++ map (λ a. operand_of lines a) q.negative)
        (λ o c.
        let w = from_operand action o c in
        let acts : q.acts ≡ None = no_acts task lines q.acts
        (subst (Contains (asked_actions task lines q.acts)) none there) in
        let b1 : word ≡ W.B1 = (subst (HasSides lines word left right) acts is.sides).0 in
        sym (ap (λ (x : Operand). x.after) w.3) ∙ not_after w.0 w.1 b1 w.2);
    positive_rises = rises_mapped q.positive is.positive_rises;
    negative_rises = rises_mapped q.negative is.negative_rises;
  }
