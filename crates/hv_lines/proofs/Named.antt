-- What operands name: the set of their identifier.
use Rattle.std.proofs.Common.{◌≡◌, ℕ, ◌<◌, ◌∙◌, ◌⊎◌, ◌↔◌, ◌++◌, Bool, true, false, List, [], ◌∷◌}
use Rattle.std.proofs.Common.{Some, None, cond, eqb, length, get_or, refl, sym, ap, subst, inl, inr}
use Rattle.std.proofs.Common.{arith}
use Rattle.std.proofs.lemmas.Bool.{eq-eqb, ne_eqb, cond-true, cond-false}
use Rattle.std.proofs.lemmas.Option.{same_Some}
use Rattle.std.proofs.lemmas.List.{get_or_push, get_or_append_left, length-append}
use Rattle.hv_task.specs.Strips.{atoms, start_state}
use Rattle.hv_task.proofs.Places.{beq-Decides}
use Rattle.hv_sets.specs.Query.{in_which}
use Rattle.hv_sets.specs.Truth.{in_clauses, in_states}
use Rattle.hv_sets.specs.declared.operand.Which.{Which}
use Rattle.hv_sets.proofs.Listed.{in_states-Decides}
use Rattle.hv_lines.specs.Literals.{IsPlainExpr}
use Rattle.hv_lines.specs.Meaning.{acts_of, holds, sets_of}
use Rattle.hv_lines.specs.Numbering.{IsTable, expr_at}
use Rattle.hv_lines.specs.Queries.{collected, dual_in, horn_in, two_in, listed_in}
use Rattle.hv_lines.specs.Queries.{count_of, named_by, which_at, has_of}
use Rattle.hv_lines.specs.Setting.{Setting}
use Rattle.hv_lines.specs.Shapes.{family_of}
use Rattle.hv_lines.specs.declared.formula_family.FormulaFamily.{FormulaFamily}
use Rattle.hv_lines.specs.declared.formula_family.FormulaFamily.TheVariants as F
use Rattle.hv_lines.specs.declared.line.Constant.TheVariants as C
use Rattle.hv_lines.specs.declared.line.Expr.{Expr}
use Rattle.hv_lines.specs.declared.line.Expr.TheVariants as E
use Rattle.hv_lines.specs.declared.line.Line.{Line}
use Rattle.hv_lines.specs.declared.line.Line.TheVariants as L
use Rattle.hv_lines.proofs.Laws.{found_cases, set_in, set_out}

module _ {Formula : Type 0} where
  pushed : (xs ys : List Formula) (x d : Formula) (n : ℕ) → n ≡ length xs → ys ≡ x ∷ []
      → (n < length (xs ++ ys)) × (get_or (xs ++ ys) n d ≡ x)
  pushed xs ys x d n size is =
      subst (λ zs. (n < length (xs ++ zs)) × (get_or (xs ++ zs) n d ≡ x)) (sym is)
      (omega (arith, size, length-append xs (x ∷ [])), get_or_push xs x d n (sym size))

  kept : (xs ys : List Formula) (x d : Formula) (n m : ℕ) → m ≡ n → n < length xs
      → get_or xs n d ≡ x
      → (m < length (xs ++ ys)) × (get_or (xs ++ ys) m d ≡ x)
  kept xs ys x d n m same within is =
      subst (λ k. (k < length (xs ++ ys)) × (get_or (xs ++ ys) k d ≡ x)) (sym same)
      (omega (arith, within, length-append xs ys), get_or_append_left xs ys d n within ∙ is)

-- the lines before the `e` line with this identifier
abbrev pub older_than : List Line → ℕ → List Line
older_than [] wanted = []
older_than (L.Acts id acts ∷ older) wanted = older_than older wanted
older_than (L.Expr id expr ∷ older) wanted = cond (eqb wanted id) older (older_than older wanted)
older_than (L.Known id statement word premises ∷ older) wanted = older_than older wanted

module _ {Formula : Type 0} (formula_in : Expr → List Formula) where
  -- how many formulas of the kind the lines before that of this identifier have
  abbrev pub count_before : List Line → ℕ → ℕ
  count_before lines wanted = length (collected formula_in (older_than lines wanted))

  -- a formula is in the store at the number of formulas before it
  pub found_number : (lines : List Line) (id : ℕ) (expr : Expr) (x d : Formula)
      → expr_at lines id ≡ Some expr → formula_in expr ≡ x ∷ []
      → (count_before lines id < length (collected formula_in lines))
      × (get_or (collected formula_in lines) (count_before lines id) d ≡ x)
  found_number [] id expr x d at is = absurd (cc (at))
  found_number (L.Acts own acts ∷ older) id expr x d at is = found_number older id expr x d at is
  found_number (L.Expr own y ∷ older) id expr x d at is =
      elim (found_cases id own y expr (expr_at older id) at) [
        | inl here ↦
            pushed (collected formula_in older) (formula_in y) x d
            (count_before (L.Expr own y ∷ older) id)
            (ap (λ ls. length (collected formula_in ls)) (cond-true (eqb id own) older
            (older_than older id) (eq-eqb id own here.0)))
            (ap formula_in here.1 ∙ is)
        | inr there ↦
            let before = found_number older id expr x d there.1 is in
            kept (collected formula_in older) (formula_in y) x d (count_before older id)
            (count_before (L.Expr own y ∷ older) id)
            (ap (λ ls. length (collected formula_in ls)) (cond-false (eqb id own) older
            (older_than older id) (ne_eqb id own there.0)))
            before.0 before.1
      ]
  found_number (L.Known own st w ps ∷ older) id expr x d at is = found_number older id expr x d at
      is

-- how many sets the stores have where the line of this identifier follows
abbrev pub counts_before : List Line → ℕ → FormulaFamily → ℕ
counts_before lines id family = count_of (older_than lines id) family 0

-- what is named at a place: by the counts there
pub which_is : (lines : List Line) (id : ℕ) (expr : Expr) → expr_at lines id ≡ Some expr
    → which_at lines id ≡ named_by (counts_before lines id) expr
which_is [] id expr at = absurd (cc (at))
which_is (L.Acts own acts ∷ older) id expr at = which_is older id expr at
which_is (L.Expr own y ∷ older) id expr at =
    let new = named_by (λ family. count_of older family 0) y in
    let Named : List Line → Which = λ ls. named_by (λ family. count_of ls family 0) expr in
    elim (found_cases id own y expr (expr_at older id) at) [
      | inl here ↦
          cond-true (eqb id own) new (which_at older id) (eq-eqb id own here.0)
          ∙ (ap (named_by (λ family. count_of older family 0)) here.1
          ∙ sym (ap Named (cond-true (eqb id own) older (older_than older id)
          (eq-eqb id own here.0))))
      | inr there ↦
          cond-false (eqb id own) new (which_at older id) (ne_eqb id own there.0)
          ∙ (which_is older id expr there.1
          ∙ sym (ap Named (cond-false (eqb id own) older (older_than older id)
          (ne_eqb id own there.0))))
    ]
which_is (L.Known own st w ps ∷ older) id expr at = which_is older id expr at

-- of a formula of one family that is within a family, that is the family
pub family_is : (own family : FormulaFamily)
    → (Some own ≡ None) ⊎ (Some own ≡ Some family) → own ≡ family
family_is own family (inl none) = absurd (cc (none))
family_is own family (inr some) = same_Some own family some

module _ (setting : Setting) (lines : List Line) where
  -- a formula or constant of the family is in a store as its line says
  abbrev IsInStore : ℕ → Expr → List Bool → FormulaFamily → Type 0
  IsInStore id expr state family =
      (in_which setting.task (has_of setting lines family)
      (named_by (counts_before lines id) expr) state ≡ true)
      ↔ holds setting.task setting.nodes (acts_of lines) (sets_of setting.task setting.nodes lines)
      expr state

  plain_holds : (family : FormulaFamily) (id : ℕ) (expr : Expr) → expr_at lines id ≡ Some expr
      → IsPlainExpr expr
      → (family_of expr ≡ None) ⊎ (family_of expr ≡ Some family) → (state : List Bool)
      → IsInStore id expr state family
  plain_holds family id (E.Constant C.Empty) at plain of state =
      (λ e. let h : false ≡ true = e in absurd (cc (h)), λ h. absurd h)
  plain_holds family id (E.Constant C.Start) at plain of state =
      let same = beq-Decides (start_state setting.task) state in
      (λ e. sym (same.0 e), λ h. same.1 (sym h))
  plain_holds family id (E.Constant C.Goal) at plain of state = (λ e. e, λ e. e)
  plain_holds family id (E.Horn clauses) at plain of state =
      let found = (found_number horn_in lines id (E.Horn clauses) clauses [] at refl).1 in
      let same = ap (λ cs. in_clauses cs state) found in
      subst (IsInStore id (E.Horn clauses) state) (family_is F.Horn family of)
      (λ e. sym same ∙ e, λ e. same ∙ e)
  plain_holds family id (E.Dual clauses) at plain of state =
      let found = (found_number dual_in lines id (E.Dual clauses) clauses [] at refl).1 in
      let same = ap (λ cs. in_clauses cs state) found in
      subst (IsInStore id (E.Dual clauses) state) (family_is F.Dual family of)
      (λ e. sym same ∙ e, λ e. same ∙ e)
  plain_holds family id (E.Two clauses) at plain of state =
      let found = (found_number two_in lines id (E.Two clauses) clauses [] at refl).1 in
      let same = ap (λ cs. in_clauses cs state) found in
      subst (IsInStore id (E.Two clauses) state) (family_is F.Two family of)
      (λ e. sym same ∙ e, λ e. same ∙ e)
  plain_holds family id (E.States states) at plain of state =
      let found = (found_number listed_in lines id (E.States states) states [] at refl).1 in
      let same = ap (λ xs. in_states (atoms setting.task) xs state) found in
      let tells = in_states-Decides (atoms setting.task) states state in
      subst (IsInStore id (E.States states) state) (family_is F.States family of)
      (λ e. tells.0 (sym same ∙ e), λ h. same ∙ tells.1 h)
  plain_holds family id (E.Node node) at plain of state =
      subst (IsInStore id (E.Node node) state) (family_is F.Node family of) (λ e. e, λ e. e)
  plain_holds family id (E.Not set) at plain of state = elim plain
      [ inl formula ↦ absurd formula | inr constant ↦ absurd constant ]
  plain_holds family id (E.And x y) at plain of state = elim plain
      [ inl formula ↦ absurd formula | inr constant ↦ absurd constant ]
  plain_holds family id (E.Or x y) at plain of state = elim plain
      [ inl formula ↦ absurd formula | inr constant ↦ absurd constant ]
  plain_holds family id (E.After x y) at plain of state = elim plain
      [ inl formula ↦ absurd formula | inr constant ↦ absurd constant ]
  plain_holds family id (E.Before x y) at plain of state = elim plain
      [ inl formula ↦ absurd formula | inr constant ↦ absurd constant ]

  -- an operand names the states of its identifier
  pub plain_in : (family : FormulaFamily) (id : ℕ) (expr : Expr) → IsTable lines
      → expr_at lines id ≡ Some expr → IsPlainExpr expr
      → (family_of expr ≡ None) ⊎ (family_of expr ≡ Some family) → (state : List Bool)
      → (in_which setting.task (has_of setting lines family) (which_at lines id) state ≡ true)
      ↔ sets_of setting.task setting.nodes lines id state
  plain_in family id expr table at plain of state =
      let named = which_is lines id expr at in
      let is = plain_holds family id expr at plain of state in
      let Inside : Which → Type 0 = λ w. in_which setting.task (has_of setting lines family) w state
      ≡ true in (
        λ e. set_in setting.task setting.nodes lines id expr table at state
            (is.0 (subst Inside named e)),
        λ h. subst Inside (sym named) (is.1 (set_out setting.task setting.nodes lines id expr table
            at state h)),
      )
