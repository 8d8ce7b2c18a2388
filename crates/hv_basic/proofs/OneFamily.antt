-- The one family of what is asked about, found one by one.
use Rattle.std.proofs.Common.{◌≡◌, ℕ, ◌<◌, ◌≤◌, ◌+◌, ◌∙◌, ◌⊎◌, List, Option, Some, None, length}
use Rattle.std.proofs.Common.{get_or, refl, sym, ap, subst, inl, inr, arith}
use Rattle.std.proofs.lemmas.List.Elements.{Contains-get_or}
use Rattle.std.proofs.lemmas.Option.{same_Some}
use Rattle.std.specs.List.{Contains}
use Rattle.hv_lines.specs.Numbering.{expr_at}
use Rattle.hv_lines.specs.Shapes.{IsOfFamily, IsWithinFamily, family_of}
use Rattle.hv_lines.specs.declared.formula_family.FormulaFamily.{FormulaFamily}
use Rattle.hv_lines.specs.declared.formula_family.FormulaFamily.TheVariants as F
use Rattle.hv_lines.specs.declared.line.Expr.{Expr}
use Rattle.hv_lines.specs.declared.line.Line.{Line}
use Rattle.hv_basic.specs.Sharing.{IsNoFormula}
use Rattle.hv_basic.specs.Working.Sharing.{AreOtherFamilies, IsFamilyBeside, IsFamilyWith}
use Rattle.hv_basic.specs.declared.signed_sets.Asking.{Asking}
use Rattle.hv_basic.proofs.Membership.{more}

-- the family of those at the places before one, and of what stood there before them
abbrev pub IsFamilyTo : List Line → List Asking → Option FormulaFamily → ℕ → Option FormulaFamily
    → Type 0
IsFamilyTo lines askings before i None =
    (before ≡ None)
    × ((k : ℕ) (d : Asking) → k < i → IsNoFormula lines (get_or askings k d).set)
IsFamilyTo lines askings before i (Some family) =
    ((k : ℕ) (d : Asking) → k < i → IsWithinFamily lines family (get_or askings k d).set)
    × ((before ≡ Some family) ⊎ ((before ≡ None)
    × ((asking : Asking) × Contains askings asking × IsOfFamily lines family asking.set)))

-- a formula of a family is within no other
one_alone : (lines : List Line) (set : ℕ) (family other : FormulaFamily)
    → IsWithinFamily lines other set → IsOfFamily lines family set → other ≡ family
one_alone lines set family other (x, found, inl none) (expr, at, is) =
    let one : x ≡ expr = cc (found, at) in
    let no_one : family_of expr ≡ None = subst (λ y. family_of y ≡ None) one none in
    absurd (cc (no_one, is))
one_alone lines set family other (x, found, inr some) (expr, at, is) =
    let one : x ≡ expr = cc (found, at) in
    let also : family_of expr ≡ Some other = subst (λ y. family_of y ≡ Some other) one some in
    sym (same_Some family other (sym is ∙ also))

module _ (lines : List Line) (askings : List Asking) (before : Option FormulaFamily) where
  pub first_none : (i : ℕ) → i ≡ 0 → (family : Option FormulaFamily) → before ≡ family
      → IsFamilyTo lines askings before i family
  first_none i start None is = (is, λ k d less. absurd (omega (arith, less, start)))
  first_none i start (Some family) is = (λ k d less. absurd (omega (arith, less, start)), inl is)

  module _ (i : ℕ) (within : i < length askings) (e : Asking) (expr : Expr)
      (at : expr_at lines (get_or askings i e).set ≡ Some expr) where
    here : Contains askings (get_or askings i e)
    here = Contains-get_or askings i e within

    pub family_more : (family next both : Option FormulaFamily) → next ≡ family_of expr
        → IsFamilyWith family next both → IsFamilyTo lines askings before i family
        → IsFamilyTo lines askings before (i + 1) both
    family_more None None both is with (none, all) =
        subst (IsFamilyTo lines askings before (i + 1)) (sym with) (
          none,
          more (λ (a : Asking). IsNoFormula lines a.set) askings i within all e
              (expr, at, sym is),
        )
    family_more None (Some next) both is with (none, all) =
        subst (IsFamilyTo lines askings before (i + 1)) (sym with) (
          more (λ (a : Asking). IsWithinFamily lines next a.set) askings i within
              (λ k d less. let old = all k d less in (old.0, old.1, inl old.2)) e
              (expr, at, inr (sym is)),
          inr (none, (get_or askings i e, here, (expr, at, sym is))),
        )
    family_more (Some family) None both is with (all, some) =
        subst (IsFamilyTo lines askings before (i + 1)) (sym with) (
          more (λ (a : Asking). IsWithinFamily lines family a.set) askings i within all e
              (expr, at, inl (sym is)),
          some,
        )
    family_more (Some family) (Some next) both is (same, with) (all, some) =
        subst (IsFamilyTo lines askings before (i + 1)) (sym with) (
          more (λ (a : Asking). IsWithinFamily lines family a.set) askings i within all e
              (expr, at, inr (sym is ∙ ap Some (sym same))),
          some,
        )

    -- a second family comes in
    two_beside : (family next other : FormulaFamily) → (family ≡ next → ⊥)
        → IsOfFamily lines next (get_or askings i e).set
        → (before ≡ Some family) ⊎ ((before ≡ None)
        × ((asking : Asking) × Contains askings asking × IsOfFamily lines family asking.set))
        → (b : Option FormulaFamily) → before ≡ b → IsFamilyBeside lines askings b other → ⊥
    two_beside family next other apart of (inl some) None is beside = absurd (cc (some, is))
    two_beside family next other apart of (inr (none, (a, has, first))) None is beside =
        apart (sym (one_alone lines a.set family other (beside.within a has) first)
        ∙ one_alone lines (get_or askings i e).set next other
        (beside.within (get_or askings i e) here) of)
    two_beside family next other apart of (inl some) (Some b) is beside =
        let same : family ≡ b = same_Some family b (sym some ∙ is) in
        apart (same ∙ (sym beside.0 ∙ one_alone lines (get_or askings i e).set next other
        (beside.1 (get_or askings i e) here) of))
    two_beside family next other apart of (inr (none, some)) (Some b) is beside =
        absurd (cc (none, is))

    pub family_fails : (family next : Option FormulaFamily) → next ≡ family_of expr
        → AreOtherFamilies family next → IsFamilyTo lines askings before i family
        → (other : FormulaFamily) → IsFamilyBeside lines askings before other → ⊥
    family_fails (Some family) (Some next) is apart (all, some) other beside =
        two_beside family next other apart (expr, at, sym is) some before refl beside
    family_fails None next is apart to other beside = apart
    family_fails (Some family) None is apart to other beside = apart

  module _ (i : ℕ) (size : length askings ≤ i) where
    -- where there is a family, it is that of all
    with_some : (family : FormulaFamily) → IsFamilyTo lines askings before i (Some family)
        → (b : Option FormulaFamily) → before ≡ b → IsFamilyBeside lines askings b family
    with_some family (all, inl some) None is = absurd (cc (some, is))
    with_some family (all, inr (none, some)) None is = record {
      within = λ asking has.
          subst (λ (a : Asking). IsWithinFamily lines family a.set) has.2
          (all has.0 asking (omega (arith, has.1, size)));
      some = inr some;
    }
    with_some family (all, inl some) (Some b) is = (
      same_Some family b (sym some ∙ is),
      λ asking has.
          subst (λ (a : Asking). IsWithinFamily lines family a.set) has.2
          (all has.0 asking (omega (arith, has.1, size))),
    )
    with_some family (all, inr (none, some)) (Some b) is = absurd (cc (none, is))

    pub family_whole : (family : Option FormulaFamily) (one : FormulaFamily) → family ≡ Some one
        → IsFamilyTo lines askings before i family → IsFamilyBeside lines askings before one
    family_whole family one is to =
        with_some one (subst (IsFamilyTo lines askings before i) is to) before refl

    with_none : (b : Option FormulaFamily) → before ≡ b
        → IsFamilyTo lines askings before i None → IsFamilyBeside lines askings b F.Horn
    with_none None is (none, all) = record {
      within = λ asking has.
          let no : IsNoFormula lines asking.set =
          subst (λ (a : Asking). IsNoFormula lines a.set) has.2
          (all has.0 asking (omega (arith, has.1, size))) in (no.0, no.1, inl no.2);
      some = inl refl;
    }
    with_none (Some b) is (none, all) = absurd (cc (none, is))

    pub constants_alone : (family : Option FormulaFamily) → family ≡ None
        → IsFamilyTo lines askings before i family
        → IsFamilyBeside lines askings before F.Horn
    constants_alone family is to =
        with_none before refl (subst (IsFamilyTo lines askings before i) is to)
