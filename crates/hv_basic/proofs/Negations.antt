-- Negations that are kept of a right side, and what they ask.
use Rattle.std.proofs.Common.{◌≡◌, ℕ, ◌∙◌, ◌⊎◌, ◌++◌, Bool, false, List, [], ◌∷◌, Option, Some, None}
use Rattle.std.proofs.Common.{ap, inl, inr, refl, subst, sym}
use Rattle.std.proofs.lemmas.List.Elements.{Contains-append_left, Contains-push}
use Rattle.std.proofs.lemmas.List.Elements.{Contains-push_cases}
use Rattle.std.proofs.lemmas.Option.{same_Some}
use Rattle.std.specs.BTreeSet.{BTreeSet}
use Rattle.std.specs.Global.{Vec}
use Rattle.std.specs.List.{All, Contains}
use Rattle.std.specs.Option.{IfSome, MatchOption}
use Rattle.hv_sets.specs.declared.literal.Literal.{Literal}
use Rattle.hv_lines.specs.Literals.{IsLiteral, IsNegatedSet}
use Rattle.hv_lines.specs.Shapes.{Askings, IsLiteralOf, IsWithinFamily}
use Rattle.hv_lines.specs.declared.formula_family.FormulaFamily.{FormulaFamily}
use Rattle.hv_lines.specs.declared.line.Line.{Line}
use Rattle.hv_lines.proofs.Elements.{all_from, in_mapped}
use Rattle.hv_basic.specs.Leaves.{IsItsFamily, IsLeafRead, places}
use Rattle.hv_basic.specs.Sharing.{AreEnoughFor, AreNegations, IsAgainstSet, IsNegatedFamily}
use Rattle.hv_basic.specs.Sharing.{IsNegatedIn, IsNoFormula, IsPlainSide, NamesLiteral}
use Rattle.hv_basic.specs.Working.Gathered.{IsThe}
use Rattle.hv_basic.specs.Working.Sharing.{IsAddedTo, IsFamilyWith}
use Rattle.hv_basic.specs.declared.shared.Kept.{Kept}
use Rattle.hv_basic.specs.declared.signed_sets.Leaf.{Leaf}
use Rattle.hv_basic.specs.declared.signed_sets.SignedSet.{SignedSet}
use Rattle.hv_basic.proofs.Within.{map_has}

-- the identifier of a leaf
abbrev id_of : Leaf → ℕ
id_of leaf = leaf.place

-- what was read of a leaf that is a negation
pub negated_read : (lines : List Line) (leaf : Leaf) (literal : SignedSet)
    → leaf.literal ≡ Some literal → literal.is_plain ≡ false → IsLeafRead lines leaf
    → IsNegatedSet lines leaf.place
negated_read lines leaf literal found negated read =
    let is : IsLiteralOf lines leaf.place literal.set false =
    subst (IsLiteralOf lines leaf.place literal.set) negated
    (subst (λ l. MatchOption l (IsLiteral lines leaf.place → ⊥) (IsThe lines leaf.place)) found
    read.is) in
    (literal.set, is.0, is.1)

-- one negation more
pub negation_put : (leaf : Leaf) (kept : Kept) (enough : BTreeSet (ℕ × Bool)) (more : Vec Leaf)
    (both : Option FormulaFamily) → more.items ≡ kept.negations.items ++ leaf ∷ []
    → IsAddedTo leaf.place kept
    (record kept { enough = enough; negations = more; negated = both })
negation_put leaf kept enough more both is other = (
  elim [
    | inl has ↦ inl (inl has)
    | inr there ↦
        let w = in_mapped id_of more.items other there in
        elim (Contains-push_cases kept.negations.items leaf w.0
        (subst (λ xs. Contains xs w.0) is w.1)) [
          | inl was ↦
              inl (inr (subst (Contains (places kept.negations.items)) w.2
              (map_has id_of kept.negations.items w.0 was)))
          | inr same ↦ inr (ap id_of same ∙ w.2)
        ]
  ],
  elim [
    | inl (inl has) ↦ inl has
    | inl (inr there) ↦
        let w = in_mapped id_of kept.negations.items other there in
        inr (subst (Contains (places more.items)) w.2 (map_has id_of more.items w.0
        (subst (λ xs. Contains xs w.0) (sym is)
        (Contains-append_left kept.negations.items (leaf ∷ []) w.0 w.1))))
    | inr same ↦
        inr (subst (Contains (places more.items)) same (map_has id_of more.items leaf
        (subst (λ xs. Contains xs leaf) (sym is) (Contains-push kept.negations.items leaf))))
  ],
)

-- a leaf with one more
module _ (leaves : List Leaf) (leaf : Leaf) where
  negated_more : (set : ℕ) → IsNegatedIn leaves set → IsNegatedIn (leaves ++ leaf ∷ []) set
  negated_more set (own, c, is) = (own, Contains-append_left leaves (leaf ∷ []) own c, is)

  negated_cases : (set : ℕ) → IsNegatedIn (leaves ++ leaf ∷ []) set
      → IsNegatedIn leaves set
      ⊎ (leaf.literal ≡ Some (record { set = set; is_plain = false }))
  negated_cases set (own, c, is) = elim (Contains-push_cases leaves leaf own c) [
    | inl was ↦ inl (own, was, is)
    | inr same ↦ inr (ap (λ (l : Leaf). l.literal) same ∙ is)
  ]

module _ (lines : List Line) (leaves : List Leaf) (leaf : Leaf) (literal : SignedSet)
    (found : leaf.literal ≡ Some literal) (negated : literal.is_plain ≡ false)
    (read : IsLeafRead lines leaf) where
  own_family : IsItsFamily lines literal.set leaf.family
  own_family = subst (λ l. IfSome l (λ (x : SignedSet). IsItsFamily lines x.set leaf.family)) found
      read.family

  own_in : IsNegatedIn (leaves ++ leaf ∷ []) literal.set
  own_in = (
    leaf,
    Contains-push leaves leaf,
    found ∙ ap Some (λ i. record { set = literal.set; is_plain = negated i }),
  )

  own_set : (set : ℕ) → leaf.literal ≡ Some (record { set = set; is_plain = false })
      → literal.set ≡ set
  own_set set is =
      ap (λ (l : SignedSet). l.set)
      (same_Some literal (record { set = set; is_plain = false }) (sym found ∙ is))

  -- the family of the negations with one more
  pub negated_put : (family next both : Option FormulaFamily) → leaf.family ≡ next
      → IsNegatedFamily lines leaves family → IsFamilyWith family next both
      → IsNegatedFamily lines (leaves ++ leaf ∷ []) both
  negated_put None None both is none with =
      subst (IsNegatedFamily lines (leaves ++ leaf ∷ [])) (sym with)
      (λ set c. elim (negated_cases leaves leaf set c) [
        | inl was ↦ none set was
        | inr own ↦ subst (IsNoFormula lines) (own_set set own)
            (own_family.0, own_family.1, sym own_family.2 ∙ is)
      ])
  negated_put None (Some next) both is none with =
      subst (IsNegatedFamily lines (leaves ++ leaf ∷ [])) (sym with) (
        λ set c. elim (negated_cases leaves leaf set c) [
          | inl was ↦ let no = none set was in (no.0, no.1, inl no.2)
          | inr own ↦ subst (IsWithinFamily lines next) (own_set set own)
              (own_family.0, own_family.1, inr (sym own_family.2 ∙ is))
        ],
        (literal.set, own_in, (own_family.0, own_family.1, sym own_family.2 ∙ is)),
      )
  negated_put (Some family) None both is (within, (some, has, of)) with =
      subst (IsNegatedFamily lines (leaves ++ leaf ∷ [])) (sym with) (
        λ set c. elim (negated_cases leaves leaf set c) [
          | inl was ↦ within set was
          | inr own ↦ subst (IsWithinFamily lines family) (own_set set own)
              (own_family.0, own_family.1, inl (sym own_family.2 ∙ is))
        ],
        (some, negated_more leaves leaf some has, of),
      )
  negated_put (Some family) (Some next) both is (within, (some, has, of)) (equal, with) =
      subst (IsNegatedFamily lines (leaves ++ leaf ∷ [])) (sym with) (
        λ set c. elim (negated_cases leaves leaf set c) [
          | inl was ↦ within set was
          | inr own ↦ subst (IsWithinFamily lines family) (own_set set own)
              (own_family.0, own_family.1, inr (sym own_family.2 ∙ (is ∙ ap Some (sym equal))))
        ],
        (some, negated_more leaves leaf some has, of),
      )

  -- what is enough with one more
  pub enough_put : (after : Bool) (asked : Askings) (old new : BTreeSet (ℕ × Bool))
      → AreEnoughFor lines after asked leaves old
      → ((other : Literal) → NamesLiteral new other
      → NamesLiteral old other ⊎ IsAgainstSet lines literal.set other)
      → AreEnoughFor lines after asked (leaves ++ leaf ∷ []) new
  enough_put after asked old new are put other has = elim (put other has) [
    | inl was ↦ elim (are other was) [
      | inl own ↦ inl own
      | inr (set, c, against) ↦ inr (set, negated_more leaves leaf set c, against)
    ]
    | inr own ↦ inr (literal.set, own_in, own)
  ]

  pub negations_put : AreNegations lines leaves → AreNegations lines (leaves ++ leaf ∷ [])
  negations_put are other c = elim (Contains-push_cases leaves leaf other c) [
    | inl was ↦ are other was
    | inr same ↦ subst (λ (x : Leaf). IsNegatedSet lines x.place × IsLeafRead lines x) same
        (negated_read lines leaf literal found negated read, read)
  ]

-- what is kept with one negation more
pub negation_side : (lines : List Line) (kept : Kept) (enough : BTreeSet (ℕ × Bool)) (more : Vec Leaf)
    (leaf : Leaf) (literal : SignedSet) (both : Option FormulaFamily) → IsPlainSide lines kept
    → leaf.literal ≡ Some literal → literal.is_plain ≡ false → IsLeafRead lines leaf
    → IsFamilyWith kept.negated leaf.family both
    → ((other : Literal) → NamesLiteral enough other
    → NamesLiteral kept.enough other ⊎ IsAgainstSet lines literal.set other)
    → more.items ≡ kept.negations.items ++ leaf ∷ []
    → IsPlainSide lines (record kept { enough = enough; negations = more; negated = both })
negation_side lines kept enough more leaf literal both side found sign read with put is =
    let leaves = kept.negations.items in
    record {
      plain = side.plain;
      ways = side.ways;
      enough = subst (λ ls. AreEnoughFor lines kept.after kept.question.negative.items ls enough)
          (sym is) (enough_put lines leaves leaf literal found sign read kept.after
          kept.question.negative.items kept.enough enough side.enough put);
      negations = subst (AreNegations lines) (sym is)
          (negations_put lines leaves leaf literal found sign read side.negations);
      negated = subst (λ ls. IsNegatedFamily lines ls both) (sym is)
          (negated_put lines leaves leaf literal found sign read kept.negated leaf.family both refl
          side.negated with);
      named = side.named;
    }

-- what was read of negations
pub negations_read : (lines : List Line) (leaves : List Leaf) → AreNegations lines leaves
    → All (IsLeafRead lines) leaves
negations_read lines leaves are = all_from (IsLeafRead lines) leaves (λ leaf c. (are leaf c).1)
