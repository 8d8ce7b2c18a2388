-- Where a set of the left side has a clause each of whose literals puts a state into a set of the
-- right side, the left side is within the right one.
use Rattle.std.proofs.Common.{◌≡◌, ℕ, ◌∙◌, ◌⊎◌, Bool, true, false, not, List, [], ◌∷◌}
use Rattle.std.proofs.Common.{Option, Some, None, get_or, length, slice_get, refl, sym, ap}
use Rattle.std.proofs.Common.{subst, inl, inr, arith, Result, Ok, Err, OnOk}
use Rattle.std.proofs.lemmas.Bool.{and_from, and_parts, cond-false, false_from_ne_true}
use Rattle.std.proofs.lemmas.List.Folds.{list_any_at}
use Rattle.std.proofs.lemmas.Option.{same_Some, slice_get-get_or, slice_get-map}
use Rattle.std.specs.BTreeMap.{is_at}
use Rattle.std.specs.BTreeSet.{BTreeSet, Updates, contains}
use Rattle.std.specs.List.{Contains, list_all}
use Rattle.hv_task.specs.Strips.{atoms}
use Rattle.hv_sets.specs.Cubes.{opposite}
use Rattle.hv_sets.specs.Query.{action_of, asked, in_operand, in_which, is_clash, may_apply}
use Rattle.hv_sets.specs.Truth.{in_clause, in_clauses, in_literal}
use Rattle.hv_sets.specs.declared.literal.Literal.{Literal}
use Rattle.hv_sets.specs.declared.operand.Operand.{Operand}
use Rattle.hv_sets.specs.declared.query.Query.{Query}
use Rattle.hv_explicit.proofs.Anchored.{passes_at}
use Rattle.hv_propagation.proofs.Holding.{clause_found, opposite_is}
use Rattle.hv_lines.specs.Numbering.{expr_at}
use Rattle.hv_lines.specs.Queries.{PassesBudget, asked_actions, dual_in, has_of, horn_in, named_by}
use Rattle.hv_lines.specs.Queries.{operand_of, queries_of, query_of, two_in, which_at}
use Rattle.hv_lines.specs.Setting.{Setting}
use Rattle.hv_lines.specs.Shapes.{IsWithinFamily, QuestionState, family_of}
use Rattle.hv_lines.specs.Verdicts.{DecidesNothing}
use Rattle.hv_lines.specs.declared.formula_family.FormulaFamily.{FormulaFamily}
use Rattle.hv_lines.specs.declared.formula_family.FormulaFamily.TheVariants as F
use Rattle.hv_lines.specs.declared.line.Expr.{Expr}
use Rattle.hv_lines.specs.declared.line.Expr.TheVariants as E
use Rattle.hv_lines.specs.declared.line.Line.{Line}
use Rattle.hv_lines.proofs.Elements.{cons_cases, got_mapped, nothing_in}
use Rattle.hv_lines.proofs.Named.{counts_before, family_is, found_number, which_is}
use Rattle.hv_basic.specs.Sharing.{AreEnoughFor, IsAgainstSet, IsEnoughFor, IsNegatedIn}
use Rattle.hv_basic.specs.Sharing.{NamesLiteral, order, own_clauses}
use Rattle.hv_basic.specs.Working.Told.{HasEnough}
use Rattle.hv_basic.specs.declared.signed_sets.Leaf.{Leaf}
use Rattle.hv_basic.proofs.Ordering.{at_same}
use Rattle.hv_basic.proofs.Within.{map_has}

-- one literal more
pub literal_put : (old new : BTreeSet (ℕ × Bool)) (literal other : Literal)
    → Updates order old new (literal.atom, literal.positive) true → NamesLiteral new other
    → NamesLiteral old other ⊎ (literal ≡ other)
literal_put old new literal other updates has =
    by (is_at (order (literal.atom, literal.positive)) (other.atom, other.positive)) refl
  where
    by : (b : Bool)
        → is_at (order (literal.atom, literal.positive)) (other.atom, other.positive) ≡ b
        → NamesLiteral old other ⊎ (literal ≡ other)
    by true at =
        let same = at_same (literal.atom, literal.positive) (other.atom, other.positive) at in
        let atom : literal.atom ≡ other.atom = ap (λ (p : ℕ × Bool). p.0) same in
        let sign : literal.positive ≡ other.positive = ap (λ (p : ℕ × Bool). p.1) same in
        inr (λ k. record { atom = atom k; positive = sign k })
    by false at =
        inl (sym (cond-false
        (is_at (order (literal.atom, literal.positive)) (other.atom, other.positive)) true
        (contains order old (other.atom, other.positive)) at)
        ∙ (sym (updates.0 (other.atom, other.positive)) ∙ has))

-- what was put in has what follows too
pub put_weaker : {T E : Type 0} (r : Result T E) (old new : BTreeSet (ℕ × Bool))
    (P Q : Literal → Type 0) → ((literal : Literal) → P literal → Q literal)
    → OnOk r ((literal : Literal) → NamesLiteral new literal → NamesLiteral old literal ⊎ P literal)
    → OnOk r ((literal : Literal) → NamesLiteral new literal → NamesLiteral old literal ⊎ Q literal)
put_weaker (Ok one) old new P Q more known = λ literal has.
    elim (known literal has) [
      | inl was ↦ inl was
      | inr own ↦ inr (more literal own)
    ]
put_weaker (Err e) old new P Q more known = tt

-- a list of one
pub one_of : {X : Type 0} (xs : List X) (x : X) → length xs ≡ 1 → slice_get xs 0 ≡ Some x
    → xs ≡ x ∷ []
one_of [] x size at = absurd (omega (arith, size))
one_of (y ∷ []) x size at = ap (λ z. z ∷ []) (same_Some y x at)
one_of (y ∷ z ∷ xs) x size at = absurd (omega (arith, size))

pub only_first : {X : Type 0} (xs : List X) (d : X) → length xs ≡ 1 → xs ≡ get_or xs 0 d ∷ []
only_first xs d size = one_of xs (get_or xs 0 d) size (slice_get-get_or xs 0 d (omega (arith, size)))

module _ (setting : Setting) (lines : List Line) (family : FormulaFamily) (state : List Bool) where
  abbrev is_in : ℕ → Bool
  is_in set = in_which setting.task (has_of setting lines family) (which_at lines set) state

  abbrev HasClauses : ℕ → Expr → List (List Literal) → FormulaFamily → Type 0
  HasClauses set expr clauses by =
      in_which setting.task (has_of setting lines by) (named_by (counts_before lines set) expr) state
      ≡ in_clauses clauses state

  named_clauses : (set : ℕ) (expr : Expr) (clauses : List (List Literal))
      → expr_at lines set ≡ Some expr → own_clauses expr ≡ Some clauses
      → (family_of expr ≡ None) ⊎ (family_of expr ≡ Some family)
      → HasClauses set expr clauses family
  named_clauses set (E.Horn xs) clauses at is of =
      let found = (found_number horn_in lines set (E.Horn xs) xs [] at refl).1 in
      subst (HasClauses set (E.Horn xs) clauses) (family_is F.Horn family of)
      (ap (λ c. in_clauses c state) (found ∙ same_Some xs clauses is))
  named_clauses set (E.Dual xs) clauses at is of =
      let found = (found_number dual_in lines set (E.Dual xs) xs [] at refl).1 in
      subst (HasClauses set (E.Dual xs) clauses) (family_is F.Dual family of)
      (ap (λ c. in_clauses c state) (found ∙ same_Some xs clauses is))
  named_clauses set (E.Two xs) clauses at is of =
      let found = (found_number two_in lines set (E.Two xs) xs [] at refl).1 in
      subst (HasClauses set (E.Two xs) clauses) (family_is F.Two family of)
      (ap (λ c. in_clauses c state) (found ∙ same_Some xs clauses is))
  named_clauses set (E.Constant x) clauses at is of = absurd (cc (is))
  named_clauses set (E.States x) clauses at is of = absurd (cc (is))
  named_clauses set (E.Node x) clauses at is of = absurd (cc (is))
  named_clauses set (E.Not x) clauses at is of = absurd (cc (is))
  named_clauses set (E.And x y) clauses at is of = absurd (cc (is))
  named_clauses set (E.Or x y) clauses at is of = absurd (cc (is))
  named_clauses set (E.After x y) clauses at is of = absurd (cc (is))
  named_clauses set (E.Before x y) clauses at is of = absurd (cc (is))

  -- a state is in a formula in clauses where its clauses are true
  pub in_formula : (set : ℕ) (expr : Expr) (clauses : List (List Literal))
      → expr_at lines set ≡ Some expr → own_clauses expr ≡ Some clauses
      → IsWithinFamily lines family set → is_in set ≡ in_clauses clauses state
  in_formula set expr clauses at is (other, other_at, of) =
      ap (λ w. in_which setting.task (has_of setting lines family) w state)
      (which_is lines set expr at)
      ∙ named_clauses set expr clauses at is
      (subst (λ x. (family_of x ≡ None) ⊎ (family_of x ≡ Some family))
      (same_Some other expr (sym other_at ∙ at)) of)

  -- a literal that is enough puts a state in which it is true into the set
  by_literal : (set : ℕ) (literal : Literal) → IsEnoughFor lines set literal
      → IsWithinFamily lines family set → in_literal literal state ≡ true → is_in set ≡ true
  by_literal set literal (expr, at, (clauses, is, (clause, lone, (k, below, here)))) within holds =
      in_formula set expr clauses at is within
      ∙ (ap (λ cs. in_clauses cs state) lone
      ∙ and_from (in_clause clause state) (in_clauses [] state)
      (list_any_at (λ (l : Literal). in_literal l state) clause k literal below
      (ap (λ (l : Literal). in_literal l state) here ∙ holds)) refl)

  -- and one that is against the set puts it out of it
  pub by_opposite : (set : ℕ) (literal : Literal) → IsAgainstSet lines set literal
      → IsWithinFamily lines family set → in_literal literal state ≡ true → is_in set ≡ true → ⊥
  by_opposite set literal (expr, at, (clauses, is, among)) within holds inside =
      let all = sym (in_formula set expr clauses at is within) ∙ inside in
      let clause = passes_at (λ c. in_clause c state) clauses (opposite literal ∷ []) all among in
      let found = clause_found (opposite literal ∷ []) state clause in
      let same : opposite literal ≡ found.0 = elim (cons_cases (opposite literal) [] found.0 found.1)
      [ inl is ↦ is | inr none ↦ absurd (nothing_in found.0 none) ] in
      let turned : not (in_literal literal state) ≡ true = sym (opposite_is literal state)
      ∙ (ap (λ (l : Literal). in_literal l state) same ∙ found.2) in
      let both : not true ≡ true = subst (λ b. not b ≡ true) holds turned in
      absurd (cc (both))

module _ (setting : Setting) (lines : List Line) (q : QuestionState) (own : ℕ) (after : Bool)
    (leaves : List Leaf) (literals : BTreeSet (ℕ × Bool))
    (asked_for : Contains q.positive (own, after))
    (enough : AreEnoughFor lines after q.negative leaves literals)
    (negated : (set : ℕ) → IsNegatedIn leaves set → Contains q.positive (set, after))
    (within : (set : ℕ) → Contains q.positive (set, after) ⊎ Contains q.negative (set, after)
    → IsWithinFamily lines q.family set)
    (has : HasEnough lines own literals) where
  abbrev sets : ℕ → List Bool → Bool
  sets = has_of setting lines q.family

  -- the set has a state only where that is in a negative one too, or out of a positive one
  into : (state : List Bool)
      → ((set : ℕ) → Contains q.positive (set, after) → is_in setting lines q.family state set ≡ true)
      → (set : ℕ) × Contains q.negative (set, after)
      × (is_in setting lines q.family state set ≡ true)
  into state inside =
      let clauses = sym (in_formula setting lines q.family state own has.expr has.clauses has.at
      has.of (within own (inl asked_for))) ∙ inside own asked_for in
      let clause = passes_at (λ c. in_clause c state) has.clauses has.clause clauses has.among in
      let found = clause_found has.clause state clause in
      elim (enough found.0 (has.enough found.0 found.1)) [
        | inl (set, c, of) ↦ (
          set,
          c,
          by_literal setting lines q.family state set found.0 of (within set (inr c)) found.2,
        )
        | inr (set, c, against) ↦
            absurd (by_opposite setting lines q.family state set found.0 against
            (within set (inl (negated set c))) found.2 (inside set (negated set c)))
      ]

  enough_clash : (action : Option ℕ) (state : List Bool)
      → is_clash setting.task sets (query_of lines q action) state ≡ false
  enough_clash action state =
      let query = query_of lines q action in
      let by = action_of setting.task action in
      let inside : Operand → Bool = λ p. in_operand setting.task sets by state p in
      false_from_ne_true (is_clash setting.task sets query state) (λ yes.
      let parts = and_parts (may_apply by state) _ yes in
      let sides = and_parts (list_all inside query.positive) _ parts.1 in
      let there = into (asked by after state) (λ set c.
      passes_at inside query.positive (operand_of lines (set, after)) sides.0
      (map_has (λ a. operand_of lines a) q.positive (set, after) c)) in
      let out = passes_at (λ p. not (inside p)) query.negative (operand_of lines (there.0, after))
      sides.1 (map_has (λ a. operand_of lines a) q.negative (there.0, after) there.1) in
      let both : not true ≡ true = subst (λ b. not b ≡ true) there.2 out in
      absurd (cc (both)))

  pub enough_decided : ((action : Option ℕ) → PassesBudget setting lines q.family
      (query_of lines q action) → ⊥)
      → (place : ℕ) (query : Query)
      → slice_get (queries_of setting.task lines q) place ≡ Some query
      → DecidesNothing (PassesBudget setting lines q.family)
      (is_clash setting.task sets) (atoms setting.task) query
  enough_decided free place query at =
      let actions = asked_actions setting.task lines q.acts in
      let w = got_mapped (query_of lines q) (slice_get actions place) query
      (sym (slice_get-map (query_of lines q) actions place) ∙ at) in
      subst (DecidesNothing (PassesBudget setting lines q.family)
      (is_clash setting.task sets) (atoms setting.task)) w.2
      (free w.0, λ state size. enough_clash w.0 state)
