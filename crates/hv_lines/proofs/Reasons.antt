-- Reasons by rank: how a line comes by its reason, that it has one alone, and what a good line is.
use Rattle.std.proofs.Common.{◌≡◌, ℕ, zero, suc, ◌+◌, ◌<◌, ◌∙◌, List, inl, inr, refl, sym, ap}
use Rattle.std.proofs.Common.{subst, arith, lit<}
use Rattle.std.proofs.Math.Nat.{eq-or-lt_of_le}
use Rattle.std.proofs.lemmas.Bool.Decides.{leb_tells}
use Rattle.hv_lines.specs.Good.{FamilyFits, HasNotVerdict, HasVerdictTrue, IsGood, IsKnown}
use Rattle.hv_lines.specs.Good.{IsRefutedBy, LinePasses, RuleHolds, WhereBasic}
use Rattle.hv_lines.specs.Working.Good.{IsFormed, IsReasonOf}
use Rattle.hv_lines.specs.Numbering.{MayFollow, IsNumbered}
use Rattle.hv_lines.specs.Order.{Test, Gives, IsReasonBy, rank, without_state}
use Rattle.hv_lines.specs.Order as O
use Rattle.hv_lines.specs.Setting.{Setting}
use Rattle.hv_lines.specs.Shapes.{HasShape}
use Rattle.hv_lines.specs.Spelling.{IsSpelled}
use Rattle.hv_lines.specs.declared.line.Line.{Line}
use Rattle.hv_lines.specs.declared.line.Line.TheVariants as L
use Rattle.hv_lines.specs.declared.reason.Clash.{Clash}
use Rattle.hv_lines.specs.declared.reason.Reason.{Reason}
use Rattle.hv_lines.specs.declared.reason.Reason.TheVariants as R
use Rattle.hv_lines.specs.declared.verdict.Verdict.TheVariants as V
use Rattle.hv_lines.proofs.Verdicts.{clash_once}

-- the test of a rank
test_at : ℕ → Test
test_at zero = O.Length
test_at (suc zero) = O.Spelling
test_at (suc (suc zero)) = O.Number
test_at (suc (suc (suc zero))) = O.Reference
test_at (suc (suc (suc (suc zero)))) = O.Family
test_at (suc (suc (suc (suc (suc zero))))) = O.Rule
test_at (suc (suc (suc (suc (suc (suc zero)))))) = O.Shape
test_at (suc (suc (suc (suc (suc (suc (suc zero))))))) = O.Offered
test_at (suc (suc (suc (suc (suc (suc (suc (suc zero)))))))) = O.Budget
test_at (suc (suc (suc (suc (suc (suc (suc (suc (suc rest))))))))) = O.Truth

test_at-rank : (test : Test) → test_at (rank test) ≡ test
unfolding test_at
test_at-rank O.Length = refl
test_at-rank O.Spelling = refl
test_at-rank O.Number = refl
test_at-rank O.Reference = refl
test_at-rank O.Family = refl
test_at-rank O.Rule = refl
test_at-rank O.Shape = refl
test_at-rank O.Offered = refl
test_at-rank O.Budget = refl
test_at-rank O.Truth = refl

-- no two tests have one rank
rank_once : (a b : Test) → rank a ≡ rank b → a ≡ b
rank_once a b e = sym (test_at-rank a) ∙ (ap test_at e ∙ test_at-rank b)

-- the last test is the one of greatest rank
rank_small : (test : Test) → rank test < rank O.Truth + 1
rank_small O.Length = lit< tt
rank_small O.Spelling = lit< tt
rank_small O.Number = lit< tt
rank_small O.Reference = lit< tt
rank_small O.Family = lit< tt
rank_small O.Rule = lit< tt
rank_small O.Shape = lit< tt
rank_small O.Offered = lit< tt
rank_small O.Budget = lit< tt
rank_small O.Truth = lit< tt

-- a test gives one reason, but for the state of a counterexample
module _ (IsShown : Clash → Type 0)
    (once : (a b : Clash) → IsShown a → IsShown b
    → without_state (R.False a) ≡ without_state (R.False b)) where
  alike : (r q reason : Reason) → r ≡ reason → q ≡ reason → without_state r ≡ without_state q
  alike r q reason x y = ap without_state (x ∙ sym y)

  gives_once : (test : Test) (r q : Reason) → Gives IsShown test r → Gives IsShown test q
      → without_state r ≡ without_state q
  gives_once O.Length r q x y = alike r q R.Long x y
  gives_once O.Spelling r q x y = alike r q R.Grammar x y
  gives_once O.Number r q x y = alike r q R.Number x y
  gives_once O.Reference r q x y = alike r q R.Unknown x y
  gives_once O.Family r q x y = alike r q R.Family x y
  gives_once O.Rule r q x y = alike r q R.Rule x y
  gives_once O.Shape r q x y = alike r q R.Shape x y
  gives_once O.Offered r q x y = alike r q R.NotOffered x y
  gives_once O.Budget r q x y = alike r q R.Budget x y
  gives_once O.Truth r q x y =
      ap without_state x.1 ∙ (once x.0 y.0 x.2 y.2 ∙ sym (ap without_state y.1))

module _ (Passes : Test → Type 0) where
  -- each test of lower rank than this number is passed
  abbrev pub PassesBelow : ℕ → Type 0
  PassesBelow bound = (lower : Test) → rank lower < bound → Passes lower

  pub below_none : PassesBelow 0
  below_none lower less = absurd (omega arith)

  pub below_next : (test : Test) → PassesBelow (rank test) → Passes test
      → PassesBelow (rank test + 1)
  below_next test before here lower less =
      elim (eq-or-lt_of_le (omega (arith, less))) [
        | inl same ↦ subst Passes (sym (rank_once lower test same)) here
        | inr lower_yet ↦ before lower lower_yet
      ]

  pub passes_all : PassesBelow (rank O.Truth + 1) → (test : Test) → Passes test
  passes_all before test = before test (rank_small test)

  module _ (IsShown : Clash → Type 0) where
    -- what passes each test has no reason
    pub no_reason : (reason : Reason) → IsReasonBy Passes IsShown reason
        → ((test : Test) → Passes test) → ⊥
    no_reason reason why all = why.2 (all why.0)

    -- one reason alone, but for the state of a counterexample
    pub reason_once : ((a b : Clash) → IsShown a → IsShown b
        → without_state (R.False a) ≡ without_state (R.False b))
        → (r q : Reason) → IsReasonBy Passes IsShown r → IsReasonBy Passes IsShown q
        → without_state r ≡ without_state q
    reason_once once r q x y =
        elim (leb_tells (rank x.0) (rank y.0)) [
          | inl w ↦ elim (eq-or-lt_of_le w.1) [
            | inl same ↦
                gives_once IsShown once y.0 r q (subst
                (λ t. Gives IsShown t r) (rank_once x.0 y.0 same) x.1) y.1
            | inr less ↦ absurd (x.2 (y.3 x.0 less))
          ]
          | inr w ↦ absurd (y.2 (x.3 y.0 w.1))
        ]

module _ (setting : Setting) (lines : List Line) (line : Line) where
  abbrev pub Upto : ℕ → Type 0
  Upto bound = PassesBelow (LinePasses setting lines line) bound

  next_test : (test : Test) → Upto (rank test) → LinePasses setting lines line test
      → Upto (rank test + 1)
  next_test test before here = below_next (LinePasses setting lines line) test before here

  upto_number : IsSpelled line → Upto 2
  upto_number spelled = next_test O.Spelling
      (next_test O.Length (below_none (LinePasses setting lines line)) tt) spelled

  upto_reference : IsSpelled line → IsNumbered lines line → Upto 3
  upto_reference spelled numbered = next_test O.Number (upto_number spelled) numbered

  upto_family : IsSpelled line → IsNumbered lines line
      → IsKnown setting.task setting.nodes lines line → Upto 4
  upto_family spelled numbered known = next_test O.Reference (upto_reference spelled numbered) known

  upto_rule : IsFormed setting lines line → Upto 5
  upto_rule formed =
      next_test O.Family (upto_family formed.spelled formed.numbered formed.known) formed.family

  upto_shape : IsFormed setting lines line → RuleHolds lines line → Upto 6
  upto_shape formed rule = next_test O.Rule (upto_rule formed) rule

  pub upto_offered : IsFormed setting lines line → RuleHolds lines line
      → WhereBasic (HasShape lines) line → Upto 7
  upto_offered formed rule shape = next_test O.Shape (upto_shape formed rule) shape

  pub upto_budget : IsFormed setting lines line → RuleHolds lines line
      → WhereBasic (HasShape lines) line
      → WhereBasic (HasNotVerdict setting lines V.NotOffered) line → Upto 8
  upto_budget formed rule shape offered = next_test O.Offered (upto_offered formed rule shape)
      offered

  pub upto_truth : IsFormed setting lines line → RuleHolds lines line
      → WhereBasic (HasShape lines) line
      → WhereBasic (HasNotVerdict setting lines V.NotOffered) line
      → WhereBasic (HasNotVerdict setting lines V.Over) line → Upto 9
  upto_truth formed rule shape offered within = next_test O.Budget
      (upto_budget formed rule shape offered) within

  -- the reason of a line, by the first test that it fails
  pub for_number : IsSpelled line → (IsNumbered lines line → ⊥)
      → IsReasonOf setting lines line R.Number
  for_number spelled failed = (O.Number, refl, failed, upto_number spelled)

  pub for_reference : IsSpelled line → IsNumbered lines line
      → (IsKnown setting.task setting.nodes lines line → ⊥)
      → IsReasonOf setting lines line R.Unknown
  for_reference spelled numbered failed =
      (O.Reference, refl, failed, upto_reference spelled numbered)

  pub for_family : IsSpelled line → IsNumbered lines line
      → IsKnown setting.task setting.nodes lines line
      → (FamilyFits line → ⊥) → IsReasonOf setting lines line R.Family
  for_family spelled numbered known failed =
      (O.Family, refl, failed, upto_family spelled numbered known)

  pub for_rule : IsFormed setting lines line → (RuleHolds lines line → ⊥)
      → IsReasonOf setting lines line R.Rule
  for_rule formed failed = (O.Rule, refl, failed, upto_rule formed)

  pub for_shape : IsFormed setting lines line → RuleHolds lines line
      → (WhereBasic (HasShape lines) line → ⊥) → IsReasonOf setting lines line R.Shape
  for_shape formed rule failed = (O.Shape, refl, failed, upto_shape formed rule)

  -- a line that passes each test
  pub good_line : IsFormed setting lines line → RuleHolds lines line
      → WhereBasic (HasShape lines) line
      → WhereBasic (HasNotVerdict setting lines V.NotOffered) line
      → WhereBasic (HasNotVerdict setting lines V.Over) line
      → WhereBasic (HasVerdictTrue setting lines) line → IsGood setting lines line
  good_line formed rule shape offered within true =
      passes_all (LinePasses setting lines line)
      (next_test O.Truth (upto_truth formed rule shape offered within) true)

  -- a good line may be after the lines before it
  pub good_next : IsGood setting lines line → MayFollow lines line
  good_next good = let known : IsKnown setting.task setting.nodes lines line = good O.Reference in
      record { numbered = good O.Number; back = known.0 }

  -- one reason of a line alone, but for the state of a counterexample
  refuted_once : (l : Line) (a b : Clash) → IsRefutedBy setting lines l a
      → IsRefutedBy setting lines l b
      → without_state (R.False a) ≡ without_state (R.False b)
  refuted_once (L.Acts id acts) a b x y = absurd x
  refuted_once (L.Expr id expr) a b x y = absurd x
  refuted_once (L.Known id statement word premises) a b x y = clash_once setting lines a b statement
      word x y

  pub clash_of_line_once : (a b : Clash) → IsRefutedBy setting lines line a
      → IsRefutedBy setting lines line b
      → without_state (R.False a) ≡ without_state (R.False b)
  clash_of_line_once a b x y = refuted_once line a b x y
