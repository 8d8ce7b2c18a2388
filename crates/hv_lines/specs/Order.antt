-- The tests of a line of a proof, in their order, and the reason that the first failed one gives.
use Rattle.std.specs.Prelude.{◌≡◌, ◌<◌, ℕ, [], option_map}
use Rattle.hv_lines.specs.declared.reason.Clash.{Clash}
use Rattle.hv_lines.specs.declared.reason.Reason.{Reason}
use Rattle.hv_lines.specs.declared.reason.Reason.TheVariants as R

-- what a line is tested for
pub data Test : Type 0 where
  -- it isn't too long
  Length : Test
  -- it is in the proof text
  Spelling : Test
  -- its identifier is the number of earlier lines of its letter
  Number : Test
  -- all that it refers to is there
  Reference : Test
  -- its clauses are of the family of its formula
  Family : Test
  -- its derivation rule fits
  Rule : Test
  -- its basic statement has the shape of its word
  Shape : Test
  -- its basic statement is offered
  Offered : Test
  -- its basic statement is within the budget
  Budget : Test
  -- its basic statement is true
  Truth : Test

-- the place of a test in the order: the tests are made by rising rank
abbrev pub rank : Test → ℕ
rank Length = 0
rank Spelling = 1
rank Number = 2
rank Reference = 3
rank Family = 4
rank Rule = 5
rank Shape = 6
rank Offered = 7
rank Budget = 8
rank Truth = 9

-- the reason that a failed test gives; that of the last one names one of these counterexamples
abbrev pub Gives : (Clash → Type 0) → Test → Reason → Type 0
Gives IsShown Length reason = reason ≡ R.Long
Gives IsShown Spelling reason = reason ≡ R.Grammar
Gives IsShown Number reason = reason ≡ R.Number
Gives IsShown Reference reason = reason ≡ R.Unknown
Gives IsShown Family reason = reason ≡ R.Family
Gives IsShown Rule reason = reason ≡ R.Rule
Gives IsShown Shape reason = reason ≡ R.Shape
Gives IsShown Offered reason = reason ≡ R.NotOffered
Gives IsShown Budget reason = reason ≡ R.Budget
Gives IsShown Truth reason = (clash : Clash) × (reason ≡ R.False clash) × IsShown clash

-- a reason, where these tests are passed and these counterexamples are shown: its test fails, and
-- each test of lower rank is passed
abbrev pub IsReasonBy : (Test → Type 0) → (Clash → Type 0) → Reason → Type 0
IsReasonBy Passes IsShown reason =
    (test : Test) × Gives IsShown test reason × (Passes test → ⊥)
    × ((lower : Test) → rank lower < rank test → Passes lower)

-- the reason without the state of its counterexample: its word, its action, and whether a state is
-- named
abbrev pub without_state : Reason → Reason
without_state R.Long = R.Long
without_state R.Grammar = R.Grammar
without_state R.Number = R.Number
without_state R.Unknown = R.Unknown
without_state R.Family = R.Family
without_state R.Rule = R.Rule
without_state R.Shape = R.Shape
without_state R.NotOffered = R.NotOffered
without_state R.Budget = R.Budget
without_state (R.False clash) = R.False (record {
  action = clash.action;
  state = option_map (λ _. []) clash.state;
})
