-- What is known after each of some literals was assumed.
use Rattle.std.specs.Prelude.{◌≡◌, ◌<◌, ◌≤◌, ℕ, Bool, true, false, List, [], length, take}
use Rattle.std.specs.Prelude.{slice_index_or}
use Rattle.hv_sets.specs.declared.literal.Literal.{Literal}
use Rattle.hv_sets.specs.Truth.{in_clauses, in_cube}
use Rattle.hv_formula.specs.Clausal.{FormulaState}
use Rattle.hv_propagation.specs.Marks.{over, Agrees}
use Rattle.hv_propagation.specs.Chase.{AreKept}
use Rattle.hv_propagation.specs.Trail.{Knowledge, marks_of}

-- what was known when the trail was so long
abbrev pub knowledge_upto : Knowledge → ℕ → Knowledge
knowledge_upto knowledge len = record { roots = knowledge.roots; trail = take len knowledge.trail }

-- Nothing is left to follow up of what is known. It is so in each state of the cube of the literals
-- that meets the condition, and each state in which it is so is in that cube.
pub record FollowsFrom (Met : List Bool → Type 0) (Left : Knowledge → ℕ → Type 0)
    (knowledge : Knowledge) (literals : List Literal) : Type 0 where
  pub left : Left knowledge (length knowledge.trail)
  pub follows : (state : List Bool) → length state ≡ length knowledge.roots → Met state
      → in_cube literals state ≡ true → Agrees (marks_of knowledge) state
  pub has : (state : List Bool) → length state ≡ length knowledge.roots
      → Agrees (marks_of knowledge) state → in_cube literals state ≡ true

-- Some first literals of what is assumed, from which all follows that is known; and the same before
-- each literal that was put on the trail, which others aren't that were known when they were
-- assumed. How long the trail was before such a literal is a start, and with each literal that is
-- assumed stands how many starts were before it.
pub record FollowsFromEach (Met : List Bool → Type 0) (Left : Knowledge → ℕ → Type 0)
    (knowledge : Knowledge) (place : ℕ) (starts : List ℕ) (literals : List Literal)
    (counts : List ℕ) (broken clashes : Bool) : Type 0 where
  pub firm : ℕ
  pub firm_within : firm ≤ length literals
  pub firm_counts : (i : ℕ) → i < firm → slice_index_or counts i 0 < length starts
  pub sizes : length counts ≡ length literals
  pub counts_rise : (i j : ℕ) → i ≤ j → j < length counts
      → slice_index_or counts i 0 ≤ slice_index_or counts j 0
  pub counts_within : (i : ℕ) → i < length counts → slice_index_or counts i 0 ≤ length starts
  pub starts_rise : (i j : ℕ) → i ≤ j → j < length starts
      → slice_index_or starts i 0 ≤ slice_index_or starts j 0
  pub starts_within : (i : ℕ) → i < length starts
      → slice_index_or starts i 0 ≤ length knowledge.trail
  -- before a literal that was put on the trail all was followed up
  pub before : (i : ℕ) → i < length counts → slice_index_or counts i 0 < length starts
      → FollowsFrom Met Left
      (knowledge_upto knowledge (slice_index_or starts (slice_index_or counts i 0) 0))
      (take i literals)
  -- what is left to follow up, and what is known
  pub place_within : place ≤ length knowledge.trail
  pub left : broken ≡ false → Left knowledge place
  pub follows : (state : List Bool) → length state ≡ length knowledge.roots → Met state
      → in_cube (take firm literals) state ≡ true → Agrees (marks_of knowledge) state
  pub has : broken ≡ false → (i : ℕ) → i ≤ length literals → (clashes ≡ true → i < length literals)
      → (state : List Bool) → length state ≡ length knowledge.roots
      → Agrees (marks_of knowledge) state → in_cube (take i literals) state ≡ true
  -- where no state is left
  pub none : broken ≡ true → (state : List Bool) → length state ≡ length knowledge.roots
      → Met state → in_cube (take firm literals) state ≡ true → ⊥
  pub none_here : clashes ≡ true → (state : List Bool) → length state ≡ length knowledge.roots
      → Met state → in_cube literals state ≡ true → ⊥

-- a question about a formula: what is known after each literal that is assumed
pub record IsAskedAlong (formula : FormulaState) (knowledge : Knowledge) (place : ℕ)
    (starts : List ℕ) (literals : List Literal) (counts : List ℕ)
    (broken clashes : Bool) : Type 0 where
  pub size : length knowledge.roots ≡ formula.atoms
  pub each : FollowsFromEach (λ state. in_clauses formula.clauses (over [] state) ≡ true)
      (AreKept [] formula.clauses) knowledge place starts literals counts broken clashes
