-- A trail: what was found out about atoms, in order, as literals that are true, on top of what was
-- known before.
use Rattle.std.specs.Prelude.{◌≡◌, ◌++◌, ℕ, List, [], ◌∷◌, replicate, slice_set}
use Rattle.hv_sets.specs.declared.literal.Literal.{Literal}
use Rattle.hv_propagation.specs.Marks.{KeepsKnown, mark_for}

-- what was known before, as marks by atom, and the literals that were found true since, oldest
-- first
pub record Knowledge : Type 0 where
  pub roots : List ℕ
  pub trail : List Literal

-- the marks with each of these literals written, one after the other
abbrev pub written : List Literal → List ℕ → List ℕ
written [] marks = marks
written (l ∷ ls) marks = written ls (slice_set marks l.atom (mark_for l.positive))

-- the marks of so many atoms that say that these literals are true, and nothing else
abbrev pub marked : ℕ → List Literal → List ℕ
marked atoms literals = written literals (replicate atoms 0)

-- all that is known, as marks by atom
abbrev pub marks_of : Knowledge → List ℕ
marks_of knowledge = written knowledge.trail knowledge.roots

-- the trail goes on where it ended, and what was known stays known
pub record Grows (old new : Knowledge) : Type 0 where
  pub roots : new.roots ≡ old.roots
  pub more : (more : List Literal) × (new.trail ≡ old.trail ++ more)
  pub grows : KeepsKnown (marks_of old) (marks_of new)
