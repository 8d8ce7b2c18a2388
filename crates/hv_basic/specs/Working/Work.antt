-- Sets of identifiers that are still to be looked at, and the leaves that are found in them.
use Rattle.std.specs.Prelude.{◌≡◌, ◌<◌, ◌⊎◌, ◌↔◌, ◌++◌, ℕ, true, List, [], ◌∷◌, Option, None, Some}
use Rattle.std.specs.BTreeSet.{BTreeSet, contains}
use Rattle.std.specs.Ordering.{nat_cmp}
use Rattle.hv_lines.specs.Numbering.{expr_at}
use Rattle.hv_lines.specs.Shapes.{and_parts, or_parts}
use Rattle.hv_lines.specs.declared.line.Expr.{Expr}
use Rattle.hv_lines.specs.declared.line.Line.{Line}
use Rattle.hv_basic.specs.declared.leaves.Half.{Half}
use Rattle.hv_basic.specs.declared.leaves.Half.TheVariants as S

-- the parts of a set on this side of a statement: an intersection's on the left, a union's on the
-- right
abbrev pub parts_on : Half → Expr → Option (ℕ × ℕ)
parts_on S.Left expr = and_parts expr
parts_on S.Right expr = or_parts expr

-- the identifier is in the set
abbrev pub Has : BTreeSet ℕ → ℕ → Type 0
Has work id = contains nat_cmp work id ≡ true

-- the identifier was the greatest of the set, and was taken out
pub record IsTaken (old new : BTreeSet ℕ) (id : ℕ) : Type 0 where
  pub was : Has old id
  pub others : (other : ℕ) → Has old other → (other ≡ id) ⊎ Has new other
  pub back : (other : ℕ) → Has new other → Has old other × (other < id)

-- the two identifiers were added to the set
abbrev pub AreAdded : BTreeSet ℕ → BTreeSet ℕ → ℕ → ℕ → Type 0
AreAdded old new left right = (other : ℕ) → Has new other
    ↔ ((other ≡ left) ⊎ ((other ≡ right) ⊎ Has old other))

-- the set was looked at: it was kept as a leaf, or its two parts, which are older, were added to
-- the work
abbrev pub LookedAt : Option (ℕ × ℕ) → ℕ → BTreeSet ℕ → BTreeSet ℕ → List ℕ → List ℕ → Type 0
LookedAt None set old new found kept = (new ≡ old) × (kept ≡ found ++ set ∷ [])
LookedAt (Some parts) set old new found kept =
    AreAdded old new parts.0 parts.1 × (kept ≡ found) × (parts.0 < set) × (parts.1 < set)

-- the same of the set of an identifier, on this side of a statement
abbrev pub IsLookedAt : List Line → Half → ℕ → BTreeSet ℕ → BTreeSet ℕ → List ℕ → List ℕ → Type 0
IsLookedAt lines side set old new found kept =
    (expr : Expr) × (expr_at lines set ≡ Some expr)
    × LookedAt (parts_on side expr) set old new found kept
