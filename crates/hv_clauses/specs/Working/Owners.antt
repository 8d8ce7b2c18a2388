-- Which positive operands of a query have a literal.
use Rattle.std.specs.Prelude.{◌≡◌, ◌<◌, ◌≤◌, ℕ, Bool, true, false, List, Some, length, map}
use Rattle.std.specs.Prelude.{slice_get, slice_index_or}
use Rattle.std.specs.List.{Contains}
use Rattle.std.specs.List.Sorted.{IsStrictlyIncreasing}
use Rattle.hv_sets.specs.declared.literal.Literal.{Literal}
use Rattle.hv_sets.specs.declared.operand.Operand.{Operand}
use Rattle.hv_clauses.specs.declared.literal_owners.ClauseOwners.{ClauseOwners}
use Rattle.hv_clauses.specs.declared.literal_owners.SignedOwners.{SignedOwners}
use Rattle.hv_indexes.specs.declared.rows.RowHead.{RowHead}
use Rattle.hv_clauses.specs.Working.Posed.{ProblemState, formulas}
use Rattle.hv_indexes.specs.Rows.{AreHeads, code, place_of_code}
use Rattle.hv_indexes.specs.Signed.{StandsAs}
use Rattle.hv_sets.specs.declared.operand.Which.TheVariants as W

-- the operand is a set of the store, and some clause of it has the literal
pub record HasLiteral (p : ProblemState) (operand : Operand) (literal : Literal) : Type 0 where
  pub number : ℕ
  pub which : operand.which ≡ W.Set number
  pub place : ℕ
  pub stands : StandsAs literal.positive (formulas p number) literal.atom place

-- some clause of the positive operand at this place has the literal
abbrev pub Owns : ProblemState → Literal → ℕ → Type 0
Owns p literal k =
    (operand : Operand) × (slice_get p.query.positive k ≡ Some operand)
    × HasLiteral p operand literal

-- the old codes are among the new ones, and so are those of which this is true
pub record Gains (Of : ℕ → Type 0) (old new : List ℕ) : Type 0 where
  pub kept : (c : ℕ) → Contains old c → Contains new c
  pub more : (c : ℕ) → Of c → Contains new c

-- the code is that of the key of some head, with this number
abbrev pub IsCodeOfHead : List RowHead → ℕ → ℕ → Type 0
IsCodeOfHead heads number c =
    (j : ℕ) × (j < length heads)
    × ((d : RowHead) → c ≡ code (slice_index_or heads j d).key number)

-- the codes of the literals of this sign that clauses of the operand have were put to the others
abbrev pub PutsOwner : ProblemState → Operand → Bool → ℕ → List ℕ → List ℕ → Type 0
PutsOwner p operand sign k old new =
    Gains (λ c. (atom : ℕ) × HasLiteral p operand (record { atom = atom; positive = sign })
    × (c ≡ code atom k)) old new

-- for each of the first so many positive operands the codes of the literals of this sign that its
-- clauses have are among these
abbrev pub ListsUpto : ProblemState → Bool → ℕ → List ℕ → Type 0
ListsUpto p sign bound codes =
    (k atom : ℕ) → k < bound → Owns p (record { atom = atom; positive = sign }) k
    → Contains codes (code atom k)

-- the lists have, for each literal of this sign, the places of the positive operands of which some
-- clause has it
pub record AreSignedOwners (p : ProblemState) (sign : Bool) (owners : SignedOwners) : Type 0 where
  pub codes : List ℕ
  pub rises : IsStrictlyIncreasing codes
  pub heads : AreHeads codes owners.heads.items
  pub places : owners.places.items ≡ map place_of_code codes
  pub few : length p.query.positive ≤ 4294967295
  pub all : ListsUpto p sign (length p.query.positive) codes

-- the lists for the literals of this sign
abbrev pub signed_owners : ClauseOwners → Bool → SignedOwners
signed_owners owners true = owners.positive
signed_owners owners false = owners.negative

-- the same of each sign
abbrev pub AreOwners : ProblemState → ClauseOwners → Type 0
AreOwners p owners = (sign : Bool) → AreSignedOwners p sign (signed_owners owners sign)
