-- The codes of where the literals of one sign stand.
use Rattle.std.specs.Prelude.{◌≡◌, ℕ, Bool, List}
use Rattle.std.specs.List.{Contains}
use Rattle.hv_sets.specs.declared.literal.Literal.{Literal}
use Rattle.hv_indexes.specs.Rows.{code}

-- the code of an atom that stands with this sign in the clause of this number
abbrev pub IsSignedCode : Bool → List Literal → ℕ → ℕ → Type 0
IsSignedCode sign clause number c =
    (atom : ℕ) × Contains clause (record { atom = atom; positive = sign }) × (c ≡ code atom number)
