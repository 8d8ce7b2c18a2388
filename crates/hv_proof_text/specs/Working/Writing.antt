-- A text that grows by fields.
use Rattle.std.specs.Prelude.{◌≡◌, ℕ, List, ◌∷◌, ◌++◌, fold}

-- the text, and behind it each field with a space before it
abbrev pub with_fields : List ℕ → List (List ℕ) → List ℕ
with_fields text fields = fold (λ t field. t ++ 32 ∷ field) text fields

-- the text begins with these bytes
pub record HasFront (front text : List ℕ) : Type 0 where
  pub rest : List ℕ
  pub same : text ≡ front ++ rest

-- what the old text begins with, the new one begins with too
abbrev pub KeepsFronts : List ℕ → List ℕ → Type 0
KeepsFronts old new = (front : List ℕ) → HasFront front old → HasFront front new
