-- Working definitions beside those of `TableState`: for private contracts and proofs.
use Rattle.std.specs.Prelude.{◌≡◌, ◌<◌, ◌-◌, ℕ, List, Some, Vec, length, slice_get, slice_index}
use Rattle.std.specs.Prelude.{vec_len, vec_capacity}
use Rattle.hv_lines.specs.Numbering.{acts_count, acts_at, expr_count, expr_at, known_count}
use Rattle.hv_lines.specs.Numbering.{statement_at, word_at, premises_at, IsTable}
use Rattle.hv_lines.specs.declared.line.Acts.{Acts}
use Rattle.hv_lines.specs.declared.line.Expr.{Expr}
use Rattle.hv_lines.specs.declared.line.Line.{Line}
use Rattle.hv_lines.specs.declared.line.Line.TheVariants as L
use Rattle.hv_lines.specs.declared.line.Statement.{Statement}
use Rattle.hv_lines.specs.declared.line.Word.{Word}

-- how many further items the vector holds without growing
abbrev pub room_of : {X Z : Type 0} → Vec X Z → ℕ
room_of v = vec_capacity v - vec_len v

-- the line is the `a` line with this identifier
abbrev pub IsActsLine : List Line → ℕ → Line → Type 0
IsActsLine lines id line = (acts : Acts) × (line ≡ L.Acts id acts) × (acts_at lines id ≡ Some acts)

-- the line is the `e` line with this identifier
abbrev pub IsExprLine : List Line → ℕ → Line → Type 0
IsExprLine lines id line = (expr : Expr) × (line ≡ L.Expr id expr) × (expr_at lines id ≡ Some expr)

-- the line is the `k` line with this identifier
abbrev pub IsKnownLine : List Line → ℕ → Line → Type 0
IsKnownLine lines id line =
    (statement : Statement) × (word : Word) × (premises : List ℕ)
    × (line ≡ L.Known id statement word premises)
    × (statement_at lines id ≡ Some statement) × (word_at lines id ≡ Some word)
    × (premises_at lines id ≡ Some premises)

-- the list of places leads from each identifier to its line among the lines in the order in which
-- they were pushed
abbrev pub LeadsToLines : List Line → List ℕ → (ℕ → Line → Type 0) → Type 0
LeadsToLines pushed places IsLine =
    (id : ℕ) → id < length places → (line : Line)
    × (slice_get pushed (slice_index places id) ≡ Some line) × IsLine id line

-- the lines in the order in which they were pushed and with the newest first, and the places of
-- each letter's lines
pub record IsIndexed (pushed lines : List Line) (acts exprs knowns : List ℕ) : Type 0 where
  pub table : IsTable lines
  pub acts_length : length acts ≡ acts_count lines
  pub exprs_length : length exprs ≡ expr_count lines
  pub knowns_length : length knowns ≡ known_count lines
  pub acts_found : LeadsToLines pushed acts (IsActsLine lines)
  pub exprs_found : LeadsToLines pushed exprs (IsExprLine lines)
  pub knowns_found : LeadsToLines pushed knowns (IsKnownLine lines)
