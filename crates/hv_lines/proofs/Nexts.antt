-- A good line that claims something, or names a set that is made of earlier ones, may come next in
-- a draft: it is short.
use Rattle.std.proofs.Common.{ℕ, ◌≤◌, List, length, arith}
use Rattle.hv_task.specs.Strips.{Strips}
use Rattle.hv_lines.specs.Drafts.{IsGoodNext, draft_setting}
use Rattle.hv_lines.specs.Good.{IsGood}
use Rattle.hv_lines.specs.Order as O
use Rattle.hv_lines.specs.Setting.{Setting}
use Rattle.hv_lines.specs.Spelling.{ExprFits, FitsDecimal, fields_of, word_field}
use Rattle.hv_lines.specs.declared.line.Expr.{Expr}
use Rattle.hv_lines.specs.declared.line.Expr.TheVariants as E
use Rattle.hv_lines.specs.declared.line.Line.{Line}
use Rattle.hv_lines.specs.declared.line.Line.TheVariants as L
use Rattle.hv_lines.specs.declared.line.Statement.{Statement}
use Rattle.hv_lines.specs.declared.line.Word.{Word}
use Rattle.hv_lines.proofs.Lengths.{constant_short, decimal_short, light_known, short_by, weight}
use Rattle.hv_lines.proofs.WordTable.{premises_few, word_plain}

-- a constant, a node, or a set that is made of earlier ones
abbrev pub IsMade : Expr → Type 0
IsMade (E.Constant constant) = Unit {0}
IsMade (E.Horn clauses) = ⊥
IsMade (E.Dual clauses) = ⊥
IsMade (E.Two clauses) = ⊥
IsMade (E.States states) = ⊥
IsMade (E.Node node) = Unit {0}
IsMade (E.Not set) = Unit {0}
IsMade (E.And left right) = Unit {0}
IsMade (E.Or left right) = Unit {0}
IsMade (E.After set by) = Unit {0}
IsMade (E.Before set by) = Unit {0}

-- the fields of such a set, and of a claim, have few bytes

pub light_made : (id : ℕ) (expr : Expr) → IsMade expr → FitsDecimal id → ExprFits expr
    → weight (fields_of (L.Expr id expr)) ≤ 200
light_made id (E.Constant constant) made at fits = omega
    (arith, decimal_short id at, constant_short constant)
light_made id (E.Horn clauses) made at fits = absurd made
light_made id (E.Dual clauses) made at fits = absurd made
light_made id (E.Two clauses) made at fits = absurd made
light_made id (E.States states) made at fits = absurd made
light_made id (E.Node node) made at fits = omega
    (arith, decimal_short id at, decimal_short node (omega (arith, fits)))
light_made id (E.Not set) made at fits = omega (arith, decimal_short id at, decimal_short set fits)
light_made id (E.And left right) made at fits = omega
    (arith, decimal_short id at, decimal_short left fits.0, decimal_short right fits.1)
light_made id (E.Or left right) made at fits = omega
    (arith, decimal_short id at, decimal_short left fits.0, decimal_short right fits.1)
light_made id (E.After set acts) made at fits = omega
    (arith, decimal_short id at, decimal_short set fits.0, decimal_short acts fits.1)
light_made id (E.Before set acts) made at fits = omega
    (arith, decimal_short id at, decimal_short set fits.0, decimal_short acts fits.1)

two_bytes : (word : Word) → length (word_field word) ≤ 2
two_bytes word = let plain = word_plain word in rw plain.two (omega arith)

pub light_claim : (setting : Setting) (lines : List Line) (id : ℕ) (statement : Statement)
    (word : Word) (premises : List ℕ)
    → IsGood setting lines (L.Known id statement word premises)
    → weight (fields_of (L.Known id statement word premises)) ≤ 200
light_claim setting lines id statement word premises good =
    let spelled = good O.Spelling in
    light_known id statement word premises spelled.0 spelled.1 spelled.2 (two_bytes word)
    (premises_few statement word (length premises) spelled.3)

module _ (task : Strips) (lines : List Line) where
  pub next_made : (id : ℕ) (expr : Expr) → IsMade expr
      → IsGood (draft_setting task) lines (L.Expr id expr)
      → IsGoodNext task lines (L.Expr id expr)
  next_made id expr made good = record {
    good = good;
    short =
        let spelled = good O.Spelling in
        short_by (L.Expr id expr) (omega (arith, light_made id expr made spelled.0 spelled.1));
  }

  pub next_claim : (id : ℕ) (statement : Statement) (word : Word) (premises : List ℕ)
      → IsGood (draft_setting task) lines (L.Known id statement word premises)
      → IsGoodNext task lines (L.Known id statement word premises)
  next_claim id statement word premises good = record {
    good = good;
    short = short_by (L.Known id statement word premises)
        (omega (arith, light_claim (draft_setting task) lines id statement word premises good));
  }
