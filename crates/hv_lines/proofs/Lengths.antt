-- How long the spelling of a line is.
use Rattle.std.proofs.Common.{◌≡◌, ℕ, suc, ◌+◌, ◌*◌, ◌<◌, ◌≤◌, Bool, true, false, cond, List, []}
use Rattle.std.proofs.Common.{◌∷◌, ◌++◌, length, map, decimal, arith, length-append}
use Rattle.std.proofs.lemmas.Fmt.{length-decimal-le_wide}
use Rattle.std.proofs.lemmas.List.Elements.{All-head, All-tail}
use Rattle.std.specs.List.{All, flat_map, join_with_byte}
use Rattle.hv_sets.specs.declared.literal.Literal.{Literal}
use Rattle.hv_lines.specs.Drafts.{IsShortLine}
use Rattle.hv_lines.specs.Spelling.{FitsDecimal, StatementFits, clause_fields, constant_field}
use Rattle.hv_lines.specs.Spelling.{fields_of, literal_field, statement_fields, word_field}
use Rattle.hv_lines.specs.declared.line.Constant.{Constant}
use Rattle.hv_lines.specs.declared.line.Constant.TheVariants as C
use Rattle.hv_lines.specs.declared.line.Expr.TheVariants as E
use Rattle.hv_lines.specs.declared.line.Line.{Line}
use Rattle.hv_lines.specs.declared.line.Line.TheVariants as L
use Rattle.hv_lines.specs.declared.line.Statement.{Statement}
use Rattle.hv_lines.specs.declared.line.Statement.TheVariants as T
use Rattle.hv_lines.specs.declared.line.Word.{Word}

-- how many bytes the fields have, with one more for each
abbrev pub weight : List (List ℕ) → ℕ
weight [] = 0
weight (field ∷ fields) = suc (length field) + weight fields

pub weight-append : (fields more : List (List ℕ))
    → weight (fields ++ more) ≡ weight fields + weight more
weight-append [] more = omega arith
weight-append (field ∷ fields) more = omega (arith, weight-append fields more)

pub length-join : (fields : List (List ℕ)) → length (join_with_byte 32 fields) ≤ weight fields
length-join [] = omega arith
length-join (field ∷ []) = omega arith
length-join (field ∷ next ∷ fields) =
    omega (
      arith,
      length-append field (32 ∷ join_with_byte 32 (next ∷ fields)),
      length-join
          (next ∷ fields),
    )

-- a line whose fields are short is short
pub short_by : (line : Line) → weight (fields_of line) ≤ 16777216 → IsShortLine line
short_by line small = omega (arith, length-join (fields_of line))

pub decimal_short : (n : ℕ) → FitsDecimal n → length (decimal n) ≤ 18
decimal_short n fits = length-decimal-le_wide 18 n (omega arith) fits (omega arith)

decimals_short : (ns : List ℕ) → All FitsDecimal ns → weight (map decimal ns) ≤ 19 * length ns
decimals_short [] fit = omega arith
decimals_short (n ∷ ns) fit = omega (
  arith,
  decimal_short n (All-head FitsDecimal n ns fit),
  decimals_short ns (All-tail FitsDecimal n ns fit),
)

statement_short : (statement : Statement) → StatementFits statement
    → weight (statement_fields statement) ≤ 40
statement_short (T.Sub e f) fits = omega (arith, decimal_short e fits.0, decimal_short f fits.1)
statement_short (T.ActSub a b) fits = omega (arith, decimal_short a fits.0, decimal_short b fits.1)
statement_short (T.Dead e) fits = omega (arith, decimal_short e fits)
statement_short T.Unsolvable fits = omega arith

-- so are those of a line of a statement
pub light_known : (id : ℕ) (statement : Statement) (word : Word) (premises : List ℕ)
    → FitsDecimal id → StatementFits statement
    → All FitsDecimal premises → length (word_field word) ≤ 2 → length premises ≤ 3
    → weight (fields_of (L.Known id statement word premises)) ≤ 200
light_known id statement word premises at says fit named few =
    omega (
      arith,
      decimal_short id at,
      statement_short statement says,
      decimals_short premises fit,
      named,
      few,
      weight-append (statement_fields statement) (word_field word ∷ map decimal premises),
    )

pub constant_short : (constant : Constant) → length (constant_field constant) ≤ 1
constant_short C.Empty = omega arith
constant_short C.Start = omega arith
constant_short C.Goal = omega arith

-- a clause of at most two literals, whose atoms are those of a task
pub record IsSmall (clause : List Literal) : Type 0 where
  pub few : length clause ≤ 2
  pub atoms : All (λ l. l.atom < 65535) clause

literal_short : (literal : Literal) → literal.atom < 65535 → length (literal_field literal) ≤ 6
literal_short literal small = signed literal.positive
  where
    digits : length (decimal (literal.atom + 1)) ≤ 5
    digits = length-decimal-le_wide 5 (literal.atom + 1) (omega arith) (omega arith) (omega arith)

    signed : (b : Bool) → length (cond b (decimal (literal.atom + 1))
        (45 ∷ decimal (literal.atom + 1))) ≤ 6
    signed true = omega (arith, digits)
    signed false = omega (arith, digits)

clause_short : (clause : List Literal) → IsSmall clause → weight (clause_fields clause) ≤ 16
clause_short [] small = omega arith
clause_short (l ∷ []) small = omega (
  arith,
  literal_short l
      (All-head (λ x. x.atom < 65535) l [] small.atoms),
)
clause_short (l ∷ k ∷ []) small =
    omega (
      arith,
      literal_short l (All-head (λ x. x.atom < 65535) l (k ∷ []) small.atoms),
      literal_short k (All-head (λ x. x.atom < 65535) k []
          (All-tail (λ x. x.atom < 65535) l (k ∷ []) small.atoms)),
    )
clause_short (l ∷ k ∷ m ∷ rest) small = absurd (omega (arith, small.few))

pub clauses_short : (clauses : List (List Literal)) → All IsSmall clauses
    → weight (flat_map clause_fields clauses) ≤ 16 * length clauses
clauses_short [] small = omega arith
clauses_short (clause ∷ clauses) small =
    omega (
      arith,
      weight-append (clause_fields clause) (flat_map clause_fields clauses),
      clause_short clause (All-head IsSmall clause clauses small),
      clauses_short clauses (All-tail IsSmall clause clauses small),
    )

-- a formula of small clauses, no more than the default budget, is short

pub short_horn : (id : ℕ) (clauses : List (List Literal)) → FitsDecimal id → All IsSmall clauses
    → length clauses ≤ 1000000
    → IsShortLine (L.Expr id (E.Horn clauses))
short_horn id clauses at small few =
    short_by (L.Expr id (E.Horn clauses))
    (omega (
      arith,
      decimal_short id at,
      decimal_short (length clauses) (omega arith),
      clauses_short
          clauses small,
      few,
    ))

pub short_two : (id : ℕ) (clauses : List (List Literal)) → FitsDecimal id → All IsSmall clauses
    → length clauses ≤ 1000000
    → IsShortLine (L.Expr id (E.Two clauses))
short_two id clauses at small few =
    short_by (L.Expr id (E.Two clauses))
    (omega (
      arith,
      decimal_short id at,
      decimal_short (length clauses) (omega arith),
      clauses_short
          clauses small,
      few,
    ))
