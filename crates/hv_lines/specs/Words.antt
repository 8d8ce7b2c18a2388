-- The table of words: each with its spelling, the statements after which it may be, how many
-- premises it has, and whether it is a rule.
use Rattle.std.specs.Prelude.{ℕ, List, Bool, true, false, codes}
use Rattle.hv_lines.specs.declared.line.Statement.{Statement}
use Rattle.hv_lines.specs.declared.line.Statement.TheVariants as T
use Rattle.hv_lines.specs.declared.line.Word.{Word}
use Rattle.hv_lines.specs.declared.line.Word.TheVariants as W
use Rattle.hv_lines.specs.declared.words.StatementKind.{StatementKind}
use Rattle.hv_lines.specs.declared.words.StatementKind.TheVariants as K
use Rattle.hv_lines.specs.declared.words.WordRow.{WordRow}

-- a kind of basic statement: it has no premises
abbrev pub basic_row : List ℕ → StatementKind → WordRow
basic_row spelling after =
    record { spelling = spelling; after = after; premises = 0; is_rule = false }

-- a derivation rule, with as many premises
abbrev pub rule_row : List ℕ → StatementKind → ℕ → WordRow
rule_row spelling after premises =
    record { spelling = spelling; after = after; premises = premises; is_rule = true }

-- the table: the row of each word
abbrev pub word_row : Word → WordRow
word_row W.B1 = basic_row (codes "b1") K.Sub
word_row W.B2 = basic_row (codes "b2") K.Sub
word_row W.B3 = basic_row (codes "b3") K.Sub
word_row W.B4 = basic_row (codes "b4") K.Sub
word_row W.B5 = basic_row (codes "b5") K.ActSub
word_row W.Ed = rule_row (codes "ed") K.Dead 0
word_row W.Ud = rule_row (codes "ud") K.Dead 2
word_row W.Sd = rule_row (codes "sd") K.Dead 2
word_row W.Pg = rule_row (codes "pg") K.Dead 3
word_row W.Pi = rule_row (codes "pi") K.Dead 3
word_row W.Rg = rule_row (codes "rg") K.Dead 3
word_row W.Ri = rule_row (codes "ri") K.Dead 3
word_row W.Ci = rule_row (codes "ci") K.Unsolvable 1
word_row W.Cg = rule_row (codes "cg") K.Unsolvable 1
word_row W.Ur = rule_row (codes "ur") K.Sub 0
word_row W.Ul = rule_row (codes "ul") K.Sub 0
word_row W.Ir = rule_row (codes "ir") K.Sub 0
word_row W.Il = rule_row (codes "il") K.Sub 0
word_row W.Di = rule_row (codes "di") K.Sub 0
word_row W.Su = rule_row (codes "su") K.Sub 2
word_row W.Si = rule_row (codes "si") K.Sub 2
word_row W.St = rule_row (codes "st") K.Sub 2
word_row W.At = rule_row (codes "at") K.Sub 2
word_row W.Au = rule_row (codes "au") K.Sub 2
word_row W.Pt = rule_row (codes "pt") K.Sub 2
word_row W.Pu = rule_row (codes "pu") K.Sub 2
word_row W.Pr = rule_row (codes "pr") K.Sub 1
word_row W.Rp = rule_row (codes "rp") K.Sub 1

-- the kind of a statement
abbrev pub kind_of_statement : Statement → StatementKind
kind_of_statement (T.Sub left right) = K.Sub
kind_of_statement (T.ActSub left right) = K.ActSub
kind_of_statement (T.Dead set) = K.Dead
kind_of_statement T.Unsolvable = K.Unsolvable

-- whether the two kinds of statements are one
abbrev pub is_kind : StatementKind → StatementKind → Bool
is_kind K.Sub K.Sub = true
is_kind K.ActSub K.ActSub = true
is_kind K.Dead K.Dead = true
is_kind K.Unsolvable K.Unsolvable = true
is_kind _ _ = false
