-- The fields of a line are those of its tokens, and no two lines have the same.
use Rattle.std.proofs.Common.{◌≡◌, ℕ, ◌+◌, ◌<◌, ◌^◌, ◌∙◌, inl, inr, Bool, true, false, cond, List}
use Rattle.std.proofs.Common.{[], ◌∷◌, ◌++◌, length, map, drop, get_or, Option, Some, None}
use Rattle.std.proofs.Common.{MatchOption, unwrap_or, codes, decimal, refl, sym, ap, subst, arith}
use Rattle.std.proofs.lemmas.Fmt.{decimal_digit}
use Rattle.std.proofs.lemmas.List.{map-append}
use Rattle.std.proofs.lemmas.List.Elements.{All-nil, All-cons, All-head, All-tail, All-append}
use Rattle.std.proofs.lemmas.List.Elements.{All-map, All-weaker}
use Rattle.std.proofs.lemmas.List.Splits.{join_with_byte-slice_split}
use Rattle.std.specs.List.{All, flat_map, join_with_byte}
use Rattle.hv_sets.specs.declared.literal.Literal.{Literal}
use Rattle.hv_lines.specs.Spelling.{FitsDecimal, FitsShortDecimal, IsRising, FitsLiteral, IsSkipped}
use Rattle.hv_lines.specs.Spelling.{IsSpelled, ActsFit, ExprFits, StatementFits, Spells}
use Rattle.hv_lines.specs.Spelling.{acts_fields, clause_fields, expr_fields, fields_of}
use Rattle.hv_lines.specs.Spelling.{literal_field, spelling_of, state_fields, statement_fields}
use Rattle.hv_lines.specs.Spelling.{word_field}
use Rattle.hv_lines.specs.declared.line.Acts.{Acts}
use Rattle.hv_lines.specs.declared.line.Acts.TheVariants as A
use Rattle.hv_lines.specs.declared.line.Constant.{Constant}
use Rattle.hv_lines.specs.declared.line.Constant.TheVariants as C
use Rattle.hv_lines.specs.declared.line.Expr.{Expr}
use Rattle.hv_lines.specs.declared.line.Expr.TheVariants as E
use Rattle.hv_lines.specs.declared.line.Line.{Line}
use Rattle.hv_lines.specs.declared.line.Line.TheVariants as N
use Rattle.hv_lines.specs.declared.line.Statement.{Statement}
use Rattle.hv_lines.specs.declared.line.Statement.TheVariants as S
use Rattle.hv_lines.specs.declared.line.Word.{Word}
use Rattle.hv_lines.specs.declared.line.Word.TheVariants as W
use Rattle.hv_proof_text.specs.declared.token.Letter.{Letter}
use Rattle.hv_proof_text.specs.declared.token.Letter.TheVariants as L
use Rattle.hv_proof_text.specs.declared.token.Token.{Token}
use Rattle.hv_proof_text.specs.declared.token.Token.TheVariants as T
use Rattle.hv_bytes.specs.Fields.{cut_fields}
use Rattle.hv_proof_text.specs.Working.Tokens.{AreTokens, IsToken, SpellsTokens, acts_tokens}
use Rattle.hv_proof_text.specs.Working.Tokens.{clause_tokens, constant_letter, expr_tokens}
use Rattle.hv_proof_text.specs.Working.Tokens.{field_of, letter, literal_token, number}
use Rattle.hv_proof_text.specs.Working.Tokens.{state_tokens, statement_tokens, tokens_of}
use Rattle.hv_proof_text.proofs.Decoding.{cut_joined, same_tokens}
use Rattle.hv_proof_text.proofs.Gathered.{peel}
use Rattle.hv_proof_text.proofs.LineForms.{line_found, line_in, line_out}
use Rattle.hv_proof_text.specs.Working.Forms.{LineForm}
use Rattle.hv_proof_text.specs.Working.Gathering.{StandFor, clauses_from, states_from}
use Rattle.hv_proof_text.proofs.TokenLists.{clauses_only, states_only}

-- the tokens of a line have its fields

fields_of_numbers : (ns : List ℕ) → map field_of (map number ns) ≡ map decimal ns
fields_of_numbers [] = refl
fields_of_numbers (n ∷ ns) = ap (λ fs. decimal n ∷ fs) (fields_of_numbers ns)

fields_of_acts : (acts : Acts) → map field_of (acts_tokens acts) ≡ acts_fields acts
fields_of_acts A.All = refl
fields_of_acts (A.List actions) = ap (λ fs. codes "b" ∷ decimal (length actions) ∷ fs)
    (fields_of_numbers actions)
fields_of_acts (A.Both left right) = refl

field_by_sign : (b : Bool) (n : ℕ) → field_of (cond b (T.Number n) (T.Minus n))
    ≡ cond b (decimal n) (45 ∷ decimal n)
field_by_sign true n = refl
field_by_sign false n = refl

fields_of_literals : (clause : List Literal)
    → map field_of (map literal_token clause) ≡ map literal_field clause
fields_of_literals [] = refl
fields_of_literals (l ∷ clause) =
    ap (λ f. f ∷ map field_of (map literal_token clause)) (field_by_sign l.positive (l.atom + 1))
    ∙ ap (λ fs. literal_field l ∷ fs) (fields_of_literals clause)

fields_of_clause : (clause : List Literal)
    → map field_of (clause_tokens clause) ≡ clause_fields clause
fields_of_clause clause =
    map-append field_of (map literal_token clause) (number 0 ∷ [])
    ∙ ap (λ fs. fs ++ decimal 0 ∷ []) (fields_of_literals clause)
    ∙ ap (λ f. map literal_field clause ++ f ∷ []) (decimal_digit 0 (omega arith))

fields_of_clauses : (clauses : List (List Literal))
    → map field_of (flat_map clause_tokens clauses) ≡ flat_map clause_fields clauses
fields_of_clauses [] = refl
fields_of_clauses (clause ∷ clauses) =
    map-append field_of (clause_tokens clause) (flat_map clause_tokens clauses)
    ∙ ap (λ fs. fs ++ map field_of (flat_map clause_tokens clauses)) (fields_of_clause clause)
    ∙ ap (λ fs. clause_fields clause ++ fs) (fields_of_clauses clauses)

fields_of_state : (state : List ℕ) → map field_of (state_tokens state) ≡ state_fields state
fields_of_state state =
    map-append field_of (map number state) (T.End ∷ [])
    ∙ ap (λ fs. fs ++ codes ";" ∷ []) (fields_of_numbers state)

fields_of_states : (states : List (List ℕ))
    → map field_of (flat_map state_tokens states) ≡ flat_map state_fields states
fields_of_states [] = refl
fields_of_states (state ∷ states) =
    map-append field_of (state_tokens state) (flat_map state_tokens states)
    ∙ ap (λ fs. fs ++ map field_of (flat_map state_tokens states)) (fields_of_state state)
    ∙ ap (λ fs. state_fields state ++ fs) (fields_of_states states)

fields_of_expr : (expr : Expr) → map field_of (expr_tokens expr) ≡ expr_fields expr
fields_of_expr (E.Constant C.Empty) = refl
fields_of_expr (E.Constant C.Start) = refl
fields_of_expr (E.Constant C.Goal) = refl
fields_of_expr (E.Horn clauses) = ap (λ fs. codes "h" ∷ decimal (length clauses) ∷ fs)
    (fields_of_clauses clauses)
fields_of_expr (E.Dual clauses) = ap (λ fs. codes "d" ∷ decimal (length clauses) ∷ fs)
    (fields_of_clauses clauses)
fields_of_expr (E.Two clauses) = ap (λ fs. codes "t" ∷ decimal (length clauses) ∷ fs)
    (fields_of_clauses clauses)
fields_of_expr (E.States states) = ap (λ fs. codes "x" ∷ decimal (length states) ∷ fs)
    (fields_of_states states)
fields_of_expr (E.Node node) = refl
fields_of_expr (E.Not set) = refl
fields_of_expr (E.And left right) = refl
fields_of_expr (E.Or left right) = refl
fields_of_expr (E.After set acts) = refl
fields_of_expr (E.Before set acts) = refl

fields_of_statement : (statement : Statement)
    → map field_of (statement_tokens statement) ≡ statement_fields statement
fields_of_statement (S.Sub left right) = refl
fields_of_statement (S.ActSub left right) = refl
fields_of_statement (S.Dead set) = refl
fields_of_statement S.Unsolvable = refl

pub fields_are : (line : Line) → map field_of (tokens_of line) ≡ fields_of line
fields_are (N.Acts id acts) = ap (λ fs. codes "a" ∷ decimal id ∷ fs) (fields_of_acts acts)
fields_are (N.Expr id expr) = ap (λ fs. codes "e" ∷ decimal id ∷ fs) (fields_of_expr expr)
fields_are (N.Known id statement word premises) =
    ap (λ fs. codes "k" ∷ decimal id ∷ fs)
    (map-append field_of (statement_tokens statement) (T.Word word ∷ map number premises)
    ∙ ap (λ fs. fs ++ word_field word ∷ map field_of (map number premises))
    (fields_of_statement statement)
    ∙ ap (λ fs. statement_fields statement ++ word_field word ∷ fs) (fields_of_numbers premises))

-- the numbers in the tokens of a line that has a spelling are short enough

short_numbers : (ns : List ℕ) → All FitsDecimal ns → All IsToken (map number ns)
short_numbers ns long = All-map IsToken number ns long

long_from_short : (ns : List ℕ) → All FitsShortDecimal ns → All FitsDecimal ns
long_from_short ns short = All-weaker FitsShortDecimal FitsDecimal (λ n less. omega arith) ns short

behind_letter : (l : Letter) (tokens : List Token) → All IsToken tokens
    → All IsToken (letter l ∷ tokens)
behind_letter l tokens short = All-cons IsToken (letter l) tokens tt short

behind_number : (n : ℕ) (tokens : List Token) → FitsDecimal n → All IsToken tokens
    → All IsToken (number n ∷ tokens)
behind_number n tokens long short = All-cons IsToken (number n) tokens long short

one_number : (n : ℕ) → FitsDecimal n → All IsToken (number n ∷ [])
one_number n long = behind_number n [] long (All-nil IsToken)

two_numbers : (m n : ℕ) → FitsDecimal m × FitsDecimal n → All IsToken (number m ∷ number n ∷ [])
two_numbers m n long = behind_number m (number n ∷ []) long.0 (one_number n long.1)

short_acts : (acts : Acts) → ActsFit acts → All IsToken (acts_tokens acts)
short_acts A.All fits = behind_letter L.A [] (All-nil IsToken)
short_acts (A.List actions) fits =
    behind_letter L.B (number (length actions) ∷ map number actions)
    (behind_number (length actions) (map number actions) fits.0
    (short_numbers actions (long_from_short actions fits.1.short)))
short_acts (A.Both left right) fits = behind_letter L.U (number left ∷ number right ∷ [])
    (two_numbers left right fits)

short_by_sign : (b : Bool) (n : ℕ) → n < 10 ^ 9 → IsToken (cond b (T.Number n) (T.Minus n))
short_by_sign true n less = omega arith
short_by_sign false n less = omega arith

short_clause : (clause : List Literal) → All FitsLiteral clause → All IsToken (clause_tokens clause)
short_clause clause short =
    All-append IsToken (map literal_token clause) (number 0 ∷ [])
    (All-map IsToken literal_token clause
    (All-weaker FitsLiteral (λ l. IsToken (literal_token l))
    (λ l less. short_by_sign l.positive (l.atom + 1) less) clause short))
    (one_number 0 (omega arith))

short_clauses : (clauses : List (List Literal)) → All (All FitsLiteral) clauses
    → All IsToken (flat_map clause_tokens clauses)
short_clauses [] short = All-nil IsToken
short_clauses (clause ∷ clauses) short =
    All-append IsToken (clause_tokens clause) (flat_map clause_tokens clauses)
    (short_clause clause (All-head (All FitsLiteral) clause clauses short))
    (short_clauses clauses (All-tail (All FitsLiteral) clause clauses short))

short_states : (states : List (List ℕ)) → All IsRising states
    → All IsToken (flat_map state_tokens states)
short_states [] rising = All-nil IsToken
short_states (state ∷ states) rising =
    All-append IsToken (state_tokens state) (flat_map state_tokens states)
    (All-append IsToken (map number state) (T.End ∷ [])
    (short_numbers state (long_from_short state (All-head IsRising state states rising).short))
    (All-cons IsToken T.End [] tt (All-nil IsToken)))
    (short_states states (All-tail IsRising state states rising))

short_expr : (expr : Expr) → ExprFits expr → All IsToken (expr_tokens expr)
short_expr (E.Constant constant) fits =
    behind_letter L.C (letter (constant_letter constant) ∷ [])
    (behind_letter (constant_letter constant) [] (All-nil IsToken))
short_expr (E.Horn clauses) fits =
    behind_letter L.H (number (length clauses) ∷ flat_map clause_tokens clauses)
    (behind_number (length clauses) (flat_map clause_tokens clauses) fits.0
    (short_clauses clauses fits.1))
short_expr (E.Dual clauses) fits =
    behind_letter L.D (number (length clauses) ∷ flat_map clause_tokens clauses)
    (behind_number (length clauses) (flat_map clause_tokens clauses) fits.0
    (short_clauses clauses fits.1))
short_expr (E.Two clauses) fits =
    behind_letter L.T (number (length clauses) ∷ flat_map clause_tokens clauses)
    (behind_number (length clauses) (flat_map clause_tokens clauses) fits.0
    (short_clauses clauses fits.1))
short_expr (E.States states) fits =
    behind_letter L.X (number (length states) ∷ flat_map state_tokens states)
    (behind_number (length states) (flat_map state_tokens states) fits.0
    (short_states states fits.1))
short_expr (E.Node node) fits = behind_letter L.B (number node ∷ []) (one_number node (omega arith))
short_expr (E.Not set) fits = behind_letter L.N (number set ∷ []) (one_number set fits)
short_expr (E.And left right) fits = behind_letter L.I (number left ∷ number right ∷ [])
    (two_numbers left right fits)
short_expr (E.Or left right) fits = behind_letter L.U (number left ∷ number right ∷ [])
    (two_numbers left right fits)
short_expr (E.After set acts) fits = behind_letter L.P (number set ∷ number acts ∷ [])
    (two_numbers set acts fits)
short_expr (E.Before set acts) fits = behind_letter L.R (number set ∷ number acts ∷ [])
    (two_numbers set acts fits)

short_statement : (statement : Statement) → StatementFits statement
    → All IsToken (statement_tokens statement)
short_statement (S.Sub left right) fits = behind_letter L.S (number left ∷ number right ∷ [])
    (two_numbers left right fits)
short_statement (S.ActSub left right) fits = behind_letter L.A (number left ∷ number right ∷ [])
    (two_numbers left right fits)
short_statement (S.Dead set) fits = behind_letter L.D (number set ∷ []) (one_number set fits)
short_statement S.Unsolvable fits = behind_letter L.U [] (All-nil IsToken)

pub tokens_short : (line : Line) → IsSpelled line → All IsToken (tokens_of line)
tokens_short (N.Acts id acts) spelled =
    behind_letter L.A (number id ∷ acts_tokens acts)
    (behind_number id (acts_tokens acts) spelled.0 (short_acts acts spelled.1))
tokens_short (N.Expr id expr) spelled =
    behind_letter L.E (number id ∷ expr_tokens expr)
    (behind_number id (expr_tokens expr) spelled.0 (short_expr expr spelled.1))
tokens_short (N.Known id statement word premises) spelled =
    let rest = statement_tokens statement ++ T.Word word ∷ map number premises in
    behind_letter L.K (number id ∷ rest)
    (behind_number id rest spelled.0
    (All-append IsToken (statement_tokens statement) (T.Word word ∷ map number premises)
    (short_statement statement spelled.1)
    (All-cons IsToken (T.Word word) (map number premises) tt (short_numbers premises spelled.2))))

-- the tokens of a line denote the fields of the bytes that it spells

cut_tokens : (tokens : List Token) (first : Token) (rest : List Token) → tokens ≡ first ∷ rest
    → All IsToken tokens
    → cut_fields (join_with_byte 32 (map field_of tokens)) ≡ map field_of tokens
cut_tokens tokens first rest e short =
    subst (λ ts. cut_fields (join_with_byte 32 (map field_of ts)) ≡ map field_of ts) (sym e)
    (cut_joined first rest (subst (All IsToken) e short))

pub tokens_from_bytes : (line : Line) (bytes : List ℕ) → Spells line bytes
    → AreTokens (tokens_of line) (cut_fields bytes)
tokens_from_bytes line bytes spells =
    let short = tokens_short line spells.spelled in
    let out = line_out line spells.spelled in
    record {
      each = short;
      same = sym (cut_tokens (tokens_of line) (letter out.0) (number out.1 ∷ letter out.2 ∷ out.3)
          out.4 short)
          ∙ ap (λ fs. cut_fields (join_with_byte 32 fs)) (fields_are line)
          ∙ ap cut_fields spells.same;
    }

-- a line that the tokens spell is spelled by the bytes
pub bytes_from_tokens : (line : Line) (tokens : List Token) (bytes : List ℕ)
    → AreTokens tokens (cut_fields bytes) → SpellsTokens line tokens
    → Spells line bytes
bytes_from_tokens line tokens bytes are spells = record {
  spelled = spells.spelled;
  same = ap (join_with_byte 32) (sym (fields_are line))
      ∙ ap (λ ts. join_with_byte 32 (map field_of ts)) spells.same
      ∙ ap (join_with_byte 32) are.same
      ∙ join_with_byte-slice_split 32 bytes;
}

-- and the other way round
pub tokens_from_line : (line : Line) (tokens : List Token) (bytes : List ℕ)
    → AreTokens tokens (cut_fields bytes) → Spells line bytes
    → SpellsTokens line tokens
tokens_from_line line tokens bytes are spells =
    let own = tokens_from_bytes line bytes spells in
    record {
      spelled = spells.spelled;
      same = same_tokens (tokens_of line) tokens own.each are.each
          (own.same ∙ sym are.same);
    }

-- what is found behind a head is found for the bytes
pub line_behind : (bytes : List ℕ) (first : Letter) (id : ℕ) (kind : Letter)
    (fields : List (List ℕ)) (found : Option Line) → FitsDecimal id
    → cut_fields bytes ≡ field_of (letter first) ∷ field_of (number id) ∷ field_of (letter kind)
    ∷ fields
    → MatchOption found ((line : Line) → StandFor (λ ts. LineForm first id kind ts line) fields → ⊥)
    (λ line. StandFor (λ ts. LineForm first id kind ts line) fields)
    → MatchOption found ((line : Line) → Spells line bytes → ⊥) (λ line. Spells line bytes)
line_behind bytes first id kind fields (Some line) long cut stand =
    let behind = stand.0 in
    let each =
    All-cons IsToken (letter first) (number id ∷ letter kind ∷ behind) tt
    (All-cons IsToken (number id) (letter kind ∷ behind) long
    (All-cons IsToken (letter kind) behind tt stand.1.each)) in
    let same =
    ap (λ fs. field_of (letter first) ∷ field_of (number id) ∷ field_of (letter kind) ∷ fs)
    stand.1.same ∙ sym cut in
    bytes_from_tokens line (letter first ∷ number id ∷ letter kind ∷ behind) bytes
    (record { each = each; same = same })
    (line_in first id kind behind line stand.2 long stand.1.each)
line_behind bytes first id kind fields None long cut never = λ line spells.
    let are = subst (AreTokens (tokens_of line)) cut (tokens_from_bytes line bytes spells) in
    let one = peel (tokens_of line) (letter first)
    (field_of (number id) ∷ field_of (letter kind) ∷ fields) tt are in
    let two = peel one.0 (number id) (field_of (letter kind) ∷ fields) long one.2 in
    let three = peel two.0 (letter kind) fields tt two.2 in
    let e = one.1 ∙ ap (λ ts. letter first ∷ ts) two.1
    ∙ ap (λ ts. letter first ∷ number id ∷ ts) three.1 in
    line_found (tokens_of line) first id kind three.0 None e are.each
    (λ other form. never other (three.0, three.2, form)) line
    (record { spelled = spells.spelled; same = refl })

-- without a head there is no line
pub no_head : (bytes : List ℕ)
    → ((first : Letter) (id : ℕ) (kind : Letter) (tokens : List Token)
    → AreTokens (letter first ∷ number id ∷ letter kind ∷ tokens) (cut_fields bytes) → ⊥)
    → (line : Line) → Spells line bytes → ⊥
no_head bytes never line spells =
    let out = line_out line spells.spelled in
    never out.0 out.1 out.2 out.3 (subst (λ ts. AreTokens ts (cut_fields bytes)) out.4
    (tokens_from_bytes line bytes spells))

-- a line is read back from its tokens

abbrev value_of : Token → ℕ
value_of (T.Number n) = n
value_of _ = 0

abbrev letter_of : Token → Letter
letter_of (T.Letter l) = l
letter_of _ = L.A

abbrev word_of : Token → Word
word_of (T.Word w) = w
word_of _ = W.B1

abbrev value_at : List Token → ℕ → ℕ
value_at tokens i = value_of (get_or tokens i T.End)

abbrev constant_by : Letter → Constant
constant_by L.E = C.Empty
constant_by L.I = C.Start
constant_by _ = C.Goal

abbrev acts_by : Letter → List Token → Acts
acts_by L.B tokens = A.List (map value_of (drop 1 tokens))
acts_by L.U tokens = A.Both (value_at tokens 0) (value_at tokens 1)
acts_by _ tokens = A.All

abbrev expr_by : Letter → List Token → Expr
expr_by L.H tokens = E.Horn (unwrap_or (clauses_from [] [] (drop 1 tokens)) [])
expr_by L.D tokens = E.Dual (unwrap_or (clauses_from [] [] (drop 1 tokens)) [])
expr_by L.T tokens = E.Two (unwrap_or (clauses_from [] [] (drop 1 tokens)) [])
expr_by L.X tokens = E.States (unwrap_or (states_from [] [] 0 (drop 1 tokens)) [])
expr_by L.B tokens = E.Node (value_at tokens 0)
expr_by L.N tokens = E.Not (value_at tokens 0)
expr_by L.I tokens = E.And (value_at tokens 0) (value_at tokens 1)
expr_by L.U tokens = E.Or (value_at tokens 0) (value_at tokens 1)
expr_by L.P tokens = E.After (value_at tokens 0) (value_at tokens 1)
expr_by L.R tokens = E.Before (value_at tokens 0) (value_at tokens 1)
expr_by _ tokens = E.Constant (constant_by (letter_of (get_or tokens 0 T.End)))

abbrev known_by : ℕ → Letter → List Token → Line
known_by id L.S tokens =
    N.Known id (S.Sub (value_at tokens 0) (value_at tokens 1)) (word_of (get_or tokens 2 T.End))
    (map value_of (drop 3 tokens))
known_by id L.A tokens =
    N.Known id (S.ActSub (value_at tokens 0) (value_at tokens 1)) (word_of (get_or tokens 2 T.End))
    (map value_of (drop 3 tokens))
known_by id L.D tokens = N.Known id (S.Dead (value_at tokens 0)) (word_of (get_or tokens 1 T.End))
    (map value_of (drop 2 tokens))
known_by id _ tokens = N.Known id S.Unsolvable (word_of (get_or tokens 0 T.End))
    (map value_of (drop 1 tokens))

abbrev line_by : Letter → ℕ → Letter → List Token → Line
line_by L.A id kind tokens = N.Acts id (acts_by kind tokens)
line_by L.E id kind tokens = N.Expr id (expr_by kind tokens)
line_by _ id kind tokens = known_by id kind tokens

abbrev line_from : List Token → Line
line_from tokens =
    line_by (letter_of (get_or tokens 0 T.End)) (value_at tokens 1)
    (letter_of (get_or tokens 2 T.End)) (drop 3 tokens)

values_of_numbers : (ns : List ℕ) → map value_of (map number ns) ≡ ns
values_of_numbers [] = refl
values_of_numbers (n ∷ ns) = ap (λ ms. n ∷ ms) (values_of_numbers ns)

back_to_acts : (id : ℕ) (acts : Acts) → line_from (tokens_of (N.Acts id acts)) ≡ N.Acts id acts
back_to_acts id A.All = refl
back_to_acts id (A.List actions) = ap (λ xs. N.Acts id (A.List xs)) (values_of_numbers actions)
back_to_acts id (A.Both left right) = refl

back_to_expr : (id : ℕ) (expr : Expr) → ExprFits expr
    → line_from (tokens_of (N.Expr id expr)) ≡ N.Expr id expr
back_to_expr id (E.Constant C.Empty) fits = refl
back_to_expr id (E.Constant C.Start) fits = refl
back_to_expr id (E.Constant C.Goal) fits = refl
back_to_expr id (E.Horn clauses) fits =
    ap (λ found. N.Expr id (E.Horn (unwrap_or found [])))
    (clauses_only (flat_map clause_tokens clauses) clauses (record { short = fits.1; same = refl }))
back_to_expr id (E.Dual clauses) fits =
    ap (λ found. N.Expr id (E.Dual (unwrap_or found [])))
    (clauses_only (flat_map clause_tokens clauses) clauses (record { short = fits.1; same = refl }))
back_to_expr id (E.Two clauses) fits =
    ap (λ found. N.Expr id (E.Two (unwrap_or found [])))
    (clauses_only (flat_map clause_tokens clauses) clauses (record { short = fits.1; same = refl }))
back_to_expr id (E.States states) fits =
    ap (λ found. N.Expr id (E.States (unwrap_or found [])))
    (states_only (flat_map state_tokens states) states (record { rising = fits.1; same = refl }))
back_to_expr id (E.Node node) fits = refl
back_to_expr id (E.Not set) fits = refl
back_to_expr id (E.And left right) fits = refl
back_to_expr id (E.Or left right) fits = refl
back_to_expr id (E.After set acts) fits = refl
back_to_expr id (E.Before set acts) fits = refl

back_to_known : (id : ℕ) (statement : Statement) (word : Word) (premises : List ℕ)
    → line_from (tokens_of (N.Known id statement word premises))
    ≡ N.Known id statement word premises
back_to_known id (S.Sub left right) word premises = ap
    (λ ps. N.Known id (S.Sub left right) word ps) (values_of_numbers premises)
back_to_known id (S.ActSub left right) word premises = ap
    (λ ps. N.Known id (S.ActSub left right) word ps) (values_of_numbers premises)
back_to_known id (S.Dead set) word premises = ap
    (λ ps. N.Known id (S.Dead set) word ps) (values_of_numbers premises)
back_to_known id S.Unsolvable word premises = ap
    (λ ps. N.Known id S.Unsolvable word ps) (values_of_numbers premises)

back_to_line : (line : Line) → IsSpelled line → line_from (tokens_of line) ≡ line
back_to_line (N.Acts id acts) spelled = back_to_acts id acts
back_to_line (N.Expr id expr) spelled = back_to_expr id expr spelled.1
back_to_line (N.Known id statement word premises) spelled = back_to_known id statement word premises

-- no bytes spell two lines
pub one_line : (x y : Line) (bytes : List ℕ) → Spells x bytes → Spells y bytes → x ≡ y
one_line x y bytes left right =
    let same = tokens_from_line x (tokens_of y) bytes (tokens_from_bytes y bytes right) left in
    sym (back_to_line x left.spelled) ∙ ap line_from same.same ∙ back_to_line y right.spelled

-- a line begins with its letter
begins : (line : Line) → IsSkipped (spelling_of line) → ⊥
begins (N.Acts id acts) (inl none) = cc
begins (N.Acts id acts) (inr comment) = absurd (omega arith)
begins (N.Expr id expr) (inl none) = cc
begins (N.Expr id expr) (inr comment) = absurd (omega arith)
begins (N.Known id statement word premises) (inl none) = cc
begins (N.Known id statement word premises) (inr comment) = absurd (omega arith)

-- what is skipped spells no line
pub skipped_apart : (line : Line) (bytes : List ℕ) → Spells line bytes → IsSkipped bytes → ⊥
skipped_apart line bytes spells skipped = begins line (subst IsSkipped (sym spells.same) skipped)
