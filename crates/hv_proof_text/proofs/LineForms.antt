-- The forms of lines, letter by letter, are the spellings of lines.
use Rattle.std.proofs.Common.{◌≡◌, ℕ, ◌∙◌, List, [], ◌∷◌, ◌++◌, length, map, Option, Some, None}
use Rattle.std.proofs.Common.{MatchOption, refl, sym, ap, subst, arith}
use Rattle.std.proofs.lemmas.List.Elements.{All-cons, All-head, All-tail}
use Rattle.std.specs.List.{All, flat_map}
use Rattle.hv_lines.specs.Spelling.{FitsDecimal, ActsFit, ExprFits, StatementFits, IsSpelled}
use Rattle.hv_lines.specs.declared.line.Acts.{Acts}
use Rattle.hv_lines.specs.declared.line.Acts.TheVariants as A
use Rattle.hv_lines.specs.declared.line.Expr.{Expr}
use Rattle.hv_lines.specs.declared.line.Expr.TheVariants as E
use Rattle.hv_lines.specs.declared.line.Line.{Line}
use Rattle.hv_lines.specs.declared.line.Line.TheVariants as N
use Rattle.hv_lines.specs.declared.line.Statement.{Statement}
use Rattle.hv_lines.specs.declared.line.Statement.TheVariants as S
use Rattle.hv_proof_text.specs.declared.token.Letter.{Letter}
use Rattle.hv_proof_text.specs.declared.token.Letter.TheVariants as L
use Rattle.hv_proof_text.specs.declared.token.Token.{Token}
use Rattle.hv_proof_text.specs.declared.token.Token.TheVariants as T
use Rattle.hv_proof_text.specs.Working.Forms.{ActsForm, ExprForm, ClaimForm, LineForm}
use Rattle.hv_proof_text.specs.Working.Tokens.{IsToken, SpellsTokens, acts_tokens, clause_tokens}
use Rattle.hv_proof_text.specs.Working.Tokens.{constant_letter, expr_tokens, letter, number}
use Rattle.hv_proof_text.specs.Working.Tokens.{state_tokens, statement_tokens, tokens_of}

-- numbers in tokens have at most 18 digits

first_long : (n : ℕ) (rest tokens : List Token) → tokens ≡ number n ∷ rest → All IsToken tokens
    → FitsDecimal n
first_long n rest tokens e short = All-head IsToken (number n) rest (subst (All IsToken) e short)

two_long : (m n : ℕ) (rest tokens : List Token) → tokens ≡ number m ∷ number n ∷ rest
    → All IsToken tokens → FitsDecimal m × FitsDecimal n
two_long m n rest tokens e short =
    let all : All IsToken (number m ∷ number n ∷ rest) = subst (All IsToken) e short in (
      All-head IsToken (number m) (number n ∷ rest) all,
      All-head IsToken (number n) rest (All-tail IsToken (number m) (number n ∷ rest) all),
    )

all_long : (ns : List ℕ) → All IsToken (map number ns) → All FitsDecimal ns
all_long [] short = λ k d within. absurd (omega arith)
all_long (n ∷ ns) short =
    All-cons FitsDecimal n ns (All-head IsToken (number n) (map number ns) short)
    (all_long ns (All-tail IsToken (number n) (map number ns) short))

-- from a form to the spelling

abbrev ActsAre : Letter → List Token → Acts → Type 0
ActsAre kind tokens acts = ActsFit acts × (acts_tokens acts ≡ letter kind ∷ tokens)

acts_in : (kind : Letter) (tokens : List Token) (acts : Acts) → ActsForm kind tokens acts
    → All IsToken tokens → ActsAre kind tokens acts
acts_in L.A tokens acts form short = subst (ActsAre L.A tokens) (sym form.1)
    (tt, ap (λ ts. letter L.A ∷ ts) (sym form.0))
acts_in L.B tokens acts form short =
    subst (ActsAre L.B tokens) (sym form.4) (
      (first_long (length form.0) form.1 tokens form.2 short, form.3.rising),
      ap (λ ts. letter L.B ∷ number (length form.0) ∷ ts) form.3.same
          ∙ ap (λ ts. letter L.B ∷ ts) (sym form.2),
    )
acts_in L.U tokens acts form short =
    subst (ActsAre L.U tokens) (sym form.3)
    (two_long form.0 form.1 [] tokens form.2 short, ap (λ ts. letter L.U ∷ ts) (sym form.2))
acts_in _ tokens acts form short = absurd form

abbrev ExprIs : Letter → List Token → Expr → Type 0
ExprIs kind tokens expr = ExprFits expr × (expr_tokens expr ≡ letter kind ∷ tokens)

expr_in : (kind : Letter) (tokens : List Token) (expr : Expr) → ExprForm kind tokens expr
    → All IsToken tokens → ExprIs kind tokens expr
expr_in L.C tokens expr form short = subst (ExprIs L.C tokens) (sym form.2)
    (tt, ap (λ ts. letter L.C ∷ ts) (sym form.1))
expr_in L.H tokens expr form short =
    subst (ExprIs L.H tokens) (sym form.4) (
      (first_long (length form.0) form.1 tokens form.2 short, form.3.short),
      ap (λ ts. letter L.H ∷ number (length form.0) ∷ ts) form.3.same
          ∙ ap (λ ts. letter L.H ∷ ts) (sym form.2),
    )
expr_in L.D tokens expr form short =
    subst (ExprIs L.D tokens) (sym form.4) (
      (first_long (length form.0) form.1 tokens form.2 short, form.3.short),
      ap (λ ts. letter L.D ∷ number (length form.0) ∷ ts) form.3.same
          ∙ ap (λ ts. letter L.D ∷ ts) (sym form.2),
    )
expr_in L.T tokens expr form short =
    subst (ExprIs L.T tokens) (sym form.4) (
      (first_long (length form.0) form.1 tokens form.2 short, form.3.short),
      ap (λ ts. letter L.T ∷ number (length form.0) ∷ ts) form.3.same
          ∙ ap (λ ts. letter L.T ∷ ts) (sym form.2),
    )
expr_in L.X tokens expr form short =
    subst (ExprIs L.X tokens) (sym form.4) (
      (first_long (length form.0) form.1 tokens form.2 short, form.3.rising),
      ap (λ ts. letter L.X ∷ number (length form.0) ∷ ts) form.3.same
          ∙ ap (λ ts. letter L.X ∷ ts) (sym form.2),
    )
expr_in L.B tokens expr form short = subst (ExprIs L.B tokens) (sym form.3)
    (form.2, ap (λ ts. letter L.B ∷ ts) (sym form.1))
expr_in L.N tokens expr form short =
    subst (ExprIs L.N tokens) (sym form.2)
    (first_long form.0 [] tokens form.1 short, ap (λ ts. letter L.N ∷ ts) (sym form.1))
expr_in L.I tokens expr form short =
    subst (ExprIs L.I tokens) (sym form.3)
    (two_long form.0 form.1 [] tokens form.2 short, ap (λ ts. letter L.I ∷ ts) (sym form.2))
expr_in L.U tokens expr form short =
    subst (ExprIs L.U tokens) (sym form.3)
    (two_long form.0 form.1 [] tokens form.2 short, ap (λ ts. letter L.U ∷ ts) (sym form.2))
expr_in L.P tokens expr form short =
    subst (ExprIs L.P tokens) (sym form.3)
    (two_long form.0 form.1 [] tokens form.2 short, ap (λ ts. letter L.P ∷ ts) (sym form.2))
expr_in L.R tokens expr form short =
    subst (ExprIs L.R tokens) (sym form.3)
    (two_long form.0 form.1 [] tokens form.2 short, ap (λ ts. letter L.R ∷ ts) (sym form.2))
expr_in _ tokens expr form short = absurd form

abbrev ClaimIs : Letter → List Token → List Token → Statement → Type 0
ClaimIs kind tokens rest statement =
    StatementFits statement × (statement_tokens statement ++ rest ≡ letter kind ∷ tokens)
    × All IsToken rest

claim_in : (kind : Letter) (tokens : List Token) (statement : Statement) (rest : List Token)
    → ClaimForm kind tokens statement rest
    → All IsToken tokens → ClaimIs kind tokens rest statement
claim_in L.S tokens statement rest form short =
    subst (ClaimIs L.S tokens rest) (sym form.3) (
      two_long form.0 form.1 rest tokens form.2 short,
      ap (λ ts. letter L.S ∷ ts) (sym form.2),
      All-tail IsToken (number form.1) rest
          (All-tail IsToken (number form.0) (number form.1 ∷ rest)
          (subst (All IsToken) form.2 short)),
    )
claim_in L.A tokens statement rest form short =
    subst (ClaimIs L.A tokens rest) (sym form.3) (
      two_long form.0 form.1 rest tokens form.2 short,
      ap (λ ts. letter L.A ∷ ts) (sym form.2),
      All-tail IsToken (number form.1) rest
          (All-tail IsToken (number form.0) (number form.1 ∷ rest)
          (subst (All IsToken) form.2 short)),
    )
claim_in L.D tokens statement rest form short =
    subst (ClaimIs L.D tokens rest) (sym form.2) (
      first_long form.0 rest tokens form.1 short,
      ap (λ ts. letter L.D ∷ ts) (sym form.1),
      All-tail IsToken (number form.0) rest (subst (All IsToken) form.1 short),
    )
claim_in L.U tokens statement rest form short =
    subst (ClaimIs L.U tokens rest) (sym form.1)
    (tt, ap (λ ts. letter L.U ∷ ts) (sym form.0), subst (All IsToken) form.0 short)
claim_in _ tokens statement rest form short = absurd form

pub line_in : (first : Letter) (id : ℕ) (kind : Letter) (tokens : List Token) (line : Line)
    → LineForm first id kind tokens line
    → FitsDecimal id → All IsToken tokens → SpellsTokens line
    (letter first ∷ number id ∷ letter kind ∷ tokens)
line_in L.A id kind tokens line form long short =
    let acts = acts_in kind tokens form.0 form.1 short in
    subst (λ x. SpellsTokens x (letter L.A ∷ number id ∷ letter kind ∷ tokens)) (sym form.2)
    (record { spelled = (long, acts.0); same = ap (λ ts. letter L.A ∷ number id ∷ ts) acts.1 })
line_in L.E id kind tokens line form long short =
    let expr = expr_in kind tokens form.0 form.1 short in
    subst (λ x. SpellsTokens x (letter L.E ∷ number id ∷ letter kind ∷ tokens)) (sym form.2)
    (record { spelled = (long, expr.0); same = ap (λ ts. letter L.E ∷ number id ∷ ts) expr.1 })
line_in L.K id kind tokens line form long short =
    let statement = form.0 in
    let rest = form.1 in
    let word = form.2 in
    let premises = form.3 in
    let claim = claim_in kind tokens statement rest form.4 short in
    let support : All IsToken (T.Word word ∷ map number premises) = subst (All IsToken) form.5.0
    claim.2 in
    subst (λ x. SpellsTokens x (letter L.K ∷ number id ∷ letter kind ∷ tokens)) (sym form.6)
    (record {
      spelled = (
        long,
        claim.0,
        all_long premises
            (All-tail IsToken (T.Word word) (map number premises) support),
        form.5.1,
      );
      same = ap (λ ts. letter L.K ∷ number id ∷ (statement_tokens statement ++ ts)) (sym form.5.0)
          ∙ ap (λ ts. letter L.K ∷ number id ∷ ts) claim.1;
    })
line_in _ id kind tokens line form long short = absurd form

-- from the spelling to a form

acts_out : (acts : Acts) → ActsFit acts → (kind : Letter) × (tokens : List Token)
    × (acts_tokens acts ≡ letter kind ∷ tokens) × ActsForm kind tokens acts
acts_out A.All fits = (L.A, [], refl, (refl, refl))
acts_out (A.List actions) fits = (
  L.B,
  number (length actions) ∷ map number actions,
  refl,
  (actions, map number actions, refl, record { rising = fits.1; same = refl }, refl),
)
acts_out (A.Both left right) fits = (
  L.U,
  number left ∷ number right
      ∷ [],
  refl,
  (left, right, refl, refl),
)

expr_out : (expr : Expr) → ExprFits expr
    → (kind : Letter) × (tokens : List Token) × (expr_tokens expr ≡ letter kind ∷ tokens)
    × ExprForm kind tokens expr
expr_out (E.Constant constant) fits = (
  L.C,
  letter (constant_letter constant)
      ∷ [],
  refl,
  (constant, refl, refl),
)
expr_out (E.Horn clauses) fits = (
  L.H,
  number (length clauses) ∷ flat_map clause_tokens clauses,
  refl,
  (clauses, flat_map clause_tokens clauses, refl, record { short = fits.1; same = refl }, refl),
)
expr_out (E.Dual clauses) fits = (
  L.D,
  number (length clauses) ∷ flat_map clause_tokens clauses,
  refl,
  (clauses, flat_map clause_tokens clauses, refl, record { short = fits.1; same = refl }, refl),
)
expr_out (E.Two clauses) fits = (
  L.T,
  number (length clauses) ∷ flat_map clause_tokens clauses,
  refl,
  (clauses, flat_map clause_tokens clauses, refl, record { short = fits.1; same = refl }, refl),
)
expr_out (E.States states) fits = (
  L.X,
  number (length states) ∷ flat_map state_tokens states,
  refl,
  (states, flat_map state_tokens states, refl, record { rising = fits.1; same = refl }, refl),
)
expr_out (E.Node node) fits = (L.B, number node ∷ [], refl, (node, refl, fits, refl))
expr_out (E.Not set) fits = (L.N, number set ∷ [], refl, (set, refl, refl))
expr_out (E.And left right) fits = (
  L.I,
  number left ∷ number right
      ∷ [],
  refl,
  (left, right, refl, refl),
)
expr_out (E.Or left right) fits = (
  L.U,
  number left ∷ number right
      ∷ [],
  refl,
  (left, right, refl, refl),
)
expr_out (E.After set acts) fits = (
  L.P,
  number set ∷ number acts
      ∷ [],
  refl,
  (set, acts, refl, refl),
)
expr_out (E.Before set acts) fits = (
  L.R,
  number set ∷ number acts
      ∷ [],
  refl,
  (set, acts, refl, refl),
)

claim_out : (statement : Statement) (rest : List Token)
    → (kind : Letter) × (tokens : List Token)
    × (statement_tokens statement ++ rest ≡ letter kind ∷ tokens)
    × ClaimForm kind tokens statement rest
claim_out (S.Sub left right) rest = (
  L.S,
  number left ∷ number right
      ∷ rest,
  refl,
  (left, right, refl, refl),
)
claim_out (S.ActSub left right) rest = (
  L.A,
  number left ∷ number right
      ∷ rest,
  refl,
  (left, right, refl, refl),
)
claim_out (S.Dead set) rest = (L.D, number set ∷ rest, refl, (set, refl, refl))
claim_out S.Unsolvable rest = (L.U, rest, refl, (refl, refl))

pub line_out : (line : Line) → IsSpelled line
    → (first : Letter) × (id : ℕ) × (kind : Letter) × (tokens : List Token)
    × (tokens_of line ≡ letter first ∷ number id ∷ letter kind ∷ tokens)
    × LineForm first id kind tokens line
line_out (N.Acts id acts) spelled =
    let out = acts_out acts spelled.1 in
    (L.A, id, out.0, out.1, ap (λ ts. letter L.A ∷ number id ∷ ts) out.2, (acts, out.3, refl))
line_out (N.Expr id expr) spelled =
    let out = expr_out expr spelled.1 in
    (L.E, id, out.0, out.1, ap (λ ts. letter L.E ∷ number id ∷ ts) out.2, (expr, out.3, refl))
line_out (N.Known id statement word premises) spelled =
    let out = claim_out statement (T.Word word ∷ map number premises) in (
      L.K,
      id,
      out.0,
      out.1,
      ap (λ ts. letter L.K ∷ number id ∷ ts) out.2,
      (
        statement,
        T.Word word ∷ map number premises,
        word,
        premises,
        out.3,
        (refl, spelled.3),
        refl,
      ),
    )

-- two lists of tokens with the same head
same_heads : {f f' k k' : Letter} {i i' : ℕ} {ts ts' : List Token}
    → letter f ∷ number i ∷ letter k ∷ ts ≡ letter f' ∷ number i' ∷ letter k' ∷ ts'
    → (f ≡ f') × (i ≡ i') × (k ≡ k') × (ts ≡ ts')
same_heads e = (cc, cc, cc, cc)

-- what is found behind a head is found in the whole line
pub line_found : (tokens : List Token) (first : Letter) (id : ℕ) (kind : Letter) (rest : List Token)
    (found : Option Line)
    → tokens ≡ letter first ∷ number id ∷ letter kind ∷ rest → All IsToken tokens
    → MatchOption found ((line : Line) → LineForm first id kind rest line → ⊥)
    (λ line. LineForm first id kind rest line)
    → MatchOption found ((line : Line) → SpellsTokens line tokens → ⊥)
    (λ line. SpellsTokens line tokens)
line_found tokens first id kind rest (Some line) e short form =
    let all : All IsToken (letter first ∷ number id ∷ letter kind ∷ rest) = subst (All IsToken) e
    short in
    let behind = All-tail IsToken (letter first) (number id ∷ letter kind ∷ rest) all in
    let last = All-tail IsToken (number id) (letter kind ∷ rest) behind in
    subst (SpellsTokens line) (sym e)
    (line_in first id kind rest line form (All-head IsToken (number id) (letter kind ∷ rest) behind)
    (All-tail IsToken (letter kind) rest last))
line_found tokens first id kind rest None e short never = λ line spells.
    let out = line_out line spells.spelled in
    let same = same_heads (sym out.4 ∙ spells.same ∙ e) in
    let at_first = subst (λ f. LineForm f out.1 out.2 out.3 line) same.0 out.5 in
    let at_id = subst (λ i. LineForm first i out.2 out.3 line) same.1 at_first in
    let at_kind = subst (λ k. LineForm first id k out.3 line) same.2 at_id in
    never line (subst (λ ts. LineForm first id kind ts line) same.3 at_kind)
