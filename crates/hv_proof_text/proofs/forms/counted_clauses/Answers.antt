use Rattle.std.proofs.Common.{◌∙◌, length, sym}
use Rattle.hv_bytes.specs.Working.Fields.{fields_behind}
use Rattle.hv_proof_text.specs.Working.Tokens.{AreClauseTokens}
use Rattle.hv_proof_text.proofs.Gathered.{counted_never, counted_other, counted_some}
use Rattle.hv_proof_text.proofs.TokenLists.{same_clauses}
use Rattle.hv_proof_text.proofs.forms.counted_clauses.Goals as goal

pub returns-in_default-2 : goal.returns-in_default-2
returns-in_default-2 c =
    let never = rw c.in_default-2.is at c.in_ok-clauses.ensures in
    counted_never AreClauseTokens (λ l. length l) (fields_behind c.args.fields (λ f. f.now))
    (fields_behind c.in-Some.behind (λ f. f.now)) c.in-Some.count c.in-Some.ensures.0
    c.in-Some.ensures.1
    never

pub returns-in_ok-share : goal.returns-in_ok-share
returns-in_ok-share c =
    let are = rw c.in-Some-2.is at c.in_ok-clauses.ensures in
    rw c.in_ok-share.ensures
    (counted_some AreClauseTokens (λ l. length l) (fields_behind c.args.fields (λ f. f.now))
    (fields_behind c.in-Some.behind (λ f. f.now)) c.in-Some.count c.in-Some.ensures.0
    c.in-Some.ensures.1
    c.in-Some-2.clauses are (sym c.len.ensures ∙ c.if-len-count.true))

pub returns-else-len-count : goal.returns-else-len-count
returns-else-len-count c =
    let are = rw c.in-Some-2.is at c.in_ok-clauses.ensures in
    counted_other AreClauseTokens (λ l. length l) (fields_behind c.args.fields (λ f. f.now))
    (fields_behind c.in-Some.behind (λ f. f.now)) c.in-Some.count c.in-Some.ensures.0
    c.in-Some.ensures.1
    (λ x y tokens. same_clauses x y tokens) c.in-Some-2.clauses are
    (λ e. c.if-len-count.false (c.len.ensures ∙ e))
