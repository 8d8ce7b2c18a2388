use Rattle.std.proofs.Common.{◌≡◌, ◌++◌, Ok, Err, ap, arith}
use Rattle.std.specs.Prelude.{IsErrAnd, Result}
use Rattle.hv_bytes.specs.Working.Fields.{fields_behind}
use Rattle.hv_proof_text.proofs.Gathered.{gathers_no_token, gathers_too_many}
use Rattle.hv_proof_text.proofs.Gathered.{gathers_tokens}
use Rattle.hv_proof_text.proofs.fields.tokens_in.Goals as goal

-- where there is a fault there is no value
never_ok : {A E : Type 0} (r : Result A E) (Q : E → Type 0) (a : A) (P : Type 0) → IsErrAnd r Q
    → r ≡ Ok a → P
never_ok (Ok b) Q a P is same = absurd is
never_ok (Err e) Q a P is same = absurd cc

pub returns-in_err-push-clause-some : goal.returns-in_err-push-clause-some
returns-in_err-push-clause-some c = never_ok _ _ _ _ c.from_residual.ensures.1

pub returns-in_err-push-clause-none : goal.returns-in_err-push-clause-none
returns-in_err-push-clause-none c = never_ok _ _ _ _ c.from_residual.ensures.1

pub returns-in_default-clause-some : goal.returns-in_default-clause-some
returns-in_default-clause-some c = λ _.
    gathers_tokens c.fields.tokens.items (fields_behind c.args.fields (λ f. f.now))
    (fields_behind c.fields.rest (λ f. f.now))
    c.fields.invariant (ap (λ o. fields_behind o (λ f. f.now)) c.in_default.is)

pub returns-in_default-token_front-clause-none : goal.returns-in_default-token_front-clause-none
returns-in_default-token_front-clause-none c = λ _ others _ are.
    gathers_no_token (λ ts. ts) (λ ts. c.fields.tokens.items ++ ts)
    (fields_behind c.args.fields (λ f. f.now)) (fields_behind c.fields.rest (λ f. f.now))
    c.fields.invariant c.in-Some.line.now (ap (λ o. fields_behind o (λ f. f.now)) c.in-Some.is)
    c.in_default-token_front.ensures others are

pub returns-then-len-eq-MOST_TOKENS-clause-none : goal.returns-then-len-eq-MOST_TOKENS-clause-none
returns-then-len-eq-MOST_TOKENS-clause-none c = λ _ others few are.
    gathers_too_many c.fields.tokens.items (fields_behind c.args.fields (λ f. f.now))
    (fields_behind c.fields.rest (λ f. f.now)) c.fields.invariant c.in-Some.line.now
    (ap (λ o. fields_behind o (λ f. f.now)) c.in-Some.is)
    (omega (arith, c.fields.tokens.ok, c.len.ensures, c.if-len-eq-MOST_TOKENS.true)) others few are
