use Rattle.std.proofs.Common.{◌∙◌, [], ap}
use Rattle.hv_bytes.specs.Working.Fields.{fields_behind}
use Rattle.hv_proof_text.specs.Working.Gathering.{clauses_from}
use Rattle.hv_proof_text.specs.Working.Tokens.{AreClauseTokens}
use Rattle.hv_proof_text.proofs.Gathered.{gathers_end, gathers_more, gathers_no_token, gathers_stop}
use Rattle.hv_proof_text.proofs.TokenLists.{clauses_found, clauses_only}
use Rattle.hv_proof_text.proofs.lists.clauses_in.Goals as goal

pub returns-in_default : goal.returns-in_default
returns-in_default c =
    gathers_end (clauses_from [] []) (clauses_from c.fields.clauses.whole c.fields.clauses.begun)
    (fields_behind c.args.fields (λ f. f.now)) (fields_behind c.fields.rest (λ f. f.now))
    AreClauseTokens c.fields.invariant
    clauses_only c.closed_clauses.result (ap (λ o. fields_behind o (λ f. f.now)) c.in_default.is)
    c.closed_clauses.ensures clauses_found

pub returns-in_default-token_front : goal.returns-in_default-token_front
returns-in_default-token_front c = λ clauses stand.
    gathers_no_token (clauses_from [] [])
    (clauses_from c.fields.clauses.whole c.fields.clauses.begun)
    (fields_behind c.args.fields (λ f. f.now)) (fields_behind c.fields.rest (λ f. f.now))
    c.fields.invariant c.in-Some.line.now (ap (λ o. fields_behind o (λ f. f.now)) c.in-Some.is)
    c.in_default-token_front.ensures stand.0 stand.1

pub returns-then-not-branch : goal.returns-then-not-branch
returns-then-not-branch c =
    gathers_stop (clauses_from [] []) (clauses_from c.fields.clauses.whole c.fields.clauses.begun)
    (fields_behind c.args.fields (λ f. f.now)) (fields_behind c.fields.rest (λ f. f.now))
    AreClauseTokens c.fields.invariant clauses_only c.in-Some-token_front.token
    (fields_behind c.in-Some-token_front.behind (λ f. f.now)) c.in-Some-token_front.ensures.0
    (ap (λ o. fields_behind o (λ f. f.now)) c.in-Some.is ∙ c.in-Some-token_front.ensures.1)
    (c.in_ok-take_in_clauses.ensures.stopped (cc))

pub fields-preserved : goal.fields-preserved
fields-preserved c =
    gathers_more (clauses_from [] []) (clauses_from c.fields.clauses.whole c.fields.clauses.begun)
    (clauses_from c.take_in_clauses.new.clauses.whole c.take_in_clauses.new.clauses.begun)
    (fields_behind c.args.fields (λ f. f.now)) (fields_behind c.fields.rest (λ f. f.now))
    (fields_behind c.in-Some-token_front.behind (λ f. f.now)) c.in-Some-token_front.token
    c.fields.invariant c.in-Some-token_front.ensures.0
    (ap (λ o. fields_behind o (λ f. f.now)) c.in-Some.is ∙ c.in-Some-token_front.ensures.1)
    (c.in_ok-take_in_clauses.ensures.taken (cc))
