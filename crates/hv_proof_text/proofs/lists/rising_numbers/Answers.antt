use Rattle.std.proofs.Common.{◌∙◌, [], Some, ap, refl}
use Rattle.hv_bytes.specs.Working.Fields.{fields_behind}
use Rattle.hv_proof_text.specs.Working.Gathering.{numbers_from}
use Rattle.hv_proof_text.specs.Working.Tokens.{AreRisingNumbers}
use Rattle.hv_proof_text.proofs.Gathered.{gathers_end, gathers_more, gathers_no_token, gathers_stop}
use Rattle.hv_proof_text.proofs.TokenLists.{numbers_found, numbers_only}
use Rattle.hv_proof_text.proofs.lists.rising_numbers.Goals as goal

pub returns-in_default : goal.returns-in_default
returns-in_default c =
    gathers_end (numbers_from [] 0) (numbers_from c.fields.numbers c.fields.least)
    (fields_behind c.args.fields (λ f. f.now)) (fields_behind c.fields.rest (λ f. f.now))
    AreRisingNumbers c.fields.invariant
    numbers_only (Some c.fields.numbers) (ap (λ o. fields_behind o (λ f. f.now)) c.in_default.is)
    refl numbers_found

pub returns-in_default-token_front : goal.returns-in_default-token_front
returns-in_default-token_front c = λ numbers stand.
    gathers_no_token (numbers_from [] 0) (numbers_from c.fields.numbers c.fields.least)
    (fields_behind c.args.fields (λ f. f.now)) (fields_behind c.fields.rest (λ f. f.now))
    c.fields.invariant c.in-Some.line.now (ap (λ o. fields_behind o (λ f. f.now)) c.in-Some.is)
    c.in_default-token_front.ensures stand.0 stand.1

pub returns-then-not-branch : goal.returns-then-not-branch
returns-then-not-branch c =
    gathers_stop (numbers_from [] 0) (numbers_from c.fields.numbers c.fields.least)
    (fields_behind c.args.fields (λ f. f.now)) (fields_behind c.fields.rest (λ f. f.now))
    AreRisingNumbers c.fields.invariant numbers_only c.in-Some-token_front.token
    (fields_behind c.in-Some-token_front.behind (λ f. f.now)) c.in-Some-token_front.ensures.0
    (ap (λ o. fields_behind o (λ f. f.now)) c.in-Some.is ∙ c.in-Some-token_front.ensures.1)
    (c.in_ok-take_number.ensures.stopped (cc))

pub fields-preserved : goal.fields-preserved
fields-preserved c =
    gathers_more (numbers_from [] 0) (numbers_from c.fields.numbers c.fields.least)
    (numbers_from c.take_number.new.numbers c.take_number.new.least)
    (fields_behind c.args.fields (λ f. f.now)) (fields_behind c.fields.rest (λ f. f.now))
    (fields_behind c.in-Some-token_front.behind (λ f. f.now)) c.in-Some-token_front.token
    c.fields.invariant c.in-Some-token_front.ensures.0
    (ap (λ o. fields_behind o (λ f. f.now)) c.in-Some.is ∙ c.in-Some-token_front.ensures.1)
    (c.in_ok-take_number.ensures.taken (cc))
