use Rattle.std.proofs.Common.{◌∙◌, [], ap}
use Rattle.hv_bytes.specs.Working.Fields.{fields_behind}
use Rattle.hv_proof_text.specs.Working.Gathering.{states_from}
use Rattle.hv_proof_text.specs.Working.Tokens.{AreStateTokens}
use Rattle.hv_proof_text.proofs.Gathered.{gathers_end, gathers_more, gathers_no_token, gathers_stop}
use Rattle.hv_proof_text.proofs.TokenLists.{states_found, states_only}
use Rattle.hv_proof_text.proofs.lists.states_in.Goals as goal

pub returns-in_default : goal.returns-in_default
returns-in_default c =
    gathers_end (states_from [] [] 0)
    (states_from c.fields.states.whole c.fields.states.begun c.fields.least)
    (fields_behind c.args.fields (λ f. f.now)) (fields_behind c.fields.rest (λ f. f.now))
    AreStateTokens c.fields.invariant.same
    states_only c.closed_states.result (ap (λ o. fields_behind o (λ f. f.now)) c.in_default.is)
    c.closed_states.ensures states_found

pub returns-in_default-token_front : goal.returns-in_default-token_front
returns-in_default-token_front c = λ states stand.
    gathers_no_token (states_from [] [] 0)
    (states_from c.fields.states.whole c.fields.states.begun c.fields.least)
    (fields_behind c.args.fields (λ f. f.now)) (fields_behind c.fields.rest (λ f. f.now))
    c.fields.invariant.same c.in-Some.line.now
    (ap (λ o. fields_behind o (λ f. f.now)) c.in-Some.is)
    c.in_default-token_front.ensures stand.0 stand.1

pub returns-then-not-branch : goal.returns-then-not-branch
returns-then-not-branch c =
    gathers_stop (states_from [] [] 0)
    (states_from c.fields.states.whole c.fields.states.begun c.fields.least)
    (fields_behind c.args.fields (λ f. f.now)) (fields_behind c.fields.rest (λ f. f.now))
    AreStateTokens c.fields.invariant.same states_only c.in-Some-token_front.token
    (fields_behind c.in-Some-token_front.behind (λ f. f.now)) c.in-Some-token_front.ensures.0
    (ap (λ o. fields_behind o (λ f. f.now)) c.in-Some.is ∙ c.in-Some-token_front.ensures.1)
    (c.in_ok-take_in_states.ensures.stopped (cc))

pub fields-preserved : goal.fields-preserved
fields-preserved c = record {
  same = gathers_more (states_from [] [] 0)
      (states_from c.fields.states.whole c.fields.states.begun c.fields.least)
      (states_from c.take_in_states.new.states.whole c.take_in_states.new.states.begun
      c.take_in_states.new.least)
      (fields_behind c.args.fields (λ f. f.now)) (fields_behind c.fields.rest (λ f. f.now))
      (fields_behind c.in-Some-token_front.behind (λ f. f.now)) c.in-Some-token_front.token
      c.fields.invariant.same c.in-Some-token_front.ensures.0
      (ap (λ o. fields_behind o (λ f. f.now)) c.in-Some.is ∙ c.in-Some-token_front.ensures.1)
      (c.in_ok-take_in_states.ensures.taken (cc));
  below = c.in_ok-take_in_states.ensures.below (cc);
}
