use Rattle.std.proofs.Common.{◌∙◌, sym}
use Rattle.hv_bytes.specs.Working.Fields.{fields_behind}
use Rattle.hv_proof_text.proofs.ListedForms.{listed_letters, plain_behind}
use Rattle.hv_proof_text.proofs.forms.line_by.Goals as goal

pub returns-in-Some : goal.returns-in-Some
returns-in-Some c =
    let same =
    listed_letters c.args.head.now.letter c.args.head.now.kind c.in-Some.listed
    (sym c.listed_by.ensures ∙ c.in-Some.is) in
    rw (same.0, same.1) c.listed_line.ensures

pub returns-then-branch : goal.returns-then-branch
returns-then-branch c =
    plain_behind c.tokens_in.new.tokens.items c.deref.result.now
    (fields_behind c.args.head.now.rest (λ f. f.now)) c.args.head.now.letter
    c.args.head.now.id c.args.head.now.kind c.plain_line.result c.deref.ensures.value
    (c.in_ok-tokens_in.ensures.some (cc))
    c.plain_line.ensures

pub returns-in-K : goal.returns-in-K
returns-in-K c = rw c.in-K.is c.known_of.ensures
