use Rattle.std.proofs.Common.{◌∙◌, ap, sym, None, Some}
use Rattle.std.proofs.lemmas.Bool.Decides.{Decides-eqb}
use Rattle.std.proofs.lemmas.Slice.Eq.{strip_prefix_is}
use Rattle.std.specs.Prelude.{option_and_then}
use Rattle.hv_grammar.specs.Forms.{decimal_of, number_behind}
use Rattle.hv_grammar.proofs.Numerals.{behind_append, nothing_behind}
use Rattle.hv_grammar.proofs.lines.number_behind.Goals as goal

pub returns-in-Some : goal.returns-in-Some
returns-in-Some c =
    let is = strip_prefix_is Decides-eqb c.args.bytes.now c.args.word.now (Some c.in-Some.rest)
    (rw c.in-Some.is at c.strip_prefix.ensures.cases) in
    c.decimal.ensures
    ∙ sym (ap (number_behind c.args.word.now) is
    ∙ ap (option_and_then decimal_of) (behind_append c.args.word.now c.in-Some.rest.now))

pub returns-in-None : goal.returns-in-None
returns-in-None c =
    let is = strip_prefix_is Decides-eqb c.args.bytes.now c.args.word.now None
    (rw c.in-None.is at c.strip_prefix.ensures.cases) in
    sym (ap (option_and_then decimal_of) (nothing_behind c.args.word.now c.args.bytes.now is))
