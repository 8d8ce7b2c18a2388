use Rattle.std.proofs.Common.{◌∙◌, ap, sym, None, Some}
use Rattle.std.proofs.lemmas.Bool.Decides.{Decides-eqb}
use Rattle.std.proofs.lemmas.Slice.Eq.{strip_prefix_is}
use Rattle.std.specs.Prelude.{is_some}
use Rattle.hv_grammar.proofs.Numerals.{behind_append, nothing_behind}
use Rattle.hv_bdd.specs.OrderLine.{begins_with}
use Rattle.hv_bdd.proofs.first.begins_with.Goals as goal

pub returns-in-Some : goal.returns-in-Some
returns-in-Some c =
    let is = strip_prefix_is Decides-eqb c.args.line.now c.args.word.now (Some c.in-Some.rest)
    (rw c.in-Some.is at c.strip_prefix.ensures.cases) in
    sym (ap (begins_with c.args.word.now) is
    ∙ ap is_some (behind_append c.args.word.now c.in-Some.rest.now))

pub returns-in-None : goal.returns-in-None
returns-in-None c =
    let is = strip_prefix_is Decides-eqb c.args.line.now c.args.word.now None
    (rw c.in-None.is at c.strip_prefix.ensures.cases) in
    sym (ap is_some (nothing_behind c.args.word.now c.args.line.now is))
