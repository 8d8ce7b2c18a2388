use Rattle.std.proofs.Common.{◌∙◌, ◌++◌, ◌∷◌, [], ap, arith, sym}
use Rattle.std.proofs.lemmas.Option.{same_Some}
use Rattle.hv_sets.specs.declared.operand.Which.{Which}
use Rattle.hv_lines.specs.Queries.{which_at}
use Rattle.hv_basic.specs.Cases.{lines_in}
use Rattle.hv_basic.proofs.rights.name_last.Goals as goal

pub name-requires : goal.name-requires
name-requires c = omega (arith, c.requires, c.args.case.now.stored.each)

pub returns : goal.returns
returns c = λ _.
    let asked = c.args.asked in
    let named = same_Some c.name.result (which_at (lines_in c.args.case.now) asked.0)
    (sym c.name.ensures ∙ c.args.case.now.stored.names asked.0 c.requires) in
    c.in_ok-push.ensures.ok
    ∙ ap (λ (w : Which). c.args.operands.now ++ record {
      which = w;
      id = asked.0;
      after = asked.1;
    } ∷ []) named
