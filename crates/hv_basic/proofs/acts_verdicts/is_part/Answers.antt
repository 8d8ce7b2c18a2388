use Rattle.std.proofs.Common.{◌≡◌, ◌∙◌, Some, ap, inl, inr, subst, sym, true}
use Rattle.std.proofs.lemmas.Bool.{eqb-true}
use Rattle.hv_lines.specs.Meaning.{acts_of}
use Rattle.hv_basic.proofs.Flagging.{all_within, part_within}
use Rattle.hv_basic.proofs.acts_verdicts.is_part.Goals as goal

pub returns-in-All : goal.returns-in-All
returns-in-All c = λ _ number _.
    all_within c.args.table.now.lines c.acts.ensures.table c.args.second number
    (c.acts.ensures.says ∙ ap Some c.in-All.is)

pub returns-then-left-first : goal.returns-then-left-first
returns-then-left-first c = λ yes number has.
    part_within c.args.table.now.lines c.acts.ensures.table c.args.second c.in-Both.left
    c.in-Both.right number (c.acts.ensures.says ∙ ap Some c.in-Both.is)
    (inl (subst (λ a. acts_of c.args.table.now.lines a number ≡ true) (sym c.if-left-first.true)
    has))

pub returns-else-left-first : goal.returns-else-left-first
returns-else-left-first c = λ yes number has.
    part_within c.args.table.now.lines c.acts.ensures.table c.args.second c.in-Both.left
    c.in-Both.right number (c.acts.ensures.says ∙ ap Some c.in-Both.is)
    (inr (subst (λ a. acts_of c.args.table.now.lines a number ≡ true)
    (sym (eqb-true c.in-Both.right c.args.first yes)) has))
