use Rattle.std.proofs.Common.{◌≡◌, ◌∙◌, Bool, List, arith, sym, subst}
use Rattle.hv_explain.specs.Working.Marks.{AreMarkedFrom, mark_all}
use Rattle.hv_explain.proofs.Marking.{followed, mark_at_place}
use Rattle.hv_explain.proofs.needed.follow.Goals as goal

pub returns-then-index : goal.returns-then-index
returns-then-index c =
    let lines = c.args.table.now.lines in
    let marks = c.args.marks.now.items in
    let premises = c.premises.result.now in
    subst (λ (ms : List Bool). AreMarkedFrom c.args.id lines ms)
    (sym (subst (λ ids. c.mark_all.new.marks.items ≡ mark_all marks ids) c.as_slice.ensures
    c.mark_all.ensures))
    (followed lines c.args.id marks c.requires.marked premises c.premises.ensures.says
    c.premises.ensures.before c.requires.below
    (mark_at_place marks c.args.id c.index.result.now (sym c.index.ensures ∙ c.if-index.true)
    (omega (arith, c.requires.below, c.requires.marked.each))))
