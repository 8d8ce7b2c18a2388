use Rattle.std.proofs.Common.{◌∙◌, arith, length, sym, ap, subst}
use Rattle.hv_clauses.specs.Working.Laws.{all_stay}
use Rattle.hv_clauses.specs.Working.Problem.{AreLeft}
use Rattle.hv_propagation.proofs.Chasing.{grown_by, grows_then}
use Rattle.hv_clauses.proofs.find.follow_first.Goals as goal

pub close_upto-requires-clause-over : goal.close_upto-requires-clause-over
close_upto-requires-clause-over g c =
    ap length c.if-not-deny_all.ensures.grown.roots ∙ c.requires.begun.wide

pub close_upto-requires-clause-left : goal.close_upto-requires-clause-left
close_upto-requires-clause-left g c =
    subst (λ n. AreLeft c.args.problem.now c.deny_all.new.marks n) (sym c.len-point.ensures.len)
    (all_stay c.args.problem.now c.args.marks.now c.deny_all.new.marks
    (length c.args.marks.now.trail) c.if-not-deny_all.ensures.grown (omega arith)
    c.requires.begun.left)

pub returns-in-None : goal.returns-in-None
returns-in-None g c =
    grows_then _ _ _ c.if-not-deny_all.ensures.grown
    (grown_by _ _ _ _ c.close_upto.ensures.followed)

pub returns-in-Some : goal.returns-in-Some
returns-in-Some g c =
    grows_then _ _ _ c.if-not-deny_all.ensures.grown
    (grown_by _ _ _ _ c.close_upto.ensures.followed)
