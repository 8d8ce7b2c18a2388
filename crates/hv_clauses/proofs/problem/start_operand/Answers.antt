use Rattle.std.proofs.Common.{◌∙◌, length, sym, ap, arith, subst}
use Rattle.hv_propagation.specs.Chase.{AreKept}
use Rattle.hv_propagation.specs.Effect.{late}
use Rattle.hv_propagation.specs.Roots.{AreSettledBut}
use Rattle.hv_clauses.specs.Working.Posed.{formulas}
use Rattle.hv_clauses.specs.Working.Start.{IsBasedOn}
use Rattle.hv_propagation.proofs.Chasing.{longer}
use Rattle.hv_clauses.proofs.EarlyParts.{left_earlier}
use Rattle.hv_clauses.proofs.Problems.{left_in}
use Rattle.hv_clauses.proofs.problem.start_operand.Goals as goal

pub start_turned-requires-clause-size : goal.start_turned-requires-clause-size
start_turned-requires-clause-size g c = c.requires.size ∙ sym c.set.ensures.atoms

pub start_turned-requires-clause-but : goal.start_turned-requires-clause-but
start_turned-requires-clause-but g c =
    let p = c.args.problem.now in
    let is = c.is_based.ensures c.if-is_based.true in
    let rooted = subst (λ b. IsBasedOn p b c.args.marks.now.roots) is.1 c.requires.rooted in
    let but : AreSettledBut (late p.effect (is.0).after) (formulas p c.in-Set.number)
    c.args.marks.now.roots = rooted c.in-Set.number (sym is.2 ∙ c.in-Set.is) in
    subst (λ clauses. AreSettledBut c.seen-seen.result clauses c.args.marks.now.roots)
    (sym c.set.ensures.clauses)
    (subst (λ e. AreSettledBut e (formulas p c.in-Set.number) c.args.marks.now.roots)
    (sym (c.seen-seen.ensures ∙ ap (late p.effect) is.3)) but)

pub returns-clause-left : goal.returns-clause-left
returns-clause-left g c = λ is.
    left_in c.args.problem.now c.args.operand _ c.in-Set.is c.seen-seen.result c.seen-seen.ensures
    c.start_turned.new.marks 0
    (subst (λ clauses. AreKept c.seen-seen.result clauses c.start_turned.new.marks 0)
    c.set.ensures.clauses (c.start_turned.ensures.kept is))

pub returns-2-clause-left : goal.returns-2-clause-left
returns-2-clause-left g c = λ is.
    let p = c.args.problem.now in
    let o = c.args.operand in
    left_earlier p.task (formulas p) (late p.effect o.after) o.which c.start_whole.new.marks 0
    (length c.args.marks.now.trail) (omega arith) (longer _ _ _ _ c.start_whole.ensures.followed)
    (c.start_whole.ensures.left is)
