use Rattle.std.proofs.Common.{◌∙◌, subst}
use Rattle.hv_propagation.specs.Effect.{late}
use Rattle.hv_propagation.specs.Forced.{AreForced, AreNever}
use Rattle.hv_propagation.specs.Marks.{over}
use Rattle.hv_clauses.specs.Working.Posed.{formulas, width}
use Rattle.hv_propagation.proofs.Marked.{length-over}
use Rattle.hv_clauses.proofs.Starting.{inside_after, start_of_forced}
use Rattle.hv_clauses.proofs.start.start_at.Goals as goal

pub returns-in-None : goal.returns-in-None
returns-in-None g c = λ state size inside.
    let p = c.args.problem.now in
    let e = late p.effect c.args.operand.after in
    let never : AreNever (width p) (formulas p c.in-Set.number) =
    subst (λ n. AreNever n (formulas p c.in-Set.number)) c.set.ensures.atoms
    (subst (λ clauses. AreNever c.set.result.now.atoms clauses) c.set.ensures.clauses
    c.in-None.ensures) in
    never (over e state) (length-over e state ∙ size)
    (inside_after p c.args.operand c.in-Set.number c.requires.among c.in-Set.is state inside)

pub returns-in-Some : goal.returns-in-Some
returns-in-Some g c =
    let p = c.args.problem.now in
    start_of_forced p c.args.operand c.in-Set.number c.requires.among c.in-Set.is
    c.in-Some.forced.now _ _ c.unaffected.ensures c.seen-seen.ensures
    (subst (λ n. AreForced n (formulas p c.in-Set.number) c.in-Some.forced.now) c.set.ensures.atoms
    (subst (λ clauses. AreForced c.set.result.now.atoms clauses c.in-Some.forced.now)
    c.set.ensures.clauses c.in-Some.ensures))
