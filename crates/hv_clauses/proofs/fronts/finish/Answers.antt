use Rattle.std.proofs.Common.{◌∙◌, sym, subst}
use Rattle.hv_propagation.specs.Completion.{Completes}
use Rattle.hv_clauses.specs.Working.Posed.{InEach}
use Rattle.hv_clauses.specs.Working.Problem.{AreEachSettled}
use Rattle.hv_clauses.proofs.Digits.{front_completed}
use Rattle.hv_clauses.proofs.fronts.finish.Goals as goal

pub complete-requires-clause-over : goal.complete-requires-clause-over
complete-requires-clause-over g c = c.requires.front.wide

pub complete-requires-clause-completes : goal.complete-requires-clause-completes
complete-requires-clause-completes g c =
    let p = c.args.problem.now in
    subst (λ n. Completes c.completion-how.result (InEach p) (AreEachSettled p) n)
    (sym c.requires.front.wide) c.completion-how.ensures.completes

pub returns-clause-met : goal.returns-clause-met
returns-clause-met g c = front_completed c.args.problem.now c.args.number c.args.marks.now
    c.complete.result c.complete.new.state c.completion-how.ensures.wide c.requires.front
    (c.complete.ensures.state ∙ c.requires.state) c.complete.ensures.completed
