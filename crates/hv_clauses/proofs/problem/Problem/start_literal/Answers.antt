use Rattle.std.proofs.Common.{◌<◌, ◌∙◌, ap, arith, subst, sym}
use Rattle.hv_task.specs.State.{names_atom}
use Rattle.hv_sets.specs.declared.literal.Literal.{Literal}
use Rattle.hv_clauses.specs.Working.Posed.{ProblemState, width}
use Rattle.hv_clauses.proofs.OperandClauses.{names_from_test}
use Rattle.hv_clauses.proofs.problem.Problem.start_literal.Goals as goal

pub overflow_cast-atom : goal.overflow_cast-atom
overflow_cast-atom g c =
    let less = subst (λ (q : ProblemState). c.args.place < width q) (sym c.self.view_is)
    c.requires in
    omega (arith, less, c.self.invariant.0.task.few_atoms)

pub returns : goal.returns
returns g c =
    let p = c.self.inside in
    ap {B = Literal} (λ positive. record { atom = c.args.place; positive = positive })
    (names_from_test c.has.result p.task.now.start c.start-start.result.now c.args.place
    c.has.ensures c.start-start.ensures.start
    ∙ ap (λ (q : ProblemState). names_atom q.task.start c.args.place) c.self.view_is)
