use Rattle.std.proofs.Common.{◌∙◌, refl, sym}
use Rattle.std.proofs.lemmas.Bool.{both_ways}
use Rattle.hv_sets.specs.Truth.{in_clauses}
use Rattle.hv_trap.proofs.Trapped.{trap_satisfied}
use Rattle.hv_trap.proofs.Writing.{trap_below}
use Rattle.hv_trap.proofs.notes.covering_clauses.Goals as goal

pub are_true_in-requires : goal.are_true_in-requires
are_true_in-requires c = trap_below c.args.task.now c.in-Ok.clauses c.args.state.now
    c.in-Ok.ensures.trap c.requires

pub returns-then-are_true_in-clause-some : goal.returns-then-are_true_in-clause-some
returns-then-are_true_in-clause-some c = (
  λ is. absurd (cc (is)),
  λ covered. absurd (both_ways (in_clauses c.in-Ok.clauses c.args.state.now)
      ((trap_satisfied c.args.task.now c.in-Ok.clauses c.in-Ok.ensures.trap c.args.state.now).1
      covered.1)
      (sym c.are_true_in.ensures ∙ c.if-are_true_in.true)),
)

pub returns-else-are_true_in-clause-some : goal.returns-else-are_true_in-clause-some
returns-else-are_true_in-clause-some c = (
  λ _. (
    c.in-Ok.ensures.few,
    (trap_satisfied c.args.task.now c.in-Ok.clauses c.in-Ok.ensures.trap c.args.state.now).0
        (sym c.are_true_in.ensures ∙ c.if-are_true_in.false),
  ),
  λ _. refl,
)
