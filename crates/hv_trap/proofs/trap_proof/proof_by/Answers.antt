use Rattle.std.proofs.Common.{refl}
use Rattle.hv_trap.proofs.Proofs.{start_below, start_breaks, start_in, start_out}
use Rattle.hv_trap.proofs.trap_proof.proof_by.Goals as goal

pub are_true_in-requires : goal.are_true_in-requires
are_true_in-requires c =
    start_below c.args.task.now c.args.clauses c.requires.trap c.in_ok-start.start
    c.in_ok-start.ensures.start c.in_ok-start.ensures.state

pub returns-then-are_true_in-clause-some : goal.returns-then-are_true_in-clause-some
returns-then-are_true_in-clause-some c = (
  λ is. absurd (cc (is)),
  λ satisfied. absurd (start_out c.args.task.now c.args.clauses c.requires.trap c.in_ok-start.start
      c.in_ok-start.ensures.start
      c.are_true_in.result c.are_true_in.ensures c.if-are_true_in.true satisfied),
)

pub trap_proof-requires-clause-start : goal.trap_proof-requires-clause-start
trap_proof-requires-clause-start c =
    start_breaks c.args.task.now c.args.clauses c.requires.trap c.in_ok-start.start
    c.in_ok-start.ensures.start c.are_true_in.result
    c.are_true_in.ensures c.if-are_true_in.false

pub returns-clause-some : goal.returns-clause-some
returns-clause-some c = (
  λ is. start_in c.args.task.now c.args.clauses c.requires.trap c.in_ok-start.start
      c.in_ok-start.ensures.start c.are_true_in.result
      c.are_true_in.ensures c.if-are_true_in.false,
  λ _. refl,
)
