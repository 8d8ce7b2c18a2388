use Rattle.std.proofs.Common.{◌<◌, ◌^◌, arith, length, subst, sym}
use Rattle.hv_lines.specs.Drafts.{IsShortLine}
use Rattle.hv_lines.specs.Numbering.{expr_count}
use Rattle.hv_lines.specs.Pruning.{states_in}
use Rattle.hv_lines.specs.declared.line.Expr.TheVariants as E
use Rattle.hv_lines.specs.declared.line.Line.TheVariants as L
use Rattle.hv_lines.proofs.Extended.{exprs_few}
use Rattle.hv_replay.specs.Working.ClosingLines.{IsClosedSearch}
use Rattle.hv_replay.specs.Replayed.{pruned_in}
use Rattle.hv_replay.proofs.Replaying.{closed_search, proof_at, pruned_few}
use Rattle.hv_replay.proofs.Small.{expanded_short}
use Rattle.hv_replay.proofs.log_proof.put_end.Goals as goal

pub push_closing-requires-clause-union : goal.push_closing-requires-clause-union
push_closing-requires-clause-union c = (
  length (pruned_in c.args.log.now.entries),
  pruned_few c.args.log.now
      c.expanded_states.ensures.log,
  c.requires.progress.dead,
)

pub push_closing-requires-clause-closed : goal.push_closing-requires-clause-closed
push_closing-requires-clause-closed c =
    subst (λ states. IsClosedSearch c.args.task.now states
    (states_in c.args.task.now c.args.draft.now.lines c.args.union.set))
    (sym c.in_ok-states.ensures.states)
    (closed_search c.args.task.now c.args.log.now c.expanded_states.ensures.log c.requires.atoms
    c.requires.followed c.args.draft.now.lines
    c.args.union c.requires.progress)

pub push_closing-requires-clause-short : goal.push_closing-requires-clause-short
push_closing-requires-clause-short c =
    let few : expr_count c.args.draft.now.lines
    < 10 ^ 18 = omega (arith, exprs_few c.args.draft.now.lines, c.spare-spare.ensures.few) in
    subst (λ states. IsShortLine (L.Expr (expr_count c.args.draft.now.lines) (E.States states)))
    (sym c.in_ok-states.ensures.states)
    (expanded_short c.args.log.now (expr_count c.args.draft.now.lines) c.expanded_states.ensures.log
    few)

pub returns : goal.returns
returns c =
    proof_at c.args.task.now c.args.log.now c.args.draft.now.lines c.push_closing.new.draft.lines
    c.args.union c.in_ok-states.states
    c.push_closing.result c.in_ok-states.ensures.states c.requires.progress
    c.push_closing.ensures.lines c.push_closing.ensures.extends
    c.push_closing.ensures.concludes
