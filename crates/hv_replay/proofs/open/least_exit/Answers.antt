use Rattle.std.proofs.Common.{◌<◌, ℕ, arith, below_more, get_or, length}
use Rattle.hv_task.specs.State.{state_of}
use Rattle.hv_task.specs.Strips.{atoms}
use Rattle.hv_rows.specs.Rows.{IsInRow}
use Rattle.hv_replay.specs.Working.Following.{StaysListed}
use Rattle.hv_replay.proofs.Exits.{all_asked, exit_more}
use Rattle.hv_replay.proofs.open.least_exit.Goals as goal

pub loop-atom-preserved : goal.loop-atom-preserved
loop-atom-preserved c =
    let i = c.loop-atom.invariant in
    let e = c.least_in-least-in-loop-atom.ensures in
    let task = c.args.task.now in
    let held = c.args.held.now in
    let new = c.least_in-least-in-loop-atom.result in
    let upto = e.upto in
    let P : ℕ → Type 0 = λ k. StaysListed task c.args.listed.now (state_of (atoms task) held) k in
    record {
      upto = let bound = i.upto in omega arith;
      last = λ action row less. i.last action row (omega arith);
      each = below_more (λ k. (action : ℕ) → IsInRow c.args.rows.now.items (get_or held k 0)
          action
          → action < new → P action) c.loop-atom.atom-index
          (λ k lt action row less. i.each k lt action row (omega arith))
          (λ action row less. e.stay action row less);
      exit = exit_more P (length task.actions) c.loop-atom.least new upto i.exit e.exit;
    }

pub returns-then-least-count-clause-first : goal.returns-then-least-count-clause-first
returns-then-least-count-clause-first c =
    let i = c.loop-atom.invariant in
    let past = c.loop-atom-test.false in
    let all = c.if-least-count.true in
    let count = c.actions-count.ensures.actions in
    λ k less.
    all_asked c.args.task.now c.args.listed.now c.args.held.now c.requires.held.below
    c.args.rows.now.items c.requires.rows c.loop-atom.least
    i.last (λ j within. i.each j (omega arith)) k (omega arith)

pub returns-clause-first : goal.returns-clause-first
returns-clause-first c =
    let i = c.loop-atom.invariant in
    let past = c.loop-atom-test.false in
    let upto = i.upto in
    let other = c.if-least-count.false in
    let count = c.actions-count.ensures.actions in (
      i.exit (omega arith),
      all_asked c.args.task.now c.args.listed.now c.args.held.now c.requires.held.below
          c.args.rows.now.items c.requires.rows c.loop-atom.least
          i.last (λ j within. i.each j (omega arith)),
    )
