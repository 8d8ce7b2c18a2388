use Rattle.std.proofs.Common.{◌≤◌, ◌∙◌, ◌++◌, ap, arith, length, subst, sym}
use Rattle.hv_bdd.specs.Fronts.{AreBelowBound}
use Rattle.hv_bdd.specs.Working.Fronts.{MovesTo}
use Rattle.hv_bdd.proofs.Advanced.{ahead_begun, ahead_over, ahead_rest, below_both, extends_more}
use Rattle.hv_bdd.proofs.Advanced.{extends_same}
use Rattle.hv_bdd.proofs.level.advance.Goals as goal

pub loop-at-init : goal.loop-at-init
loop-at-init c =
    let list = c.args.side.now.nodes.now in
    let queue = c.args.queue.now.items in (
      c.note_all.ensures,
      c.requires.queue,
      λ k less. let size = ap length c.requires.out in absurd (omega arith),
      extends_same queue,
      ahead_begun list c.args.side.now.inside c.args.out.now.items queue,
    )

pub loop-at-preserved : goal.loop-at-preserved
loop-at-preserved c =
    let i = c.loop-at.invariant in (
      c.move_one.ensures.places ∙ i.0,
      subst (λ n. AreBelowBound n c.move_one.new.queue.items) i.0 c.in_ok-move_one.ensures.queue,
      subst (λ n. AreBelowBound n c.move_one.new.out.items) i.0 c.in_ok-move_one.ensures.out,
      extends_more c.args.queue.now.items c.loop-at.queue.items c.move_one.new.queue.items i.3
          c.in_ok-move_one.ensures.extends,
      c.in_ok-move_one.ensures.ahead,
    )

pub returns-then-at-len-clause-moves : goal.returns-then-at-len-clause-moves
returns-then-at-len-clause-moves c =
    let queue = c.loop-at.queue.items in
    let past : length queue ≤ c.loop-at.at = omega arith in
    ahead_over c.args.side.now.nodes.now c.args.side.now.inside c.args.queue.now.items
    c.loop-at.out.items queue c.loop-at.at past c.loop-at.invariant.3 c.loop-at.invariant.4

pub returns-clause-moves : goal.returns-clause-moves
returns-clause-moves c =
    subst (λ xs. MovesTo c.args.side.now.nodes.now c.args.side.now.inside c.args.queue.now.items xs)
    (sym (c.in_ok-extend_from_slice.ensures.items
    ∙ ap (λ xs. c.loop-at.out.items ++ xs) c.as_slice-2.ensures.value))
    (ahead_rest c.args.side.now.nodes.now c.args.side.now.inside c.args.queue.now.items
    c.loop-at.out.items
    c.loop-at.queue.items c.loop-at.invariant.3)

pub returns-clause-below : goal.returns-clause-below
returns-clause-below c =
    let bound = length c.args.places.now.items in
    subst (AreBelowBound bound)
    (sym (c.in_ok-extend_from_slice.ensures.items
    ∙ ap (λ xs. c.loop-at.out.items ++ xs) c.as_slice-2.ensures.value))
    (below_both bound c.loop-at.out.items c.loop-at.queue.items c.loop-at.invariant.2
    c.loop-at.invariant.1)
