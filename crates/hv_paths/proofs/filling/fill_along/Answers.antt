use Rattle.std.proofs.Common.{false, get_or}
use Rattle.hv_sets.specs.declared.literal.Literal.{Literal}
use Rattle.hv_paths.proofs.Filled.{below_more, cube_more, cube_none}
use Rattle.hv_paths.proofs.filling.fill_along.Goals as goal

pub returns-then-not-branch-clause-none : goal.returns-then-not-branch-clause-none
returns-then-not-branch-clause-none c = λ _ s.
    let none : Literal = record { atom = 0; positive = false } in
    cube_none c.loop-literal.cube c.args.literals.now c.loop-literal.literal-index none s
    c.loop-literal-test.true (c.in_ok-add.ensures.opposite.0 c.if-not-branch.true)
    (c.loop-literal.invariant.0 s)

pub loop-literal-preserved : goal.loop-literal-preserved
loop-literal-preserved c =
    let none : Literal = record { atom = 0; positive = false } in
    let added = c.in_ok-add.ensures.added c.if-not-branch.false in
    let place = c.loop-literal.literal-index in (
      λ s. cube_more c.loop-literal.cube c.add.new.self c.args.literals.now place none s
          c.loop-literal-test.true added (c.loop-literal.invariant.0 s),
      λ n below. below_more n c.loop-literal.cube c.add.new.self
          (get_or c.args.literals.now place none) added (c.loop-literal.invariant.1 n below)
          (below place none c.loop-literal-test.true),
    )
