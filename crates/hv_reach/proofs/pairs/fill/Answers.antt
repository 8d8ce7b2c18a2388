use Rattle.std.proofs.Common.{◌<◌, ◌∙◌, arith, length, length-set, sym, true}
use Rattle.hv_task.specs.Strips.{atoms}
use Rattle.hv_reach.proofs.Served.{space_left, stand_new, told_start}
use Rattle.hv_reach.proofs.Start.{closed_kept, keeps_closed, listed_below, listed_paired}
use Rattle.hv_reach.proofs.Start.{paired_listed, ready_start}
use Rattle.hv_reach.specs.Reached.{has_pair}
use Rattle.hv_reach.specs.Working.Course.{IsAskedFor}
use Rattle.hv_reach.specs.Working.Table.{PairsWithin}
use Rattle.hv_reach.proofs.pairs.fill.Goals as goal

pub mark_all-requires-clause-below : goal.mark_all-requires-clause-below
mark_all-requires-clause-below c =
    listed_below c.args.start.now c.args.held.now c.atoms-atoms.result
    (c.requires.state ∙ sym c.atoms-atoms.ensures.atoms) c.requires.held

pub turn-requires-clause-search : goal.turn-requires-clause-search
turn-requires-clause-search c =
    let n = atoms c.args.task.now in
    let actions = c.args.task.now.actions in
    let same = c.atoms-atoms.ensures.atoms in
    let step = rw same at c.mark_all.ensures.step in
    let size = step.size in
    let many = c.requires.space.flags in
    let less : n < length c.mark_all.new.flags = omega arith in
    let known = c.in_ok-forget.ensures in
    let sized = rw (same, c.actions.ensures.actions) at known.sized in
    rw (c.set.ensures, same) (record {
      table = step.table;
      size = length-set c.mark_all.new.flags n true ∙ omega arith;
      ready = ready_start n actions c.clear_table.new.rows.items c.mark_all.new.rows.items
          c.args.search.now.flags c.mark_all.new.flags c.mark_all.result step
          c.clear_table.ensures.none less;
      told = told_start n (IsAskedFor actions) c.clear_table.new.rows.items
          c.mark_all.new.rows.items c.args.search.now.flags c.mark_all.new.flags c.mark_all.result
          c.forget.new.course.told.items step c.clear_table.ensures.none known.none
          (rw same at known.told) less;
      stand = stand_new actions c.forget.new.course.told.items c.mark_all.new.rows.items
          c.forget.new.course.standing.items sized.standing
          (rw c.actions.ensures.actions at known.new);
      sized = sized;
    })

pub returns-clause-space : goal.returns-clause-space
returns-clause-space c = space_left c.args.task.now c.close.new.search c.close.ensures.search

pub returns-clause-reached : goal.returns-clause-reached
returns-clause-reached c = λ p q.
    let task = c.args.task.now in
    let start = c.args.start.now in
    let held = c.args.held.now in
    let listed = c.requires.held in
    let rows = c.mark_all.new.rows.items in
    let found = c.close.new.search.rows.items in (
      λ h r closed.
          let keeps = keeps_closed task start r closed in
          let first : PairsWithin rows r = c.mark_all.ensures.least r closed.even
          (listed_paired start held r listed closed.begins)
          (λ x y e. let f = c.clear_table.ensures.none x y in absurd cc) in
          c.close.ensures.least r closed.even keeps
          (c.turn.ensures.turn.least r closed.even keeps first) p q h,
      λ h. h (has_pair found)
          (closed_kept task start (has_pair found) c.close.ensures.search.table.even
          (λ x y hx hy. c.close.ensures.grows x y (c.turn.ensures.turn.grows x y
          (paired_listed start held (has_pair rows) listed c.mark_all.ensures.set x y hx hy)))
          c.close.ensures.keeps),
    )
