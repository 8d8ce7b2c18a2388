use Rattle.std.proofs.Common.{◌∙◌, ap, arith, get_or, length, subst, refl}
use Rattle.hv_task.specs.Strips.{atoms}
use Rattle.hv_reach.proofs.Sets.{slice_get_at}
use Rattle.hv_reach.proofs.Served.{stand_end, stand_more, stand_next, told_for, told_step}
use Rattle.hv_reach.proofs.Steps.{pair_step_both}
use Rattle.hv_reach.proofs.Turns.{ready_end, ready_more}
use Rattle.hv_reach.specs.Working.Course.{IsAskedFor, IsNews}
use Rattle.hv_reach.specs.Working.Table.{IsPairStep, HasItsPairs}
use Rattle.hv_reach.proofs.pair_search.wake.Goals as goal

pub visit-moved-requires-clause-told : goal.visit-moved-requires-clause-told
visit-moved-requires-clause-told c =
    rw c.atoms.ensures.atoms
    (told_for (atoms c.args.task.now) c.args.task.now.actions c.loop-number.search.rows.items
    c.loop-number.search.flags c.loop-number.search.course.told.items
    (get_or c.args.numbers.now c.loop-number.number-index 0) c.action.result.now
    c.action.ensures.named c.loop-number.invariant.told)

pub visit-moved-requires-clause-stands : goal.visit-moved-requires-clause-stands
visit-moved-requires-clause-stands c =
    let i = c.loop-number.invariant in
    let size = i.sized.standing in
    let below = c.requires.numbers c.loop-number.number-index 0 (omega arith) in
    let x = get_or c.args.numbers.now c.loop-number.number-index 0 in
    stand_next c.args.numbers.now c.loop-number.number-index x
    (IsNews c.loop-number.search.course.news) c.args.task.now.actions
    c.loop-number.search.course.told.items c.loop-number.search.rows.items
    c.loop-number.search.course.standing.items c.action.result.now c.index-standing.result.now
    i.stand c.action.ensures.named
    (slice_get_at c.loop-number.search.course.standing.items x c.index-standing.result.now
    (omega arith) c.index-standing.ensures)

pub loop-number-preserved : goal.loop-number-preserved
loop-number-preserved c =
    let i = c.loop-number.invariant in
    let e = c.visit-moved.ensures in
    let n = c.atoms.ensures.atoms in
    let x = get_or c.args.numbers.now c.loop-number.number-index 0 in
    let old = c.loop-number.search.course in
    let new = c.visit-moved.new.course in
    let step = subst (λ m. IsPairStep m c.loop-number.search.rows.items c.loop-number.search.flags
    c.visit-moved.new.rows.items c.visit-moved.new.flags c.visit-moved.result) n e.step in
    let stand = stand_more c.args.numbers.now c.loop-number.number-index x (IsNews old.news)
    c.args.task.now.actions old.told.items c.loop-number.search.rows.items
    c.visit-moved.new.rows.items old.standing.items new.standing.items c.action.result.now refl
    step.grows i.stand c.action.ensures.named e.kept.others e.stands in
    record {
      step = pair_step_both _ _ _ _ _ _ _ _ _ i.step step;
      told = rw e.kept.told
          (told_step (atoms c.args.task.now) (IsAskedFor c.args.task.now.actions)
          c.loop-number.search.rows.items c.visit-moved.new.rows.items c.loop-number.search.flags
          c.visit-moved.new.flags c.visit-moved.result old.told.items step i.told);
      news = rw e.kept.news i.news;
      sized = record {
        standing = e.kept.count ∙ i.sized.standing;
        mask = e.kept.mask ∙ i.sized.mask;
        seen = ap length e.kept.seen ∙ i.sized.seen;
      };
      stand = rw (e.kept.news, e.kept.told) stand;
      ready = ready_more (atoms c.args.task.now) c.args.task.now.actions c.args.numbers.now
          c.loop-number.number-index x c.loop-number.search.rows.items c.visit-moved.new.rows.items
          c.loop-number.search.flags c.visit-moved.new.flags c.visit-moved.result
          c.action.result.now refl i.step.table step i.ready c.action.ensures.named
          (subst (λ m. HasItsPairs m c.visit-moved.new.rows.items c.visit-moved.new.flags
          c.action.result.now) n e.ready);
      least = λ r even keeps within. e.least r even
          (keeps x c.action.result.now c.action.ensures.named) (i.least r even keeps within);
    }

pub returns-clause-search : goal.returns-clause-search
returns-clause-search c =
    let i = c.loop-number.invariant in
    record {
      table = i.step.table;
      size = i.step.size ∙ c.requires.flags;
      ready = ready_end c.args.numbers.now c.loop-number.number-index (atoms c.args.task.now)
          c.args.task.now.actions c.loop-number.search.rows.items c.loop-number.search.flags
          (omega arith) i.ready;
      told = i.told;
      stand = stand_end c.args.numbers.now c.loop-number.number-index
          (IsNews c.loop-number.search.course.news) c.args.task.now.actions
          c.loop-number.search.course.told.items c.loop-number.search.rows.items
          c.loop-number.search.course.standing.items (omega arith) i.stand;
      sized = i.sized;
    }
