use Rattle.std.proofs.Common.{length-append, arith, ◌∷◌, []}
use Rattle.hv_task.proofs.Lists.{rows_push}
use Rattle.hv_rows.proofs.entering.empty_rows.Goals as goal

pub loop-place-preserved : goal.loop-place-preserved
loop-place-preserved c =
    let i = c.loop-place.invariant in
    let e = c.in_ok-push.ensures.items in
    record {
      size = rw e (let f = i.size in omega (
        arith,
        length-append c.loop-place.rows.items
            (c.new.result ∷ []),
      ));
      below = λ bound. rw e (rows_push bound c.loop-place.rows.items c.new.result
          c.new.ensures.items (i.below bound));
    }
