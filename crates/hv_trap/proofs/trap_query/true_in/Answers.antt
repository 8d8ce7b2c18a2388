use Rattle.hv_sets.specs.Truth.{in_clause}
use Rattle.hv_trap.proofs.Enclosing.{filter_next}
use Rattle.hv_trap.proofs.trap_query.true_in.Goals as goal

pub loop-place-preserved : goal.loop-place-preserved
loop-place-preserved c =
    filter_next (λ x. in_clause x c.args.state.now) c.args.clauses.now c.loop-place.place
    c.get.result.now c.loop-place.kept
    c.put_true.new.kept c.get.ensures c.loop-place.invariant c.in_ok-put_true.ensures
