use Rattle.std.proofs.Common.{◌+◌, ◌++◌, ◌∷◌, [], sym, subst, take, arith}
use Rattle.std.proofs.lemmas.List.{take_all}
use Rattle.std.proofs.lemmas.Option.{get_or_from_slice_get}
use Rattle.hv_task.proofs.Lists.{take_next}
use Rattle.hv_sets.specs.Cubes.{SpeakBelow}
use Rattle.hv_trap.specs.Working.Quick.{ArePairs}
use Rattle.hv_trap.proofs.Quickly.{pairs_more}
use Rattle.hv_trap.proofs.quick.QuickClauses.set.Goals as goal

pub loop-place-preserved : goal.loop-place-preserved
loop-place-preserved c = λ bound below.
    let clauses = c.args.clauses.now in
    let place = c.loop-place.place in
    let pairs = c.loop-place.self.pairs.items in
    let end = c.len-place-end.ensures in
    let less = c.loop-place-test.true in
    let short = subst (SpeakBelow bound)
    (get_or_from_slice_get clauses place c.get.result.now [] c.get.ensures)
    (below place [] (omega (arith, end, less))) in
    let more = pairs_more bound (take place clauses) pairs c.get.result.now c.in-Some.pair
    (c.loop-place.invariant bound below) (c.in-Some.ensures bound short) in
    subst (λ qs. ArePairs bound (take (place + 1) clauses) qs) (sym c.in_ok-push.ensures.items)
    (subst (λ cs. ArePairs bound cs (pairs ++ c.in-Some.pair ∷ []))
    (sym (take_next clauses place c.get.result.now c.get.ensures)) more)

pub returns : goal.returns
returns c = λ short bound below.
    let end = c.len-place-end.ensures in
    let past = c.loop-place-test.false in
    subst (λ cs. ArePairs bound cs c.loop-place.self.pairs.items)
    (take_all c.loop-place.place c.args.clauses.now (omega (arith, end, past)))
    (c.loop-place.invariant bound below)
