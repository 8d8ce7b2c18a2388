use Rattle.std.proofs.Common.{arith, refl}
use Rattle.std.proofs.lemmas.Bool.{not-false, not-true}
use Rattle.hv_propagation.specs.Trail.{marked}
use Rattle.hv_propagation.proofs.FoundRuns.{run_begun, run_step}
use Rattle.hv_propagation.proofs.Trailed.{length-marked}
use Rattle.hv_propagation.proofs.found_run.force_each.Goals as goal

pub loop-index-init : goal.loop-index-init
loop-index-init c =
    let base = marked c.args.atoms c.args.roots.now in
    let wide = length-marked c.args.atoms c.args.roots.now in
    let few = c.requires.few in
    run_begun c.args.entries.now c.args.from c.past_run-index.result base c.args.places.now
    c.args.queue.now c.args.len (omega arith) c.requires.joined c.past_run-index.ensures.after
    c.past_run-index.ensures.queued

pub returns-then-not-forced : goal.returns-then-not-forced
returns-then-not-forced c =
    let base = marked c.args.atoms c.args.roots.now in
    let wide = length-marked c.args.atoms c.args.roots.now in
    let few = c.requires.few in
    let low = c.if-entry-atoms.false in
    run_step c.args.entries.now c.args.from c.loop-index.index _ base _
    c.loop-index.places c.loop-index.queue _ _ c.loop-index.end c.force-forced.result
    (omega arith) c.loop-index-test.true refl (omega arith) c.loop-index.invariant
    c.force-forced.ensures _ (not-true _ c.if-not-forced.true)

pub loop-index-preserved : goal.loop-index-preserved
loop-index-preserved c =
    let base = marked c.args.atoms c.args.roots.now in
    let wide = length-marked c.args.atoms c.args.roots.now in
    let few = c.requires.few in
    let low = c.if-entry-atoms.false in
    run_step c.args.entries.now c.args.from c.loop-index.index _ base _
    c.loop-index.places c.loop-index.queue _ _ c.loop-index.end c.force-forced.result
    (omega arith) c.loop-index-test.true refl (omega arith) c.loop-index.invariant
    c.force-forced.ensures _ (not-false _ c.if-not-forced.false)
