use Rattle.std.proofs.Common.{None, ap, arith, refl, sym}
use Rattle.std.proofs.Common.{◌∙◌, ◌<◌, length}
use Rattle.std.proofs.lemmas.List.{get_or_default}
use Rattle.hv_task.specs.State.{has_atom}
use Rattle.hv_indexes.specs.declared.clusters.Cluster.{Cluster}
use Rattle.hv_indexes.specs.declared.rows.RowHead.{RowHead}
use Rattle.hv_indexes.proofs.Mated.{due_more, due_tried, not_both}
use Rattle.hv_indexes.proofs.clusters.Clusters.are_true.Goals as goal

pub returns-then-not-holds : goal.returns-then-not-holds
returns-then-not-holds c =
    let none : Cluster = record { range = record { from = 0; upto = 0 }; screen = None } in
    c.if-not-holds.ensures none

pub loop-at-preserved-then-is_true_at : goal.loop-at-preserved-then-is_true_at
loop-at-preserved-then-is_true_at c =
    let them = c.args.self.now in
    let state = c.args.state.now in
    let head = c.index.result.now in
    let size = c.len-at-end.ensures in
    let less : c.loop-at.at < length them.heads.items = omega (arith, c.loop-at-test.true, size) in
    due_more c.args.clauses.now them state c.args.sign c.loop-at.at head.key
    (λ d. ap (λ (h : RowHead). h.key)
    (get_or_default them.heads.items c.loop-at.at d head less ∙ sym c.index.ensures))
    c.loop-at.invariant
    (λ out e. absurd (not_both c.args.sign (has_atom state head.key)
    (c.if-is_true_at.ensures refl) out))

pub loop-at-preserved : goal.loop-at-preserved
loop-at-preserved c =
    let them = c.args.self.now in
    let state = c.args.state.now in
    let head = c.index.result.now in
    let size = c.len-at-end.ensures in
    let less : c.loop-at.at < length them.heads.items = omega (arith, c.loop-at-test.true, size) in
    due_more c.args.clauses.now them state c.args.sign c.loop-at.at head.key
    (λ d. ap (λ (h : RowHead). h.key)
    (get_or_default them.heads.items c.loop-at.at d head less ∙ sym c.index.ensures))
    c.loop-at.invariant
    (λ out e. c.if-not-holds.ensures e)

pub returns : goal.returns
returns c =
    let size = c.len-at-end.ensures in
    due_tried c.args.clauses.now c.args.self.now c.args.state.now c.args.sign c.loop-at.at
    (omega (arith, c.loop-at-test.false, size)) c.loop-at.invariant
