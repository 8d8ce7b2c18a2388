use Rattle.std.proofs.Common.{◌+◌, ◌∙◌, ap, length, subst, sym}
use Rattle.std.proofs.lemmas.List.{length_push}
use Rattle.hv_bdd.specs.Working.Excluding.{IsMask}
use Rattle.hv_bdd.proofs.Excluded.{masks_more}
use Rattle.hv_bdd.proofs.node_exclusions.sweep.Goals as goal

pub loop-lesser-preserved : goal.loop-lesser-preserved
loop-lesser-preserved c =
    let i = c.loop-lesser.invariant in
    let list = c.args.side.now.nodes.now in
    let inside = c.args.side.now.inside in
    let masks = c.loop-lesser.masks.items in
    let mask = c.mask_of-mask.result in
    let more = c.in_ok-push.ensures.items in (
      ap length more ∙ (length_push masks mask ∙ ap (λ n. n + 1) i.0),
      masks_more list inside c.args.batch masks c.push.new.self.items mask i.1
          (subst (λ n. IsMask list inside c.args.batch n mask) (sym i.0) c.mask_of-mask.ensures)
          more,
    )
