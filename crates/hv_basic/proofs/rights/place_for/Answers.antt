use Rattle.hv_basic.proofs.Sharing.{place_before, place_behind, there_at}
use Rattle.hv_basic.proofs.rights.place_for.Goals as goal

pub returns-then-place-asked : goal.returns-then-place-asked
returns-then-place-asked c =
    place_behind c.args.asked.now c.args.set c.lesser_before-place.result c.requires
    c.lesser_before-place.ensures c.if-place-asked.true

pub returns-then-found-set : goal.returns-then-found-set
returns-then-found-set c =
    there_at c.args.asked.now c.args.set c.lesser_before-place.result c.if-place-asked.false
    c.if-found-set.true

pub returns : goal.returns
returns c =
    place_before c.args.asked.now c.args.set c.lesser_before-place.result _ c.requires
    c.lesser_before-place.ensures c.if-place-asked.false c.if-found-set.false
