use Rattle.std.proofs.Common.{false, refl}
use Rattle.std.proofs.lemmas.List.Elements.{Contains-get_or}
use Rattle.hv_basic.proofs.JointClauses.{found_of}
use Rattle.hv_basic.proofs.Mixing.{found_within}
use Rattle.hv_basic.proofs.joint.are_few.Goals as goal

pub number_of-requires : goal.number_of-requires
number_of-requires g c =
    let stored = c.requires _
    (Contains-get_or c.args.asked.now c.loop-set.set-index (0, false) c.loop-set-test.true) in
    (stored.number, stored.named)

pub get-requires : goal.get-requires
get-requires g c =
    let stored = c.requires _
    (Contains-get_or c.args.asked.now c.loop-set.set-index (0, false) c.loop-set-test.true) in
    found_within _ _ _ _ (found_of _ _ _ _ _ stored) c.args.store.now refl c.number_of.result
    c.number_of.ensures
