use Rattle.std.proofs.Common.{arith, get_or}
use Rattle.std.proofs.lemmas.List.Elements.{Contains-get_or}
use Rattle.hv_explicit.proofs.atom_columns.meeting_all.Goals as goal

pub loop-place-preserved : goal.loop-place-preserved
loop-place-preserved c = λ place each.
    let k = c.loop-place.place in
    c.meet_with.ensures place (c.loop-place.invariant place each)
    (each (get_or c.args.atoms.now k 0)
    (Contains-get_or c.args.atoms.now k 0 (let less = c.loop-place-test.true in omega arith)))
