use Rattle.std.proofs.Common.{◌-◌, length, sym, arith}
use Rattle.std.proofs.lemmas.Option.{get_or_from_slice_get}
use Rattle.hv_task.proofs.Rising.{place_from_search, place_at_end}
use Rattle.hv_task.proofs.atom_list.place_of.Goals as goal

pub returns-in-Some : goal.returns-in-Some
returns-in-Some c = place_from_search c.args.atoms.now c.args.atom c.binary_search.result c.requires
    c.binary_search.ensures.position

pub returns-in_default : goal.returns-in_default
returns-in_default c =
    place_at_end c.args.atoms.now c.args.atom c.requires
    (λ _.
    let last = get_or_from_slice_get c.args.atoms.now (length c.args.atoms.now - 1)
    c.in-Some.last.now 0 (sym c.in-Some.ensures.value) in
    omega arith)
