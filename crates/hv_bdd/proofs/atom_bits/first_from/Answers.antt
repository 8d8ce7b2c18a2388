use Rattle.std.proofs.Common.{Ok, Err, inl, inr, refl}
use Rattle.hv_task.proofs.Next.{first_from_place}
use Rattle.hv_bdd.proofs.atom_bits.first_from.Goals as goal

pub returns-in-Ok : goal.returns-in-Ok
returns-in-Ok c =
    first_from_place c.args.list.now c.args.from (Ok c.in-Ok.place) c.requires c.in-Ok.ensures
    c.in-Ok.place (inl refl)

pub returns-in-Err : goal.returns-in-Err
returns-in-Err c =
    first_from_place c.args.list.now c.args.from (Err c.in-Err.place) c.requires c.in-Err.ensures
    c.in-Err.place (inr refl)
