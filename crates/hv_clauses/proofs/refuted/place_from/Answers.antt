use Rattle.std.proofs.Common.{Ok, Err, inl, inr, refl}
use Rattle.hv_task.proofs.Rising.{place_from_search}
use Rattle.hv_task.proofs.Next.{first_from_place}
use Rattle.hv_clauses.proofs.refuted.place_from.Goals as goal

pub returns-in-Ok : goal.returns-in-Ok
returns-in-Ok c =
    let found = place_from_search c.args.places.now c.args.from (Ok c.in-Ok.place) c.requires
    c.in-Ok.ensures.position in
    first_from_place c.args.places.now c.args.from (Ok c.in-Ok.place) c.requires found c.in-Ok.place
    (inl refl)

pub returns-in-Err : goal.returns-in-Err
returns-in-Err c =
    let found = place_from_search c.args.places.now c.args.from (Err c.in-Err.place) c.requires
    c.in-Err.ensures.position in
    first_from_place c.args.places.now c.args.from (Err c.in-Err.place) c.requires found
    c.in-Err.place (inr refl)
