use Rattle.std.proofs.Common.{Some}
use Rattle.hv_reach.proofs.Entering.{first_of_mask}
use Rattle.hv_reach.proofs.columns.first_in.Goals as goal

pub returns-clause-found : goal.returns-clause-found
returns-clause-found c =
    let met = c.meet_columns.ensures in
    first_of_mask c.args.columns.now.items c.args.list.now c.meet_columns.new.mask c.args.from
    (Some c.in_ok-place.place) met.size met.sound met.complete c.in_ok-place.ensures
