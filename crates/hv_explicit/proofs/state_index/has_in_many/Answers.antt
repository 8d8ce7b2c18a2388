use Rattle.std.proofs.Math.Logic.Iff
use Rattle.hv_explicit.proofs.LookUp.{listed_first}
use Rattle.hv_explicit.proofs.state_index.has_in_many.Goals as goal

pub returns : goal.returns
returns g c =
    Iff.trans c.look_up.ensures (listed_first (g.A.Sought.has c.args.held.now) c.args.states.now
    c.args.many.now.firsts.places.items c.requires.index.firsts_are)
