use Rattle.hv_reach.proofs.Waiting.{listed_more}
use Rattle.hv_reach.proofs.atom_search.list_of.Goals as goal

pub loop-atom-preserved : goal.loop-atom-preserved
loop-atom-preserved c = listed_more c.args.held.now c.loop-atom.list c.put.new.list c.loop-atom.atom
    c.loop-atom.invariant c.in_ok-put.ensures
