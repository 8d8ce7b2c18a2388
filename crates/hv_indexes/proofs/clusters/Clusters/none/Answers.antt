use Rattle.hv_indexes.proofs.Mated.{none_are}
use Rattle.hv_indexes.proofs.clusters.Clusters.none.Goals as goal

pub returns : goal.returns
returns c =
    none_are (record { heads = c.new.result; places = c.new-2.result; list = c.new-3.result })
    c.new.ensures.items c.new-2.ensures.items c.new-3.ensures.clusters c.new-3.ensures.screens
