use Rattle.hv_indexes.proofs.Alone.{nothing_implied}
use Rattle.hv_indexes.proofs.implication_lists.ImplicationLists.none.Goals as goal

pub returns : goal.returns
returns c = nothing_implied
