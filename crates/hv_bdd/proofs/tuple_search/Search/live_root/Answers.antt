use Rattle.std.proofs.Common.{◌∙◌}
use Rattle.hv_bdd.proofs.Tupled.{roots_tuple}
use Rattle.hv_bdd.proofs.tuple_search.Search.live_root.Goals as goal

pub is_live-requires : goal.is_live-requires
is_live-requires c =
    roots_tuple c.args.self.now c.roots.ensures.search c.as_slice.result.now
    (c.as_slice.ensures ∙ c.in_ok-root.ensures.roots)
